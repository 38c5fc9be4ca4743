mod Laid
mod Names
