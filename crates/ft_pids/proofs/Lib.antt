mod Written
mod Paged
