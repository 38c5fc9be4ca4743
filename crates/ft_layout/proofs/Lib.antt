mod Filled
mod NextCopied
mod RefusedBack
mod WithoutBreak
