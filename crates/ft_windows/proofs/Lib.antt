mod Noting
mod Keeping
mod Stretches
mod Below
mod Behind
