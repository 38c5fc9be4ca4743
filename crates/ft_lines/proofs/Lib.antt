mod Cutting
mod OneMore
mod Noting
