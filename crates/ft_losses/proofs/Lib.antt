mod AllHoles
mod Keeping
mod Lasting
mod Begun
mod Noting
pub mod Starts
pub mod Anywhere
pub mod Extended
pub mod Asking
pub mod Spanning
mod Behind
mod Together
