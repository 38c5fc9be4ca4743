pub mod Known
pub mod Running
pub mod Streams
pub mod Starts
pub mod Seams
pub mod Lines
