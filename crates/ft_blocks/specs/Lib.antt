pub mod Sorted
pub mod Blocks
pub mod Seen
pub mod inner
