pub mod Reading
pub mod Unmade
pub mod Edits
mod Found
