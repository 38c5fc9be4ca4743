pub mod Entries
pub mod Seen
pub mod Mapped
pub mod Steps
pub mod inner
