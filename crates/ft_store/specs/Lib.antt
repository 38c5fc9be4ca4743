pub mod Codes
pub mod Stored
pub mod inner
