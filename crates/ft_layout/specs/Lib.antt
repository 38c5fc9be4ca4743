pub mod Copied
pub mod Events
pub mod Names
pub mod Places
pub mod Refusals
pub mod Rows
pub mod Words
