pub mod Notes
pub mod Holes
pub mod Doubt
pub mod Telling
pub mod Joining
pub mod inner
