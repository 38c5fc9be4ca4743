pub mod Runs
pub mod Waiting
pub mod Figures
pub mod Telling
pub mod inner
