pub mod Lines
pub mod Losses
pub mod Layouts
pub mod inner
