-- Definitions for private functions.
pub mod Columns
pub mod Cuts
pub mod Lines
pub mod Marks
pub mod Payloads
