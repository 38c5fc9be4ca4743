-- Definitions for private functions: what an event makes of groups, where keys stand, which triggers read only numbers, and which numbers were met.
pub mod Adding
pub mod Finding
pub mod Recent
pub mod Runs
