-- Definitions for private functions.
pub mod Leaving
pub mod Stamps
