-- Definitions for private functions: what an entry holds.
pub mod Held
