-- Definitions for private functions: how replaying goes on, and what is left of lanes while they are listed.
pub mod Replaying
pub mod Rests
