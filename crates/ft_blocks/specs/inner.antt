-- Definitions for private functions: what stands around an entry that moves.
pub mod Moves
