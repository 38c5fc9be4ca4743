-- Definitions for private functions: they help proofs, and no public clause uses them.
pub mod Following
pub mod Joining
