-- Definitions for private functions: they help proofs, and no public clause uses them.
pub mod Changing
pub mod Edits
pub mod Joining
pub mod OneAct
pub mod Readings
pub mod Saving
pub mod Telling
