-- Definitions for private functions and types, which no public clause uses.
pub mod Triggers
