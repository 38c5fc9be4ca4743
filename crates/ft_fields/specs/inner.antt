-- Definitions for private functions, besides those of the public clauses.
pub mod Texts
-- Definitions for private functions and types, which no public clause uses.
pub mod Stored
