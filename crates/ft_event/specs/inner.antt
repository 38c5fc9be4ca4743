-- Definitions for private functions, besides those of the public clauses.
pub mod Fronts
pub mod MarkOf
pub mod Steps
pub mod Texts
