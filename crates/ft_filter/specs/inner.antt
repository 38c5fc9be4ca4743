-- Definitions for private functions, which no public clause uses.
pub mod Given
