-- Definitions for private functions: tables of made events, filled from nothing.
pub mod First
