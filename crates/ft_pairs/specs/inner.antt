-- Definitions for private functions.
pub mod Met
pub mod Sides
