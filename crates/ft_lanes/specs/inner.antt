-- Definitions for private functions: where events stand in the store, and walks over such places.
pub mod Codes
pub mod Rows
pub mod Slots
