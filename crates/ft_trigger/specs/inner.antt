-- Definitions for private functions.
pub mod FilterFaults
