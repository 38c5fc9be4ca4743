-- Definitions for private functions: what a trigger counts, and what replaying leaves of readings.
pub mod Counts
pub mod Readings
