-- Definitions for private functions: how a store packs its events.
pub mod Packing
