mod Asking
mod Spelled
pub mod WordLemmas
pub mod WordWalk
mod Writable
