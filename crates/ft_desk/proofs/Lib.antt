pub mod LineLemmas
pub mod OutputLemmas
pub mod Progress
pub mod Endings
pub mod Written
pub mod InMemory
pub mod Ends
pub mod Flushed
