pub mod Appends
pub mod Breaks
pub mod Fronts
pub mod Numbers
mod Quotes
mod Reach
pub mod PieceLemmas
pub mod Separators
pub mod Spelled
pub mod Spellings
pub mod Cuts
pub mod Deciding
pub mod FirstMembers
pub mod GlobMembers
pub mod Readings
pub mod Runs
pub mod SameReading
pub mod Stars
pub mod Tries
