mod Actions
mod DraftLemmas
pub mod Handing
pub mod Numerals
mod Rounding
pub mod WordLemmas
