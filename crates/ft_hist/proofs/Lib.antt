mod Appends
mod Asked
mod KindLemmas
mod ModifierLemmas
mod PartLemmas
pub mod PowerLemmas
mod Summed
