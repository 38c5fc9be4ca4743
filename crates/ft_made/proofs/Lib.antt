pub mod Views
pub mod Same
pub mod Order
pub mod MadeTables
pub mod Counters
