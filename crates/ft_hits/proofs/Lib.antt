pub mod Before
pub mod Columns
pub mod Flat
mod Whole
pub mod Only
pub mod Runs
