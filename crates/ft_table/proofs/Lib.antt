mod Appends
pub mod AtEdge
pub mod Edits
pub mod Orders
pub mod Changes
pub mod Comings
mod Counts
pub mod Distinct
mod Edges
mod Empty
mod FirstPlaces
pub mod Firsts
mod Fits
mod Growths
mod KeyedRows
pub mod Members
mod OneKeys
mod Outside
mod Ranks
pub mod Retained
pub mod Runs
mod Sorted
mod Splits
pub mod Standings
mod Tallies
mod Windows
mod Added
mod Examples
mod Hexadecimal
mod InOrder
mod KeyParts
pub mod Rising
mod RowOrders
