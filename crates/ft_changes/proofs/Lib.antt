mod Fronts
pub mod Leading
mod FromMark
pub mod KeyLists
mod NearEdge
mod Others
mod SomeRivals
