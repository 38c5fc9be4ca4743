pub mod Alike
pub mod Families
pub mod Outside
mod Putting
pub mod MergedLanes
mod OneEvent
pub mod EventLists
pub mod KeptShelves
pub mod Repaired
pub mod KeptFor
mod Changing
