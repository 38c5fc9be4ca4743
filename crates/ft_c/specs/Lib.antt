pub mod Calls
pub mod Codes
pub mod Copies
pub mod Owned
pub mod Policies
