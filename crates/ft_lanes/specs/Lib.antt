pub mod Held
pub mod Codes
pub mod Edits
pub mod Listing
pub mod Loaded
pub mod Walks
pub mod inner
pub use Rattle.ft_store.specs.Stored
