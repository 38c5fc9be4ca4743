pub mod ChangedRows
pub mod Watched
pub mod inner
