pub mod Bare
mod Indexing
