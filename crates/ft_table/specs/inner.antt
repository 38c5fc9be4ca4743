-- Definitions for private functions: ranks in an order, its cut, a key on its way, what is kept beside the hits.
pub mod Ascending
pub mod Cut
pub mod InStep
pub mod Moves
pub mod Ordered
