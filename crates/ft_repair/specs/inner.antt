-- Definitions for private functions: what is kept while triggers join or leave, and while a lane goes.
pub mod Joining
pub mod Going
