-- Definitions for private functions, which no public clause uses.
pub mod Asking
pub mod Printed
pub mod Ends
