-- Definitions for private functions: keys in front of a table's last places, and the other keys, which follow.
pub mod Edge
