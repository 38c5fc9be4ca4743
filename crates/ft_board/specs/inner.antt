-- Definitions for private functions: what is kept of a base, an event that comes or goes, which rows of made events may differ, what their tables are brought up to date by, what is reported and what is told.
pub mod Edits
pub mod MadeRows
pub mod Mending
pub mod Readings
pub mod Reported
pub mod Told
pub mod Views
