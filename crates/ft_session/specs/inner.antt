-- Definitions for private functions: the report of several edits as one, and which of many strikes come first.
pub mod JointReports
pub mod Fronts
