pub mod CountComing
pub mod KeptBoardTold
pub mod MadeShelves
pub mod Makers
pub mod MadeStays
pub mod Reports
pub mod MadeRows
pub mod Changes
