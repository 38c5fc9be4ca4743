mod Arrows
pub mod Backs
mod Bodies
mod Breaks
mod Caps
pub mod Digits
mod Firsts
mod HeadLoop
mod Heads
mod Lines
mod Marks
mod Numbers
mod PartLemmas
pub mod Runs
mod Skips
mod StampCuts
mod Stamps
mod TurnCuts
mod WakeCuts
mod Unmade
