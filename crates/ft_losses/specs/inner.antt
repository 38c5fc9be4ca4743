pub mod Lanes
pub mod Stretches
pub mod Joined
