pub mod Held
pub mod Latencies
