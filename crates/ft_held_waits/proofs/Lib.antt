mod Latencies
mod Matching
mod Ordered
mod TwoTriggers
