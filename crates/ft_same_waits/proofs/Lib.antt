mod Filtered
mod Loaded
mod Read
