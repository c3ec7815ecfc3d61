pub mod Allocations
pub mod Steps
pub mod Counts
