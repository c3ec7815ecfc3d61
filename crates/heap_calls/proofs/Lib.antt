pub mod AtCalls
pub mod Keeping
pub mod Collecting
pub mod Allocating
