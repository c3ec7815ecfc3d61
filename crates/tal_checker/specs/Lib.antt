pub mod Instructions
pub mod WellTyped
pub mod Frames
pub mod Accepted
pub mod Passing
pub mod Running
pub mod Laws
