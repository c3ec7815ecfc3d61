-- What the fields of a file stand for, both ways, and how far they reach.
pub mod Types
pub mod Header
pub mod Rows
pub mod Bodies
pub mod Files
pub mod Ends
pub mod Answered
