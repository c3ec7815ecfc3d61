-- What the fields of a unit file stand for, both ways.
pub mod Rows
pub mod Code
pub mod Files
