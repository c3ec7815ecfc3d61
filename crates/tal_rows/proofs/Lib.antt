-- Rows one after another.
pub mod Steps
