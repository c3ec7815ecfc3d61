-- Items one after another.
pub mod Steps
