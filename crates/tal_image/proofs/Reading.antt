-- How a file is read, one part after another.
pub mod Lengths
pub mod RowReadings
pub mod CodeRows
pub mod Bodies
pub mod Code
pub mod Limits
pub mod Steps
pub mod Images
