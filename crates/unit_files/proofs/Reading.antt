-- How a unit file is read, one part after another.
pub mod Steps
pub mod RowReadings
pub mod CodeRows
pub mod Words
pub mod Known
pub mod Ends
pub mod Classes
pub mod Codes
pub mod Units
pub mod Answered
