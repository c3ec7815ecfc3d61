-- lists
pub mod Lists
-- devices
pub mod Bits
pub mod Counts
pub mod Codes
pub mod Requests
pub mod Service
pub mod Grants
pub mod Shows
pub mod Steps
pub mod OneState
-- event files
pub mod Digits
pub mod LineForms
pub mod FileLines
pub mod EventLaws
