pub mod Fronts
pub mod Digits
pub mod Skips
pub mod Places
pub mod WordTable
