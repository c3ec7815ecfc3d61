pub mod Areas
pub mod Classes
pub mod Faults
pub mod Laws
pub mod Layout
