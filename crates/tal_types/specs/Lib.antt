pub mod Types
pub mod Contexts
pub mod Kept
pub mod Shown
pub mod Laws
