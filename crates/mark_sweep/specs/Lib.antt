pub mod Objects
pub mod Reached
pub mod Swept
pub mod Collections
pub mod Marking
