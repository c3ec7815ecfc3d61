pub mod Orders
pub mod Registers
pub mod Meanings
