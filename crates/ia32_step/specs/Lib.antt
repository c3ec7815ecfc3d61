pub mod Flags
pub mod Sums
pub mod Shifts
pub mod Products
pub mod Conditions
pub mod Operands
pub mod Effects
pub mod Reaches
