-- The terms of an operand in memory.
pub mod Addresses
-- Operands by themselves.
pub mod Operands
-- The operands of an instruction together.
pub mod Instructions
