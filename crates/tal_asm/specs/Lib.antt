-- What the lines of a module make, one after another.
pub mod Lines
-- The unit of a module, or its first fault.
pub mod UnitFor
-- What the code does with a line.
pub mod Steps
