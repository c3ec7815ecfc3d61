-- The lines of a class, up to its end.
pub mod Members
-- What the code does with a line.
pub mod Steps
-- What the rows of classes keep.
pub mod Formed
