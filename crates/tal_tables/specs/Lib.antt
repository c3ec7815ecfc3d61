-- What the lines of a module make in the tables of its unit.
pub mod Rows
-- What the code keeps, and what it does with a line.
pub mod Kept
-- What the tables keep.
pub mod Formed
