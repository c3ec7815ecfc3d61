pub mod Passing
pub mod Limits
-- Names that are declared line by line, and their numbers.
pub mod Declared
-- What is known where all trials of a line passed.
pub mod LineSteps
-- What the tables keep with a row more.
pub mod RowsKept
