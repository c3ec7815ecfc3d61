-- An instruction's bytes, with 0 in what is left to the linker.
pub mod Holes
-- Where the labels of a function lie.
pub mod Labels
-- What the lines of a function add to a unit's code.
pub mod Functions
-- What the code of a unit keeps, by the conditions of unit files.
pub mod Formed
