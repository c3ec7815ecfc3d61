-- What is said of the keys of a set, said of their names.
pub mod NameSetLaws
-- A lineage, level by level.
pub mod Lineages
-- The lines of a class, one after another.
pub mod ClassLines
-- Mentions one after another.
pub mod Appends
