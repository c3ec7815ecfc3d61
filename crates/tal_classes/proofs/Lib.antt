-- The fields of a class and of those above it, level by level.
pub mod Levels
-- Rows that are as they must be, one after another.
pub mod Rows
-- The lines of a class keep what a class keeps.
pub mod OpenClasses
-- A class behind those before it.
pub mod Ancestors
-- The conditions of a class.
pub mod ClassRows
