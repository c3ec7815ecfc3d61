-- Trials one after another.
pub mod Trials
-- What the lines of declarations declare.
pub mod Lines
