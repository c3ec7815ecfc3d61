-- The digits of a word.
pub mod Words
