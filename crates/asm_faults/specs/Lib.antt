-- What a step answers beside its definition.
pub mod Answers
