-- what unit files are: a unit and its bytes, the conditions, what a unit keeps, its fields, and what holds of them. These are
-- what public clauses speak of
pub mod Unit
pub mod Conditions
pub mod Formed
pub mod Fields
pub mod Laws
-- what a unit keeps beside its rows, and how a unit is read: these are the crate's own
pub mod Kept
pub mod ClassNames
pub mod CodeWords
pub mod UnitReading
