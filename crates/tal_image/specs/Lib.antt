-- what image files are: an image and its bytes, the conditions, what an image keeps, its fields, what its rows stand for, and
-- what holds of them; what is shown of an image; how classes and code are read, for files of another kind with the same rows.
-- These are what public clauses speak of
pub mod Image
pub mod Conditions
pub mod Formed
pub mod Fields
pub mod Rows
pub mod Laws
pub mod Shown
pub mod ClassReading
pub mod CodeReading
-- what an image keeps beside its rows, and how an image is read: these are the crate's own, but for ClassHasWords, which the
-- writer of a class asks for
pub mod Kept
pub mod ImageReading
