-- what a file is: its fields, what they stand for, and the first that breaks its condition
pub mod Grammar
pub mod Laws
-- how a file is read, and what a reader promises
pub mod Reading
-- what holds of parts one after another, for parts of every type
pub mod Parts
pub mod Composed
-- how far fields reach
pub mod Reach
