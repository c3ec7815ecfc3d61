-- Elements of lists.
pub mod Members
-- Names, and the rows that they mean.
pub mod Names
-- The rows of one table over all units.
pub mod Rows
-- What no fault says.
pub mod Clean
-- Each table.
pub mod Tables
-- What rows hold by their bytes.
pub mod Bytes
-- Types, signatures, array kinds, statics and data arrays.
pub mod Types
-- The heap, the stacks and the functions at which they begin.
pub mod Entries
-- Classes of tables that agree.
pub mod Lineages
-- The order of classes.
pub mod Order
-- Signatures of functions.
pub mod Functions
-- Classes.
pub mod Classes
-- Instructions with another whole word.
pub mod Words
-- Holes filled.
pub mod Fills
-- Instructions one after another.
pub mod Instructions
-- Filled code.
pub mod Refilled
-- The instructions of a unit's function.
pub mod UnitCode
-- The code of a function in the image.
pub mod BodyCode
-- Each function of the image.
pub mod Bodies
-- The words of marks.
pub mod MarkWords
-- The code of the image.
pub mod ImageCode
-- What is linked is an image.
pub mod Image
