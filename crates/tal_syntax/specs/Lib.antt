-- How readers are put together, and single tokens and lists.
pub mod Reading
-- The forms: types and lists, operands and instructions, lines.
pub mod Rows
pub mod Operands
pub mod Forms
-- A text: its lines, and what is read of them.
pub mod Lines
pub mod Text
-- The same forms as sentences, and the first fault of a line by them.
pub mod Sentences
pub mod Grammar
pub mod Faults
pub mod Modules
