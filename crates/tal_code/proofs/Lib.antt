-- Items one after another.
pub mod Steps
-- What is known of canonical spellings and of their whole words.
pub mod Spellings
-- Bytes with 0 in a word.
pub mod Zeroes
-- Counts within their limits.
pub mod Rooms
-- The lines of a function, one after another.
pub mod CodeLines
-- An instruction's bytes with 0 in its holes spell an instruction.
pub mod OpenWords
-- Rows whose offsets rise.
pub mod Rising
-- Where instructions begin in code, and where words lie in them.
pub mod Places
-- The instructions of functions, one after another.
pub mod Bodies
-- What becomes of whole words when one of them is cleared.
pub mod Clearing
-- Where the holes of an instruction lie.
pub mod Openings
-- The immediate numbers that marks are about.
pub mod Marks
-- The numbers in what words mean fit.
pub mod Ranges
-- What operands name, and in which words.
pub mod Shapes
-- What the bytes of a line's instruction keep.
pub mod Lines
-- Words are in range, and labels not far.
pub mod Reach
-- What a line adds to the code.
pub mod Added
-- What a function's lines add.
pub mod LinesAdd
-- A function leads on the code of those before it.
pub mod Leading
-- A function takes nothing from the code.
pub mod Growing
