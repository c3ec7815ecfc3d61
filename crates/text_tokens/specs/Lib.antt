-- What tokens are, and the words among them.
pub mod Token
pub mod Words
-- Tokens from bytes.
pub mod Bytes
pub mod Numbers
pub mod Pieces
pub mod Lexing
-- A place in a line, as its reader has it.
pub mod Tokens
-- What the laws say.
pub mod Laws
