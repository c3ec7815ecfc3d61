-- The reference words of the data area.
pub mod DataArea
-- The words that are listed.
pub mod Listing
-- When the words stand for a state at a call.
pub mod Standing
-- The law of roots.
pub mod Laws
-- What is still to be listed.
pub mod Rest
