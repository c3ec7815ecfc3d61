-- Lines on the error stream.
pub mod Lines
-- What an assembly text comes to.
pub mod Texts
-- Why the files of a command stop it.
pub mod Causes
-- What is seen of a call from outside.
pub mod Seen
-- The form of a command, and each command in this form.
pub mod Forms
pub mod Checks
pub mod Listings
pub mod Runs
pub mod Assembling
-- All commands.
pub mod Commands
-- What a call came to.
pub mod Outcome
-- What stops a command in the code.
pub mod Stops
