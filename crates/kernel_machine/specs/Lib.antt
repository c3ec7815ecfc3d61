-- The words that a machine shows.
pub mod Shown
-- A machine: when it stands for a state and follows a journal.
pub mod Machine
-- How a machine is made and takes a turn.
pub mod Stepping
-- The quick forms of the code.
pub mod Prepared
-- The law of what is shown.
pub mod Laws
