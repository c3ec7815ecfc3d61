-- Values, objects and states.
pub mod Values
pub mod Stores
pub mod States
-- The code, and what an instruction does to a state.
pub mod Code
pub mod Operands
pub mod Words
pub mod Effects
-- What is reached, and what an allocation is answered.
pub mod Reaching
pub mod Placing
-- Turns and runs.
pub mod Switches
pub mod Replies
pub mod Turns
-- Which states are typed.
pub mod Frames
pub mod Typing
-- Computed by the definitions: stores, gaps and runs.
pub mod Examples
pub mod HeapExamples
