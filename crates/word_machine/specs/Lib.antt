-- The memory, and which word stands at an address.
pub mod Memory
-- When words stand for a typed state.
pub mod Standing
-- What an instruction on words comes to, for every state that they stand for.
pub mod Following
-- The laws.
pub mod Laws
-- The parts of a step.
pub mod Stepping
