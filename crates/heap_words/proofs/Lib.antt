pub mod HeaderLaws
pub mod Places
pub mod BlockLists
pub mod Writes
pub mod Cuts
pub mod NewHeap
pub mod BlockLaws
