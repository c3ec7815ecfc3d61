-- A journal.
pub mod Journal
-- The Nucleus, and when it stands for a state.
pub mod Nucleus
-- Where turns lead.
pub mod Turning
-- What the parts of a call do.
pub mod Calling
-- Calls of the entries that touch the heap.
pub mod HeapEntries
