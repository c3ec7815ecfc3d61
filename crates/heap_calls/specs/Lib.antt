-- What a call of the heap finds.
pub mod Finding
-- What it comes to.
pub mod Telling
