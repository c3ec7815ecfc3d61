pub mod Saying
pub mod Texts
-- the way back, as the code goes it
pub mod Meaning
