-- Names in the order of first mention, and what is kept of them.
pub mod Mentions
-- What is linked is an image.
pub mod Formed
