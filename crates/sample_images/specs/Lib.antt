-- The texts of the sample.
pub mod Samples
-- The text of the large run.
pub mod Stress
