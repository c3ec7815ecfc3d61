pub mod ReachedFrom
