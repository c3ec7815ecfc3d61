pub mod Gaps
pub mod Takes
pub mod Layouts
pub mod Sums
pub mod ReachedSizes
pub mod FreshObjects
