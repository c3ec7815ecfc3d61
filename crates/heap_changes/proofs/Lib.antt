pub mod Within
pub mod Bounds
pub mod Replacing
pub mod Beginning
