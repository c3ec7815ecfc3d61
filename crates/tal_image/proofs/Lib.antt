pub mod Meaning
pub mod Reading
pub mod Classes
pub mod Finding
