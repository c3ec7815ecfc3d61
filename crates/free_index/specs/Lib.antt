pub mod Classes
pub mod Free
pub mod Laws
pub mod Lists
pub mod Steps
