pub mod NumberClass
pub mod NumberObjects
