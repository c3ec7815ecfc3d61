-- What an image tells of its data and marks, and the laws.
pub mod Laws
