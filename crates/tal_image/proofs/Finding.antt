-- What an image keeps beside its rows, and what is found by it.
pub mod RunningRows
pub mod KeyedRows
pub mod KeptRows
pub mod Spans
pub mod Indexes
pub mod DataArrays
pub mod Annotations
