-- Classes: how they are read, what is known of those above them, and their table.
pub mod Readings
pub mod Sizes
pub mod ClassTables
