-- Names in the order of first mention.
pub mod Firsts
-- Their numbers.
pub mod Numbers
-- What is kept of a name, with one row more.
pub mod Rows
-- The entries of the map.
pub mod Entries
