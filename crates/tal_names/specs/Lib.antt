-- Sets of names in the order of their first mention.
pub mod NameSets
-- What a module declares.
pub mod Declarations
-- What a name stands for.
pub mod LookUps
-- The names of a unit, in the order of their first mention.
pub mod Mentions
