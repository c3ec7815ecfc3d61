-- What mentions a name, part by part.
pub mod Mentioned
-- What the code takes, one after another.
pub mod Taken
-- What lines mention is among the names of the unit.
pub mod UnitNames
-- The types that a module names are those of its tables.
pub mod Types
-- The lines of a module keep what tables and code keep.
pub mod LinesKeep
-- What the lines of a module make is a unit.
pub mod Joined
-- Names among tokens.
pub mod NameTokens
-- Names that sentences say.
pub mod SaidNames
-- Names of a module.
pub mod ModuleNames
