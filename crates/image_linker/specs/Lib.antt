-- Rows by their names over all units.
pub mod RowMentions
-- What a table of names keeps of them.
pub mod NameRows
-- What rows hold in the linked image.
pub mod LinkedRows
-- The linked code.
pub mod LinkedCode
-- What units link to.
pub mod Linked
-- Small units, linked by the definitions.
pub mod Examples
-- What holds of linking.
pub mod Laws
