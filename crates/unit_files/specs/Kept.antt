-- What a unit keeps beside its rows.
use Rattle.std.specs.Prelude.{◌≡◌, map}
use Rattle.std.specs.List.{flat_map}
use Rattle.unit_files.specs.declared.unit.Unit.TheInside.{Inside}
use Rattle.unit_files.specs.Unit.{UnitArray, unit_of}
use Rattle.unit_files.specs.Formed.{UnitFormed}

-- the rows are a unit's, and beside them are the rows of its data arrays and their numbers
pub record KeepsUnit (a : Inside) : Type 0 where
  pub formed : UnitFormed (unit_of a.rows)
  pub rows : a.data_rows.items ≡ map (λ (x : UnitArray). x.row) a.rows.arrays.items
  pub words : a.data_words.items ≡ flat_map (λ (x : UnitArray). x.numbers) a.rows.arrays.items
