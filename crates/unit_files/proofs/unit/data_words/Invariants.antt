use Rattle.std.proofs.Common.{◌≡◌, take}
use Rattle.std.specs.List.{flat_map}
use Rattle.unit_files.specs.Unit.{UnitArray}
use Rattle.unit_files.proofs.unit.data_words.Given as goal

abbrev pub invariant-loop-array : goal.invariant-loop-array
invariant-loop-array l = l.words.items ≡ flat_map (λ (a : UnitArray). a.numbers) (take l.array-index l.arrays)
