use Rattle.std.proofs.Common.{◌≡◌, ◌++◌, drop}
use Rattle.image_linker.proofs.Mentions.Rows.{places_in}
use Rattle.image_linker.proofs.name_table.NameTable.meant.Given as goal

abbrev pub invariant-loop-i : goal.invariant-loop-i
invariant-loop-i l = places_in l.fn.self ≡ l.places.items ++ places_in (drop l.i l.fn.self)
