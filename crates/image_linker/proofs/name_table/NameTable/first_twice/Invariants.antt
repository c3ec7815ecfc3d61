use Rattle.std.proofs.Common.{◌≡◌, drop}
use Rattle.image_linker.proofs.Mentions.Rows.{found}
use Rattle.image_linker.proofs.name_table.NameTable.first_twice.Given as goal

abbrev pub invariant-loop-i : goal.invariant-loop-i
invariant-loop-i l = found (λ o. o.twice) l.fn.self ≡ found (λ o. o.twice) (drop l.i l.fn.self)
