use Rattle.std.proofs.Common.{◌≡◌, drop}
use Rattle.std.specs.Prelude.{is_none}
use Rattle.image_linker.proofs.Mentions.Rows.{found}
use Rattle.image_linker.proofs.name_table.NameTable.first_missing.Given as goal

abbrev pub invariant-loop-i : goal.invariant-loop-i
invariant-loop-i l = found (λ o. is_none o.first) l.fn.self ≡ found (λ o. is_none o.first) (drop l.i l.fn.self)
