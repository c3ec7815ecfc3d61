use Rattle.std.proofs.Common.{◌≡◌, [], take, drop}
use Rattle.tal_rows.specs.Lines.{repeats}
use Rattle.tal_rows.proofs.registers.repeats.Given as goal

-- what is left behind those before decides
abbrev pub invariant-loop-i : goal.invariant-loop-i
invariant-loop-i l = repeats (take l.i l.rows) (drop l.i l.rows) ≡ repeats [] l.fn.rows
