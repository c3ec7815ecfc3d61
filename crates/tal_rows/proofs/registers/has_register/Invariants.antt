use Rattle.std.proofs.Common.{◌≡◌, drop}
use Rattle.tal_rows.specs.Lines.{has_register}
use Rattle.tal_rows.proofs.registers.has_register.Given as goal

-- what is left decides
abbrev pub invariant-loop-row : goal.invariant-loop-row
invariant-loop-row l = has_register l.reg (drop l.row-index l.rows) ≡ has_register l.reg l.fn.rows
