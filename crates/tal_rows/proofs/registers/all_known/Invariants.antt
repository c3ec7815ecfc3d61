use Rattle.std.proofs.Common.{◌≡◌, drop}
use Rattle.tal_names.specs.Declarations.{names_shown}
use Rattle.tal_rows.specs.Lines.{all_known}
use Rattle.tal_rows.proofs.registers.all_known.Given as goal

-- what is left decides
abbrev pub invariant-loop-row : goal.invariant-loop-row
invariant-loop-row l = all_known (names_shown l.names) (drop l.row-index l.rows) ≡ all_known (names_shown l.names) l.fn.rows
