use Rattle.std.proofs.Common.{◌≡◌, drop}
use Rattle.tal_names.specs.Declarations.{names_shown}
use Rattle.tal_rows.specs.Lines.{type_in}
use Rattle.tal_rows.proofs.registers.type_in.Given as goal

-- what is left decides
abbrev pub invariant-loop-row : goal.invariant-loop-row
invariant-loop-row l = type_in (names_shown l.names) (drop l.row-index l.rows) l.reg ≡ type_in (names_shown l.names) l.fn.rows l.reg
