use Rattle.std.proofs.Common.{◌≡◌, drop}
use Rattle.tal_names.specs.Declarations.{names_shown}
use Rattle.tal_rows.specs.Lines.{slots_known}
use Rattle.tal_rows.proofs.registers.slots_known.Given as goal

-- what is left decides
abbrev pub invariant-loop-ty : goal.invariant-loop-ty
invariant-loop-ty l = slots_known (names_shown l.names) (drop l.ty-index l.types) ≡ slots_known (names_shown l.names) l.fn.types
