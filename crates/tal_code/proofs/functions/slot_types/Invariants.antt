use Rattle.std.proofs.Common.{◌≡◌, take}
use Rattle.tal_names.specs.Declarations.{names_shown}
use Rattle.tal_code.specs.Functions.{slot_types}
use Rattle.tal_code.proofs.functions.slot_types.Given as goal

-- the types so far are those of the slots so far
abbrev pub invariant-loop-slot : goal.invariant-loop-slot
invariant-loop-slot l = l.types.items ≡ slot_types (names_shown l.names) (take l.slot-index l.slots)
