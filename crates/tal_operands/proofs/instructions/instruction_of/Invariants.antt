use Rattle.std.proofs.Common.{◌≡◌, drop}
use Rattle.tal_names.specs.Declarations.{names_shown}
use Rattle.tal_operands.specs.Instructions.{with_args, line_instruction}
use Rattle.tal_operands.proofs.instructions.instruction_of.Given as goal

-- the operands so far with those that are left make the whole
abbrev pub invariant-loop-arg : goal.invariant-loop-arg
invariant-loop-arg l = with_args (names_shown l.names) l.call l.distance l.instruction (drop l.arg-index l.args) ≡ line_instruction (names_shown l.names) l.fn.mnemonic l.fn.args l.distance
