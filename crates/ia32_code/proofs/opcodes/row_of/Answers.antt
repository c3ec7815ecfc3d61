use Rattle.std.proofs.Common.{sym, ap, ◌∙◌, arith}
use Rattle.std.specs.Prelude.{option_map}
use Rattle.ia32_code.specs.declared.row.Row.TheVariants.{JccByte}
use Rattle.ia32_code.proofs.Trials.{push_row, pop_row, short_row, port_row, flag_row, byte_port_row, no_row}
use Rattle.ia32_code.proofs.opcodes.row_of.Goals as goal

pub returns-in-80-to-87 : goal.returns-in-80-to-87
returns-in-80-to-87 c = rw c.reg_of-in-80-to-87.ensures (push_row c.args.opcode (omega arith) (omega arith))

pub returns-in-88-to-95 : goal.returns-in-88-to-95
returns-in-88-to-95 c = rw c.reg_of-in-88-to-95.ensures (pop_row c.args.opcode (omega arith) (omega arith))

pub returns-in_err-condition-in-112-to-127 : goal.returns-in_err-condition-in-112-to-127
returns-in_err-condition-in-112-to-127 c =
    c.from_residual.ensures ∙ ap (option_map (λ cc. JccByte cc)) (sym c.in_err-condition-in-112-to-127.was ∙ c.condition.ensures) ∙ short_row c.args.opcode (omega arith) (omega arith)

pub returns-in_ok-condition-in-112-to-127 : goal.returns-in_ok-condition-in-112-to-127
returns-in_ok-condition-in-112-to-127 c =
    ap (option_map (λ cc. JccByte cc)) (sym c.in_ok-condition-in-112-to-127.was ∙ c.condition.ensures) ∙ short_row c.args.opcode (omega arith) (omega arith)

pub returns-in-228-to-231 : goal.returns-in-228-to-231
returns-in-228-to-231 c = byte_port_row c.args.opcode (omega arith) (omega arith)

pub returns-in-236-to-239 : goal.returns-in-236-to-239
returns-in-236-to-239 c = port_row c.args.opcode (omega arith) (omega arith)

pub returns-in-250-to-251 : goal.returns-in-250-to-251
returns-in-250-to-251 c = flag_row c.args.opcode (omega arith) (omega arith)

pub returns-in_default : goal.returns-in_default
returns-in_default c = no_row c.args.opcode (omega arith)

pub returns-in_default-2 : goal.returns-in_default-2
returns-in_default-2 c = no_row c.args.opcode (omega arith)

pub returns-in_default-3 : goal.returns-in_default-3
returns-in_default-3 c = no_row c.args.opcode (omega arith)

pub returns-in_default-4 : goal.returns-in_default-4
returns-in_default-4 c = no_row c.args.opcode (omega arith)

pub returns-in_default-5 : goal.returns-in_default-5
returns-in_default-5 c = no_row c.args.opcode (omega arith)

pub returns-in_default-6 : goal.returns-in_default-6
returns-in_default-6 c = no_row c.args.opcode (omega arith)
