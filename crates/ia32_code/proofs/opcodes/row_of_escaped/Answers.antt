use Rattle.std.proofs.Common.{sym, ap, ◌∙◌, arith}
use Rattle.std.specs.Prelude.{option_map}
use Rattle.ia32_code.specs.declared.row.Row.TheVariants.{JccWord}
use Rattle.ia32_code.proofs.Trials.{long_row}
use Rattle.ia32_code.proofs.opcodes.row_of_escaped.Goals as goal

pub returns-in_err-condition-in-128-to-143 : goal.returns-in_err-condition-in-128-to-143
returns-in_err-condition-in-128-to-143 c =
    c.from_residual.ensures ∙ ap (option_map (λ cc. JccWord cc)) (sym c.in_err-condition-in-128-to-143.was ∙ c.condition.ensures) ∙ long_row c.args.opcode (omega arith) (omega arith)

pub returns-in_ok-condition-in-128-to-143 : goal.returns-in_ok-condition-in-128-to-143
returns-in_ok-condition-in-128-to-143 c =
    ap (option_map (λ cc. JccWord cc)) (sym c.in_ok-condition-in-128-to-143.was ∙ c.condition.ensures) ∙ long_row c.args.opcode (omega arith) (omega arith)
