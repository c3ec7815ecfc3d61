use Rattle.std.proofs.Common.{◌%◌, sym, ap, ◌∙◌, arith}
use Rattle.ia32_code.proofs.Trials.{operation_at, operation_row, operation_none}
use Rattle.ia32_code.proofs.opcodes.operation_row.Goals as goal

pub returns-in_err-op : goal.returns-in_err-op
returns-in_err-op c =
    c.from_residual.ensures ∙ ap (λ x. operation_at x (c.args.opcode % 8)) (sym c.in_err-op.was ∙ c.operation.ensures) ∙ operation_row c.args.opcode c.requires

pub returns-in-1 : goal.returns-in-1
returns-in-1 c = rw c.in-1.is at (ap (λ x. operation_at x (c.args.opcode % 8)) (sym c.in_ok-op.was ∙ c.operation.ensures) ∙ operation_row c.args.opcode c.requires)

pub returns-in-3 : goal.returns-in-3
returns-in-3 c = rw c.in-3.is at (ap (λ x. operation_at x (c.args.opcode % 8)) (sym c.in_ok-op.was ∙ c.operation.ensures) ∙ operation_row c.args.opcode c.requires)

pub returns-in-5 : goal.returns-in-5
returns-in-5 c = rw c.in-5.is at (ap (λ x. operation_at x (c.args.opcode % 8)) (sym c.in_ok-op.was ∙ c.operation.ensures) ∙ operation_row c.args.opcode c.requires)

pub returns-in_default : goal.returns-in_default
returns-in_default c =
    sym (operation_none c.in_ok-op.op (c.args.opcode % 8) (λ e. omega arith) (λ e. omega arith) (λ e. omega arith))
    ∙ ap (λ x. operation_at x (c.args.opcode % 8)) (sym c.in_ok-op.was ∙ c.operation.ensures) ∙ operation_row c.args.opcode c.requires
