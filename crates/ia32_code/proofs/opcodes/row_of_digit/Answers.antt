use Rattle.std.proofs.Common.{Some, None, refl, sym, ap, ◌∙◌, arith}
use Rattle.std.specs.Prelude.{option_map}
use Rattle.ia32_code.specs.declared.row.Row.TheVariants.{AluWord, AluByte, ShiftOne, ShiftBy, ShiftCl}
use Rattle.ia32_code.proofs.Trials.{at_opcode, word_row, byte_row, one_row, by_row, cl_row, no_digit_row, no_escaped_digit}
use Rattle.ia32_code.proofs.opcodes.row_of_digit.Goals as goal

pub returns-then-encoding : goal.returns-then-encoding
returns-then-encoding c = no_escaped_digit c.args.encoding.escaped c.args.encoding.opcode c.args.digit c.if-encoding.true

pub returns-in_default : goal.returns-in_default
returns-in_default c =
    at_opcode c.args.encoding.escaped c.args.encoding.opcode c.args.encoding.opcode c.args.digit None c.if-encoding.false refl (no_digit_row c.args.encoding.opcode c.args.digit (omega arith))

pub returns-in_err-operation-in-129 : goal.returns-in_err-operation-in-129
returns-in_err-operation-in-129 c =
    c.from_residual.ensures
    ∙ at_opcode c.args.encoding.escaped c.args.encoding.opcode 129 c.args.digit None c.if-encoding.false c.in-129.is
    (ap (option_map (λ op. AluWord op)) (sym c.in_err-operation-in-129.was ∙ c.operation.ensures) ∙ word_row c.args.digit c.requires)

pub returns-in_ok-operation-in-129 : goal.returns-in_ok-operation-in-129
returns-in_ok-operation-in-129 c =
    at_opcode c.args.encoding.escaped c.args.encoding.opcode 129 c.args.digit (Some (AluWord c.in_ok-operation-in-129.field-0)) c.if-encoding.false c.in-129.is
    (ap (option_map (λ op. AluWord op)) (sym c.in_ok-operation-in-129.was ∙ c.operation.ensures) ∙ word_row c.args.digit c.requires)

pub returns-in_err-operation-in-131 : goal.returns-in_err-operation-in-131
returns-in_err-operation-in-131 c =
    c.from_residual-in_err-operation-in-131.ensures
    ∙ at_opcode c.args.encoding.escaped c.args.encoding.opcode 131 c.args.digit None c.if-encoding.false c.in-131.is
    (ap (option_map (λ op. AluByte op)) (sym c.in_err-operation-in-131.was ∙ c.operation-in-131.ensures) ∙ byte_row c.args.digit c.requires)

pub returns-in_ok-operation-in-131 : goal.returns-in_ok-operation-in-131
returns-in_ok-operation-in-131 c =
    at_opcode c.args.encoding.escaped c.args.encoding.opcode 131 c.args.digit (Some (AluByte c.in_ok-operation-in-131.field-0)) c.if-encoding.false c.in-131.is
    (ap (option_map (λ op. AluByte op)) (sym c.in_ok-operation-in-131.was ∙ c.operation-in-131.ensures) ∙ byte_row c.args.digit c.requires)

pub returns-in_err-shift-in-209 : goal.returns-in_err-shift-in-209
returns-in_err-shift-in-209 c =
    c.from_residual-in_err-shift-in-209.ensures
    ∙ at_opcode c.args.encoding.escaped c.args.encoding.opcode 209 c.args.digit None c.if-encoding.false c.in-209.is
    (ap (option_map (λ op. ShiftOne op)) (sym c.in_err-shift-in-209.was ∙ c.shift.ensures) ∙ one_row c.args.digit c.requires)

pub returns-in_ok-shift-in-209 : goal.returns-in_ok-shift-in-209
returns-in_ok-shift-in-209 c =
    at_opcode c.args.encoding.escaped c.args.encoding.opcode 209 c.args.digit (Some (ShiftOne c.in_ok-shift-in-209.field-0)) c.if-encoding.false c.in-209.is
    (ap (option_map (λ op. ShiftOne op)) (sym c.in_ok-shift-in-209.was ∙ c.shift.ensures) ∙ one_row c.args.digit c.requires)

pub returns-in_err-shift-in-193 : goal.returns-in_err-shift-in-193
returns-in_err-shift-in-193 c =
    c.from_residual-in_err-shift-in-193.ensures
    ∙ at_opcode c.args.encoding.escaped c.args.encoding.opcode 193 c.args.digit None c.if-encoding.false c.in-193.is
    (ap (option_map (λ op. ShiftBy op)) (sym c.in_err-shift-in-193.was ∙ c.shift-in-193.ensures) ∙ by_row c.args.digit c.requires)

pub returns-in_ok-shift-in-193 : goal.returns-in_ok-shift-in-193
returns-in_ok-shift-in-193 c =
    at_opcode c.args.encoding.escaped c.args.encoding.opcode 193 c.args.digit (Some (ShiftBy c.in_ok-shift-in-193.field-0)) c.if-encoding.false c.in-193.is
    (ap (option_map (λ op. ShiftBy op)) (sym c.in_ok-shift-in-193.was ∙ c.shift-in-193.ensures) ∙ by_row c.args.digit c.requires)

pub returns-in_err-shift-in-211 : goal.returns-in_err-shift-in-211
returns-in_err-shift-in-211 c =
    c.from_residual-in_err-shift-in-211.ensures
    ∙ at_opcode c.args.encoding.escaped c.args.encoding.opcode 211 c.args.digit None c.if-encoding.false c.in-211.is
    (ap (option_map (λ op. ShiftCl op)) (sym c.in_err-shift-in-211.was ∙ c.shift-in-211.ensures) ∙ cl_row c.args.digit c.requires)

pub returns-in_ok-shift-in-211 : goal.returns-in_ok-shift-in-211
returns-in_ok-shift-in-211 c =
    at_opcode c.args.encoding.escaped c.args.encoding.opcode 211 c.args.digit (Some (ShiftCl c.in_ok-shift-in-211.field-0)) c.if-encoding.false c.in-211.is
    (ap (option_map (λ op. ShiftCl op)) (sym c.in_ok-shift-in-211.was ∙ c.shift-in-211.ensures) ∙ cl_row c.args.digit c.requires)
