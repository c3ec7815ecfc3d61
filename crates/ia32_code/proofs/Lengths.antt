-- How long spellings are.
use Rattle.std.proofs.Common.{ℕ, ◌+◌, ◌<◌, ◌≤◌, List, length, arith, lit<, lit≤}
use Rattle.std.proofs.lemmas.List.{length-append}
use Rattle.ia32_code.specs.declared.instruction.Reg.{Reg}
use Rattle.ia32_code.specs.declared.instruction.Inst.{Inst}
use Rattle.ia32_code.specs.declared.row.Row.{Row}
use Rattle.ia32_code.specs.declared.row.Row.TheVariants.{Nop}
use Rattle.ia32_code.specs.declared.row.ModRm.{ModRm}
use Rattle.ia32_code.specs.declared.row.ModRm.TheVariants.{Absent}
use Rattle.ia32_code.specs.declared.row.Trailing.{Trailing}
use Rattle.ia32_code.specs.declared.row.Trailing.TheVariants.{Nothing, Byte, Word}
use Rattle.ia32_code.specs.declared.operand_form.Displacement.{Displacement}
use Rattle.ia32_code.specs.declared.operand_form.Displacement.TheVariants.{NoDisp}
use Rattle.ia32_code.specs.declared.operand_form.OperandForm.{OperandForm}
use Rattle.ia32_code.specs.declared.operand_form.OperandForm.TheVariants.{Based, Indexed}
use Rattle.ia32_code.specs.OperandForms.{disp_bytes, after_modrm}
use Rattle.ia32_code.specs.Table.{line}
use Rattle.ia32_code.specs.Spells.{modrm_bytes, trailing_bytes, Spells}

-- the most bytes that may stand where the ModRM byte is
abbrev modrm_most : ModRm → ℕ
modrm_most Absent = 0
modrm_most _ = 6

-- and of the number at the end
abbrev trailing_most : Trailing → ℕ
trailing_most Nothing = 0
trailing_most Byte = 1
trailing_most Word = 4

-- a displacement has at most four bytes
disp_length : (d : Displacement) → length (disp_bytes d) ≤ 4
disp_length NoDisp = lit≤ tt
disp_length _ = lit≤ tt

-- a form has at most five after its ModRM byte
form_length : (f : OperandForm) → length (after_modrm f) ≤ 5
form_length (Based b d) = omega (arith, disp_length d)
form_length (Indexed s i b d) = omega (arith, disp_length d)
form_length _ = lit≤ tt

-- no operand has more than the most
modrm_length : (m : ModRm) (r : Reg) (f : OperandForm) → length (modrm_bytes m r f) ≤ modrm_most m
modrm_length Absent r f = lit≤ tt
modrm_length _ r f = omega (arith, form_length f)

-- no number has more than the most
trailing_length : (s : Trailing) (n : ℕ) → length (trailing_bytes s n) ≤ trailing_most s
trailing_length Nothing n = lit≤ tt
trailing_length _ n = lit≤ tt

-- each line of the table has an opcode, and room for eleven bytes serves it
line_length : (row : Row) → (0 < length (line row).code) × (length (line row).code + (modrm_most (line row).modrm + trailing_most (line row).trailing) ≤ 11)
line_length Nop = (lit< tt, lit≤ tt)
line_length _ = (lit< tt, lit≤ tt)

-- a spelling has one to eleven bytes
pub spelling_length : (t : List ℕ) (i : Inst) → Spells t i → (0 < length t) × (length t ≤ 11)
spelling_length t i s =
    let x = s.spelling in
    let l = line_length x.row in
    let m = modrm_length (line x.row).modrm x.reg x.form in
    let n = trailing_length (line x.row).trailing x.number in
    rw s.text_is (simp length-append (omega arith), simp length-append (omega arith))
