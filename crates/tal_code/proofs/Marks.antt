-- The immediate numbers that marks are about.
use Rattle.std.proofs.Common.{◌≡◌, ℕ, ◌%◌, Bool, true, false, Option, Some, None, if◌then◌else◌, refl, sym, ap, subst, ◌∙◌}
use Rattle.ia32_code.specs.declared.instruction.Inst.{Inst}
use Rattle.ia32_code.specs.declared.instruction.Inst.TheVariants as inst
use Rattle.ia32_code.specs.declared.instruction.Alu.{Alu}
use Rattle.ia32_code.specs.declared.instruction.Alu.TheVariants as alu
use Rattle.ia32_code.specs.declared.instruction.Operand.{Operand}
use Rattle.ia32_code.specs.declared.instruction.Operand.TheVariants.{R, M, I}
use Rattle.ia32_code.specs.declared.instruction.Reg.{Reg}
use Rattle.ia32_code.specs.declared.instruction.Reg.TheVariants.{Eax}
use Rattle.ia32_code.specs.declared.row.Row.{Row}
use Rattle.ia32_code.specs.declared.row.Row.TheVariants.{AluEax, AluWord, AluByte, MovWord, PushByte, PushWord}
use Rattle.ia32_code.specs.declared.operand_form.OperandForm.{OperandForm}
use Rattle.ia32_code.specs.declared.spelling.Spelling.{Spelling}
use Rattle.ia32_code.specs.OperandForms.{reg}
use Rattle.ia32_code.specs.Table.{line}
use Rattle.ia32_code.specs.Canonical.{canonical_row, fits_byte, shortest_form, is_eax, fill, without_modrm, with_form, alu_imm, alu_of, mov_of, push_of}
use Rattle.tal_image.specs.Conditions.{immediate, compared, marked_number}
use Rattle.tal_code.proofs.Spellings.{some_is_one}

-- with 0 as its number, a row means an instruction whose immediate number is 0
abbrev pub Marks : Row → Type 0
Marks row = (r : Reg) (o : Operand) → marked_number ((line row).gives r o 0) ≡ Some 0

-- The spelling has such a row, and keeps the number 0.
abbrev pub IsMarked : ℕ → Spelling → Type 0
IsMarked n s = Marks s.row × (n ≡ 0 → s.number ≡ 0)

compares : (op : Alu) (src : Operand) (n : ℕ) → compared op src ≡ Some n → (op ≡ alu.Cmp) × (src ≡ I n)
unfolding compared immediate
compares alu.Cmp (I m) n e = (refl, ap I (some_is_one m n e))
compares alu.Cmp (R r) n e = cc
compares alu.Cmp (M m) n e = cc
compares alu.Add src n e = cc
compares alu.Or src n e = cc
compares alu.And src n e = cc
compares alu.Sub src n e = cc
compares alu.Xor src n e = cc

immediate_is : (src : Operand) (n : ℕ) → immediate src ≡ Some n → src ≡ I n
unfolding immediate
immediate_is (I m) n e = ap I (some_is_one m n e)
immediate_is (R r) n e = cc
immediate_is (M m) n e = cc

-- The low byte of 0 is 0.
low_byte : (n : ℕ) → n ≡ 0 → n % 256 ≡ 0
low_byte n e = ap (λ n. n % 256) e

-- A PUSH of a number.
pushes : (n : ℕ) (s : Spelling) → push_of (I n) ≡ Some s → IsMarked n s
unfolding marked_number immediate
pushes n s e = subst (IsMarked n) (some_is_one _ s e) (by_size (fits_byte n))
  where
    by_size : (b : Bool) → IsMarked n (if b then without_modrm PushByte (n % 256) else without_modrm PushWord n)
    by_size true = (λ r o. refl, low_byte n)
    by_size false = (λ r o. refl, λ z. z)

-- A MOV of a number.
moves : (dst : Operand) (n : ℕ) (s : Spelling) → mov_of dst (I n) ≡ Some s → IsMarked n s
unfolding marked_number immediate
moves (R d) n s e = subst (IsMarked n) (some_is_one _ s e) (λ r o. refl, λ z. z)
moves (M m) n s e = by_form (shortest_form (M m)) e
  where
    by_form : (o : Option OperandForm) → with_form o (λ f. fill MovWord Eax f n) ≡ Some s → IsMarked n s
    by_form None e = cc
    by_form (Some f) e = subst (IsMarked n) (some_is_one _ s e) (λ r o. refl, λ z. z)
moves (I m) n s e = cc

-- A CMP with a number.
compares_with : (dst : Operand) (n : ℕ) (s : Spelling) → alu_of alu.Cmp dst (I n) ≡ Some s → IsMarked n s
unfolding marked_number immediate compared
compares_with dst n s e = by_form (shortest_form dst) e
  where
    by_size : (f : OperandForm) (a b : Bool)
        → IsMarked n (if a then fill (AluByte alu.Cmp) (reg 7) f (n % 256) else (if b then without_modrm (AluEax alu.Cmp) n else fill (AluWord alu.Cmp) (reg 7) f n))
    by_size f true b = (λ r o. refl, low_byte n)
    by_size f false true = (λ r o. refl, λ z. z)
    by_size f false false = (λ r o. refl, λ z. z)

    by_form : (o : Option OperandForm) → with_form o (alu_imm alu.Cmp n) ≡ Some s → IsMarked n s
    by_form None e = cc
    by_form (Some f) e = subst (IsMarked n) (some_is_one _ s e) (by_size f (fits_byte n) (is_eax f))

-- The canonical spelling of an instruction with such a number.
pub marked : (i : Inst) (n : ℕ) (s : Spelling) → marked_number i ≡ Some n → canonical_row i ≡ Some s → IsMarked n s
unfolding marked_number
marked (inst.Mov dst src) n s number row = moves dst n s (sym (ap (mov_of dst) (immediate_is src n number)) ∙ row)
marked (inst.Push src) n s number row = pushes n s (sym (ap push_of (immediate_is src n number)) ∙ row)
marked (inst.Alu op dst src) n s number row =
    let c = compares op src n number in
    compares_with dst n s (sym (ap (λ op. alu_of op dst src) c.0 ∙ ap (alu_of alu.Cmp dst) c.1) ∙ row)
marked _ n s number row = cc
