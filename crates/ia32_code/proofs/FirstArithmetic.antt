-- The operations on two operands, TEST, IMUL and the shifts: none of their spellings precedes the canonical one.
use Rattle.std.proofs.Common.{◌≡◌, ℕ, ◌%◌, ◌^◌, ◌<◌, true, eqb, Option, refl, sym, ap, ◌∙◌, arith, lit<, inl, inr}
use Rattle.std.proofs.lemmas.Bool.{eqb-true, cases_Bool}
use Rattle.std.proofs.lemmas.List.{length-append}
use Rattle.ia32_code.specs.declared.instruction.Reg.{Reg}
use Rattle.ia32_code.specs.declared.instruction.Reg.TheVariants.{Eax}
use Rattle.ia32_code.specs.declared.instruction.Alu.{Alu}
use Rattle.ia32_code.specs.declared.instruction.Alu.TheVariants as alu
use Rattle.ia32_code.specs.declared.instruction.Shift.{Shift}
use Rattle.ia32_code.specs.declared.instruction.Shift.TheVariants.{Shl}
use Rattle.ia32_code.specs.declared.instruction.Count.TheVariants.{By, Cl}
use Rattle.ia32_code.specs.declared.instruction.Operand.{Operand}
use Rattle.ia32_code.specs.declared.instruction.Operand.TheVariants.{R, I}
use Rattle.ia32_code.specs.declared.instruction.Inst.TheVariants as inst
use Rattle.ia32_code.specs.declared.row.Row.TheVariants as row
use Rattle.ia32_code.specs.declared.operand_form.OperandForm.{OperandForm}
use Rattle.ia32_code.specs.declared.operand_form.OperandForm.TheVariants.{Direct}
use Rattle.ia32_code.specs.declared.spelling.Spelling.{Spelling}
use Rattle.ia32_code.specs.OperandForms.{number, reg, sign_extended, operand, FormFits}
use Rattle.ia32_code.specs.Table.{alu_number, shift_number}
use Rattle.ia32_code.specs.Spells.{Filled, meaning}
use Rattle.ia32_code.specs.Canonical.{fits_byte, is_eax, fill, with_form, without_modrm, alu_imm, test_imm, imul_imm}
use Rattle.ia32_code.specs.Order.{Precedes, IsFirst}
use Rattle.ia32_code.proofs.OperandForms.{number-reg}
use Rattle.ia32_code.proofs.ShortestForm.{extended_fits, Better, best_form}
use Rattle.ia32_code.proofs.First.{number_zero, no_longer, by_other, by_better, by_form, at_digit, precedes_at, own}

-- the number of an operation is a digit
pub alu_below : (op : Alu) → alu_number op < 8
alu_below alu.Add = lit< tt
alu_below _ = lit< tt

-- and so is that of a shift
pub shift_back : (op : Shift) → number (reg (shift_number op)) ≡ shift_number op
shift_back Shl = refl
shift_back _ = refl

-- the test for EAX finds EAX
pub eax_form : (f : OperandForm) → is_eax f ≡ true → f ≡ Direct Eax
eax_form (Direct r) h = ap (λ (x : Reg). Direct x) (number_zero r (eqb-true (number r) 0 h))
eax_form _ h = absurd cc

-- ---- an operation with an immediate

-- what is said of the chosen row of an operation with an immediate
pub record ImmOf (op : Alu) (n : ℕ) (f : OperandForm) (s : Spelling) : Type 0 where
  pub fits : Filled s
  pub same : meaning s ≡ inst.Alu op (operand f) (I n)
  pub first : (r : Reg) (g : OperandForm) → number r ≡ alu_number op → Better f g → Precedes s (fill (row.AluWord op) r g n)

-- that row is filled, means it, and precedes the row with a word
pub imm_of : (op : Alu) (n : ℕ) (f : OperandForm) → FormFits f → n < 2 ^ 32 → ImmOf op n f (alu_imm op n f)
imm_of op n f h lt =
    let digit = number-reg (alu_number op) (alu_below op) in
    elim (cases_Bool (fits_byte n)) [
      | inl near ↦ rw near (record {
        fits = record { row = refl; modrm = (h, digit); trailing = omega arith };
        same = ap (λ (x : ℕ). inst.Alu op (operand f) (I x)) (eqb-true (sign_extended (n % 256)) n near);
        first = λ r g d b. inl (let l = no_longer f g b in simp length-append (omega arith));
      })
      | inr far ↦ elim (cases_Bool (is_eax f)) [
        | inl z ↦ rw (far, eax_form f z) (record {
          fits = record { row = refl; modrm = (refl, refl); trailing = lt };
          same = refl;
          first = λ r g d b. inl (simp length-append (omega arith));
        })
        | inr z ↦ rw (far, z) (record {
          fits = record { row = refl; modrm = (h, digit); trailing = lt };
          same = refl;
          first = λ r g d b. precedes_at (row.AluWord op) (row.AluWord op) (alu_number op) r (reg (alu_number op)) g f n n d
              (by_better (row.AluWord op) (reg (alu_number op)) n 6 f g (λ y. simp length-append (omega arith)) b);
        })
      ]
    ]

-- `81`
pub alu_word : (op : Alu) (r : Reg) (f : OperandForm) (n : ℕ) → FormFits f → number r ≡ alu_number op → n < 2 ^ 32 → IsFirst (fill (row.AluWord op) r f n)
alu_word op r f n h d lt =
    let b = best_form f h in
    let k = imm_of op n b.best b.fits lt in
    by_other (alu_imm op n b.best) (fill (row.AluWord op) r f n) (ap (λ (x : Option OperandForm). with_form x (alu_imm op n)) b.chosen)
    k.fits (k.same ∙ ap (λ (x : Operand). inst.Alu op x (I n)) b.same) (k.first r f d b.better)

-- `83`
pub alu_byte : (op : Alu) (r : Reg) (f : OperandForm) (n : ℕ) → FormFits f → number r ≡ alu_number op → n < 256 → IsFirst (fill (row.AluByte op) r f n)
alu_byte op r f n h d lt =
    let b = best_form f h in
    let e = extended_fits n lt in
    let digit = reg (alu_number op) in
    at_digit (row.AluByte op) (alu_number op) r f n n d refl
    (by_other (fill (row.AluByte op) digit b.best n) (fill (row.AluByte op) digit f n)
    (ap (λ (x : Option OperandForm). with_form x (alu_imm op (sign_extended n))) b.chosen ∙ rw (e.0, e.1) refl)
    (record { row = refl; modrm = (b.fits, number-reg (alu_number op) (alu_below op)); trailing = lt })
    (ap (λ (x : Operand). inst.Alu op x (I (sign_extended n))) b.same)
    (by_better (row.AluByte op) digit n 3 b.best f (λ y. simp length-append (omega arith)) b.better))

-- `05` to `3D`
pub alu_eax : (op : Alu) (n : ℕ) → n < 2 ^ 32 → IsFirst (without_modrm (row.AluEax op) n)
alu_eax op n lt =
    elim (cases_Bool (fits_byte n)) [
      | inl near ↦
          let k = imm_of op n (Direct Eax) tt lt in
          by_other (alu_imm op n (Direct Eax)) (without_modrm (row.AluEax op) n) refl k.fits k.same (rw near (inl (lit< tt)))
      | inr far ↦ own (row.AluEax op) n (rw far refl) (record { row = refl; modrm = (refl, refl); trailing = lt })
    ]

-- ---- an operation between a register and an operand

-- `01` to `39`
pub alu_store : (op : Alu) (r : Reg) (f : OperandForm) → FormFits f → IsFirst (fill (row.AluStore op) r f 0)
alu_store op r f h =
    by_form (row.AluStore op) r 0 2 (λ o. inst.Alu op o (R r)) f refl (λ y. refl) (λ y fits e. record { row = refl; modrm = fits; trailing = refl })
    (λ y. simp length-append (omega arith)) h

-- `03` to `3B`
pub alu_load : (op : Alu) (r : Reg) (f : OperandForm) → FormFits f → IsFirst (fill (row.AluLoad op) r f 0)
alu_load op r (Direct k) h =
    by_other (fill (row.AluStore op) k (Direct r) 0) (fill (row.AluLoad op) r (Direct k) 0) refl (record { row = refl; modrm = tt; trailing = refl }) refl
    (inr (refl, inl (lit< tt)))
alu_load op r f h =
    by_form (row.AluLoad op) r 0 2 (λ o. inst.Alu op (R r) o) f refl (λ y. refl) (λ y fits e. record { row = refl; modrm = fits; trailing = refl })
    (λ y. simp length-append (omega arith)) h

-- ---- TEST

-- what is said of the chosen row of TEST with an immediate
pub record TestOf (n : ℕ) (f : OperandForm) (s : Spelling) : Type 0 where
  pub fits : Filled s
  pub same : meaning s ≡ inst.Test (operand f) (I n)
  pub first : (g : OperandForm) → Better f g → Precedes s (fill row.TestWord Eax g n)

-- that row is filled, means it, and precedes the row with a ModRM byte
pub test_of_imm : (n : ℕ) (f : OperandForm) → FormFits f → n < 2 ^ 32 → TestOf n f (test_imm n f)
test_of_imm n f h lt =
    elim (cases_Bool (is_eax f)) [
      | inl z ↦ rw (eax_form f z) (record {
        fits = record { row = refl; modrm = (refl, refl); trailing = lt };
        same = refl;
        first = λ g b. inl (simp length-append (omega arith));
      })
      | inr z ↦ rw z (record {
        fits = record { row = refl; modrm = (h, refl); trailing = lt };
        same = refl;
        first = λ g b. by_better row.TestWord Eax n 6 f g (λ y. simp length-append (omega arith)) b;
      })
    ]

-- `F7` /0
pub test_word : (r : Reg) (f : OperandForm) (n : ℕ) → FormFits f → number r ≡ 0 → n < 2 ^ 32 → IsFirst (fill row.TestWord r f n)
test_word r f n h d lt =
    let b = best_form f h in
    let k = test_of_imm n b.best b.fits lt in
    at_digit row.TestWord 0 r f n n d refl
    (by_other (test_imm n b.best) (fill row.TestWord (reg 0) f n) (ap (λ (x : Option OperandForm). with_form x (test_imm n)) b.chosen)
    k.fits (k.same ∙ ap (λ (x : Operand). inst.Test x (I n)) b.same) (k.first f b.better))

-- `85`
pub test_store : (r : Reg) (f : OperandForm) → FormFits f → IsFirst (fill row.TestStore r f 0)
test_store r f h =
    by_form row.TestStore r 0 2 (λ o. inst.Test o (R r)) f refl (λ y. refl) (λ y fits e. record { row = refl; modrm = fits; trailing = refl })
    (λ y. simp length-append (omega arith)) h

-- ---- IMUL

-- `0F AF`
pub imul2 : (r : Reg) (f : OperandForm) → FormFits f → IsFirst (fill row.Imul2 r f 0)
imul2 r f h =
    by_form row.Imul2 r 0 3 (λ o. inst.Imul2 (R r) o) f refl (λ y. refl) (λ y fits e. record { row = refl; modrm = fits; trailing = refl })
    (λ y. simp length-append (omega arith)) h

-- what is said of the chosen row of IMUL with an immediate
pub record ImulOf (n : ℕ) (d : Reg) (f : OperandForm) (s : Spelling) : Type 0 where
  pub fits : Filled s
  pub same : meaning s ≡ inst.Imul3 (R d) (operand f) n
  pub first : (g : OperandForm) → Better f g → Precedes s (fill row.Imul3Word d g n)

-- that row is filled, means it, and precedes the row with a word
pub imul_of_imm : (n : ℕ) (d : Reg) (f : OperandForm) → FormFits f → n < 2 ^ 32 → ImulOf n d f (imul_imm n d f)
imul_of_imm n d f h lt =
    elim (cases_Bool (fits_byte n)) [
      | inl near ↦ rw near (record {
        fits = record { row = refl; modrm = h; trailing = omega arith };
        same = ap (λ (x : ℕ). inst.Imul3 (R d) (operand f) x) (eqb-true (sign_extended (n % 256)) n near);
        first = λ g b. inl (let l = no_longer f g b in simp length-append (omega arith));
      })
      | inr far ↦ rw far (record {
        fits = record { row = refl; modrm = h; trailing = lt };
        same = refl;
        first = λ g b. by_better row.Imul3Word d n 6 f g (λ y. simp length-append (omega arith)) b;
      })
    ]

-- `69`
pub imul_word : (d : Reg) (f : OperandForm) (n : ℕ) → FormFits f → n < 2 ^ 32 → IsFirst (fill row.Imul3Word d f n)
imul_word d f n h lt =
    let b = best_form f h in
    let k = imul_of_imm n d b.best b.fits lt in
    by_other (imul_imm n d b.best) (fill row.Imul3Word d f n) (ap (λ (x : Option OperandForm). with_form x (imul_imm n d)) b.chosen)
    k.fits (k.same ∙ ap (λ (x : Operand). inst.Imul3 (R d) x n) b.same) (k.first f b.better)

-- `6B`
pub imul_byte : (d : Reg) (f : OperandForm) (n : ℕ) → FormFits f → n < 256 → IsFirst (fill row.Imul3Byte d f n)
imul_byte d f n h lt =
    let b = best_form f h in
    let e = extended_fits n lt in
    by_other (fill row.Imul3Byte d b.best n) (fill row.Imul3Byte d f n)
    (ap (λ (x : Option OperandForm). with_form x (imul_imm (sign_extended n) d)) b.chosen ∙ rw (e.0, e.1) refl)
    (record { row = refl; modrm = b.fits; trailing = lt }) (ap (λ (x : Operand). inst.Imul3 (R d) x (sign_extended n)) b.same)
    (by_better row.Imul3Byte d n 3 b.best f (λ y. simp length-append (omega arith)) b.better)

-- ---- shifts

-- `D1`
pub shift_one : (op : Shift) (f : OperandForm) → FormFits f → IsFirst (fill (row.ShiftOne op) (reg (shift_number op)) f 0)
shift_one op f h =
    by_form (row.ShiftOne op) (reg (shift_number op)) 0 2 (λ o. inst.Shift op o (By 1)) f refl (λ y. refl)
    (λ y fits e. record { row = refl; modrm = (fits, shift_back op); trailing = refl }) (λ y. simp length-append (omega arith)) h

-- `D3`
pub shift_cl : (op : Shift) (f : OperandForm) → FormFits f → IsFirst (fill (row.ShiftCl op) (reg (shift_number op)) f 0)
shift_cl op f h =
    by_form (row.ShiftCl op) (reg (shift_number op)) 0 2 (λ o. inst.Shift op o Cl) f refl (λ y. refl)
    (λ y fits e. record { row = refl; modrm = (fits, shift_back op); trailing = refl }) (λ y. simp length-append (omega arith)) h

-- `C1`, where the count 1 has a shorter row
pub shift_by : (op : Shift) (f : OperandForm) (n : ℕ) → FormFits f → n < 256 → IsFirst (fill (row.ShiftBy op) (reg (shift_number op)) f n)
shift_by op f n h lt =
    let b = best_form f h in
    let digit = reg (shift_number op) in
    elim (cases_Bool (eqb n 1)) [
      | inl one ↦ by_other (fill (row.ShiftOne op) digit b.best 0) (fill (row.ShiftBy op) digit f n) (rw (one, b.chosen) refl)
          (record { row = refl; modrm = (b.fits, shift_back op); trailing = refl })
          (ap (λ (x : Operand). inst.Shift op x (By 1)) b.same ∙ ap (λ (x : ℕ). inst.Shift op (operand f) (By x)) (sym (eqb-true n 1 one)))
          (inl (let l = no_longer b.best f b.better in simp length-append (omega arith)))
      | inr other ↦ by_other (fill (row.ShiftBy op) digit b.best n) (fill (row.ShiftBy op) digit f n) (rw (other, b.chosen) refl)
          (record { row = refl; modrm = (b.fits, shift_back op); trailing = lt }) (ap (λ (x : Operand). inst.Shift op x (By n)) b.same)
          (by_better (row.ShiftBy op) digit n 3 b.best f (λ y. simp length-append (omega arith)) b.better)
    ]
