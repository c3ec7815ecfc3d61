-- MOV, LEA, and what has one operand: none of their spellings precedes the canonical one.
use Rattle.std.proofs.Common.{◌≡◌, ℕ, ◌%◌, ◌^◌, ◌<◌, Bool, true, false, eqb, ◌&&◌, length, refl, sym, ap, arith, lit<, inl, inr}
use Rattle.std.proofs.lemmas.Bool.{eqb-true, cases_Bool}
use Rattle.std.proofs.lemmas.List.{length-append}
use Rattle.ia32_code.specs.declared.instruction.Reg.{Reg}
use Rattle.ia32_code.specs.declared.instruction.Reg.TheVariants.{Eax}
use Rattle.ia32_code.specs.declared.instruction.Mem.{Mem}
use Rattle.ia32_code.specs.declared.instruction.Operand.{Operand}
use Rattle.ia32_code.specs.declared.instruction.Operand.TheVariants.{R, M, I}
use Rattle.ia32_code.specs.declared.instruction.Inst.{Inst}
use Rattle.ia32_code.specs.declared.instruction.Inst.TheVariants as inst
use Rattle.ia32_code.specs.declared.row.Row.{Row}
use Rattle.ia32_code.specs.declared.row.Row.TheVariants as row
use Rattle.ia32_code.specs.declared.operand_form.OperandForm.{OperandForm}
use Rattle.ia32_code.specs.declared.operand_form.OperandForm.TheVariants.{Direct, Based, Absolute, Indexed, Unbased}
use Rattle.ia32_code.specs.OperandForms.{number, reg, sign_extended, operand, FormFits, IsMemory}
use Rattle.ia32_code.specs.Spells.{Filled, text, meaning}
use Rattle.ia32_code.specs.Canonical.{fits_byte, shortest_form, fill, with_form, with_digit, without_modrm, canonical_row}
use Rattle.ia32_code.specs.Order.{IsFirst}
use Rattle.ia32_code.proofs.ShortestForm.{index_cases, extended_fits}
use Rattle.ia32_code.proofs.First.{LongAs, number_zero, by_other, by_form, at_digit, own}

-- a false second test decides
no_both : (a : Bool) → (a && false) ≡ false
no_both true = refl
no_both false = refl

-- ---- MOV from memory

-- `8B` with an operand in memory, where the accumulator form does not serve
load_at : (r : Reg) (f : OperandForm)
    → canonical_row (inst.Mov (R r) (operand f)) ≡ with_form (shortest_form (operand f)) (λ y. fill row.MovLoad r y 0) → FormFits f
    → IsFirst (fill row.MovLoad r f 0)
load_at r f canon h =
    by_form row.MovLoad r 0 2 (λ o. inst.Mov (R r) o) f canon (λ y. refl) (λ y fits e. record { row = refl; modrm = fits; trailing = refl })
    (λ y. simp length-append (omega arith)) h

-- to EAX from an address alone
load_eax : (r : Reg) (f : OperandForm) (n : ℕ) → n < 2 ^ 32 → number r ≡ 0 → operand f ≡ operand (Absolute n)
    → 5 < length (text (fill row.MovLoad Eax f 0)) → IsFirst (fill row.MovLoad r f 0)
load_eax r f n lt z e long =
    rw (number_zero r z) (by_other (without_modrm row.MovLoadEax n) (fill row.MovLoad Eax f 0) (rw e refl)
    (record { row = refl; modrm = (refl, refl); trailing = lt }) (ap (λ (x : Operand). inst.Mov (R Eax) x) (sym e)) (inl long))

-- `8B`
pub mov_load : (r : Reg) (f : OperandForm) → FormFits f → IsFirst (fill row.MovLoad r f 0)
mov_load r (Direct k) h =
    by_other (fill row.MovStore k (Direct r) 0) (fill row.MovLoad r (Direct k) 0) refl (record { row = refl; modrm = tt; trailing = refl }) refl (inr (refl, inl (lit< tt)))
mov_load r (Based b d) h = load_at r (Based b d) (rw (no_both (eqb (number r) 0)) refl) h
mov_load r (Absolute n) h =
    elim (cases_Bool (eqb (number r) 0)) [
      | inl z ↦ load_eax r (Absolute n) n h (eqb-true (number r) 0 z) refl (lit< tt)
      | inr z ↦ load_at r (Absolute n) (rw z refl) h
    ]
mov_load r (Indexed s i b d) h = load_at r (Indexed s i b d) (rw (no_both (eqb (number r) 0)) refl) h
mov_load r (Unbased s i n) h =
    elim (index_cases i) [
      | inl e ↦ elim (cases_Bool (eqb (number r) 0)) [
        | inl z ↦ load_eax r (Unbased s i n) n h.1 (eqb-true (number r) 0 z) (rw e.1 refl) (lit< tt)
        | inr z ↦ load_at r (Unbased s i n) (rw z refl) h
      ]
      | inr e ↦ load_at r (Unbased s i n) (rw (e.1, no_both (eqb (number r) 0)) refl) h
    ]

-- ---- MOV to memory

-- `89`, where the accumulator form does not serve
store_at : (r : Reg) (f : OperandForm)
    → canonical_row (inst.Mov (operand f) (R r)) ≡ with_form (shortest_form (operand f)) (λ y. fill row.MovStore r y 0) → FormFits f
    → IsFirst (fill row.MovStore r f 0)
store_at r f canon h =
    by_form row.MovStore r 0 2 (λ o. inst.Mov o (R r)) f canon (λ y. refl) (λ y fits e. record { row = refl; modrm = fits; trailing = refl })
    (λ y. simp length-append (omega arith)) h

-- from EAX to an address alone
store_eax : (r : Reg) (f : OperandForm) (n : ℕ) → n < 2 ^ 32 → number r ≡ 0 → operand f ≡ operand (Absolute n)
    → 5 < length (text (fill row.MovStore Eax f 0)) → IsFirst (fill row.MovStore r f 0)
store_eax r f n lt z e long =
    rw (number_zero r z) (by_other (without_modrm row.MovStoreEax n) (fill row.MovStore Eax f 0) (rw e refl)
    (record { row = refl; modrm = (refl, refl); trailing = lt }) (ap (λ (x : Operand). inst.Mov x (R Eax)) (sym e)) (inl long))

-- `89`
pub mov_store : (r : Reg) (f : OperandForm) → FormFits f → IsFirst (fill row.MovStore r f 0)
mov_store r (Direct k) h = store_at r (Direct k) refl h
mov_store r (Based b d) h = store_at r (Based b d) (rw (no_both (eqb (number r) 0)) refl) h
mov_store r (Absolute n) h =
    elim (cases_Bool (eqb (number r) 0)) [
      | inl z ↦ store_eax r (Absolute n) n h (eqb-true (number r) 0 z) refl (lit< tt)
      | inr z ↦ store_at r (Absolute n) (rw z refl) h
    ]
mov_store r (Indexed s i b d) h = store_at r (Indexed s i b d) (rw (no_both (eqb (number r) 0)) refl) h
mov_store r (Unbased s i n) h =
    elim (index_cases i) [
      | inl e ↦ elim (cases_Bool (eqb (number r) 0)) [
        | inl z ↦ store_eax r (Unbased s i n) n h.1 (eqb-true (number r) 0 z) (rw e.1 refl) (lit< tt)
        | inr z ↦ store_at r (Unbased s i n) (rw z refl) h
      ]
      | inr e ↦ store_at r (Unbased s i n) (rw (e.1, no_both (eqb (number r) 0)) refl) h
    ]

-- ---- MOV of an immediate

-- `C7`
pub mov_word : (f : OperandForm) (n : ℕ) → FormFits f → n < 2 ^ 32 → IsFirst (fill row.MovWord Eax f n)
mov_word (Direct k) n h lt =
    by_other (without_modrm (row.MovReg k) n) (fill row.MovWord Eax (Direct k) n) refl (record { row = refl; modrm = (refl, refl); trailing = lt }) refl (inl (lit< tt))
mov_word f n h lt =
    by_form row.MovWord Eax n 6 (λ o. inst.Mov o (I n)) f refl (λ y. refl) (λ y fits e. record { row = refl; modrm = (fits, refl); trailing = lt })
    (λ y. simp length-append (omega arith)) h

-- ---- LEA

-- what is no register stays none
pub memory_as : (b : OperandForm) (m : Mem) → operand b ≡ M m → IsMemory b
memory_as (Direct r) m e = absurd cc
memory_as _ m e = tt

-- `8D`
pub lea : (r : Reg) (f : OperandForm) → FormFits f × IsMemory f → IsFirst (fill row.Lea r f 0)
lea r (Direct k) h = absurd h.1
lea r f h =
    by_form row.Lea r 0 2 (λ o. inst.Lea (R r) o) f refl (λ y. refl)
    (λ y fits q. record { row = refl; modrm = (fits, memory_as y _ q); trailing = refl }) (λ y. simp length-append (omega arith)) h.0

-- ---- a digit and one operand

-- the canonical spelling is the same row with the shortest form
pub unary : (w : Row) (g : ℕ) (make : Operand → Inst) → ((y : OperandForm) → meaning (fill w (reg g) y 0) ≡ make (operand y))
    → ((y : OperandForm) → FormFits y → Filled (fill w (reg g) y 0)) → LongAs w (reg g) 0 2 → (r : Reg) (f : OperandForm) (n : ℕ)
    → canonical_row (make (operand f)) ≡ with_digit w g (operand f) → FormFits f × (number r ≡ g) → n ≡ 0 → IsFirst (fill w r f n)
unary w g make means fit len r f n canon h z = at_digit w g r f n 0 h.1 z (by_form w (reg g) 0 2 make f canon means (λ y fits e. fit y fits) len h.0)

-- `FF` /0, where a register has a shorter row
pub inc : (r : Reg) (f : OperandForm) (n : ℕ) → FormFits f × (number r ≡ 0) → n ≡ 0 → IsFirst (fill row.Inc r f n)
inc r (Direct k) n h z = at_digit row.Inc 0 r (Direct k) n 0 h.1 z (by_other (without_modrm (row.IncReg k) 0) (fill row.Inc (reg 0) (Direct k) 0) refl (record { row = refl; modrm = (refl, refl); trailing = refl }) refl (inl (lit< tt)))
inc r f n h z = unary row.Inc 0 (λ o. inst.Inc o) (λ y. refl) (λ y fits. record { row = refl; modrm = (fits, refl); trailing = refl }) (λ y. simp length-append (omega arith)) r f n refl h z

-- `FF` /1, where a register has a shorter row
pub dec : (r : Reg) (f : OperandForm) (n : ℕ) → FormFits f × (number r ≡ 1) → n ≡ 0 → IsFirst (fill row.Dec r f n)
dec r (Direct k) n h z = at_digit row.Dec 1 r (Direct k) n 0 h.1 z (by_other (without_modrm (row.DecReg k) 0) (fill row.Dec (reg 1) (Direct k) 0) refl (record { row = refl; modrm = (refl, refl); trailing = refl }) refl (inl (lit< tt)))
dec r f n h z = unary row.Dec 1 (λ o. inst.Dec o) (λ y. refl) (λ y fits. record { row = refl; modrm = (fits, refl); trailing = refl }) (λ y. simp length-append (omega arith)) r f n refl h z

-- `FF` /6, where a register has a shorter row
pub push : (r : Reg) (f : OperandForm) (n : ℕ) → FormFits f × (number r ≡ 6) → n ≡ 0 → IsFirst (fill row.Push r f n)
push r (Direct k) n h z = at_digit row.Push 6 r (Direct k) n 0 h.1 z (by_other (without_modrm (row.PushReg k) 0) (fill row.Push (reg 6) (Direct k) 0) refl (record { row = refl; modrm = (refl, refl); trailing = refl }) refl (inl (lit< tt)))
push r f n h z = unary row.Push 6 (λ o. inst.Push o) (λ y. refl) (λ y fits. record { row = refl; modrm = (fits, refl); trailing = refl }) (λ y. simp length-append (omega arith)) r f n refl h z

-- ---- PUSH of an immediate

-- `6A`
pub push_byte : (n : ℕ) → n < 256 → IsFirst (without_modrm row.PushByte n)
push_byte n lt = let e = extended_fits n lt in own row.PushByte n (rw (e.0, e.1) refl) (record { row = refl; modrm = (refl, refl); trailing = lt })

-- `68`, where a byte may serve
pub push_word : (n : ℕ) → n < 2 ^ 32 → IsFirst (without_modrm row.PushWord n)
push_word n lt =
    elim (cases_Bool (fits_byte n)) [
      | inl near ↦ by_other (without_modrm row.PushByte (n % 256)) (without_modrm row.PushWord n) (rw near refl)
          (record { row = refl; modrm = (refl, refl); trailing = omega arith })
          (ap (λ (x : ℕ). inst.Push (I x)) (eqb-true (sign_extended (n % 256)) n near)) (inl (lit< tt))
      | inr far ↦ own row.PushWord n (rw far refl) (record { row = refl; modrm = (refl, refl); trailing = lt })
    ]
