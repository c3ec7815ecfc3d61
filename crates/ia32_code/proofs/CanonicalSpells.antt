-- The canonical spelling of an instruction is one of its spellings.
use Rattle.std.proofs.Common.{◌≡◌, ℕ, ◌%◌, ◌^◌, ◌<◌, Bool, true, false, not, cond, eqb, ltb, ◌&&◌, Option, Some, None, refl, sym, ap, subst, ◌∙◌, arith, lit<, inl, inr}
use Rattle.std.specs.Prelude.{ℤ, pos, negsuc}
use Rattle.std.specs.Int.{w32, cast_unsigned}
use Rattle.std.specs.Int.RustNames.{FitsSigned}
use Rattle.std.proofs.lemmas.Int.{to_z-of_z}
use Rattle.std.proofs.lemmas.Bool.{ltb-true, eqb-true, eqb-false, eq-eqb, ne_eqb, cases_Bool}
use Rattle.ia32_code.specs.declared.instruction.Reg.{Reg}
use Rattle.ia32_code.specs.declared.instruction.Reg.TheVariants.{Eax, Esp}
use Rattle.ia32_code.specs.declared.instruction.Mem.{Mem}
use Rattle.ia32_code.specs.declared.instruction.Shift.{Shift}
use Rattle.ia32_code.specs.declared.instruction.Count.TheVariants.{By, Cl}
use Rattle.ia32_code.specs.declared.instruction.Operand.{Operand}
use Rattle.ia32_code.specs.declared.instruction.Operand.TheVariants.{R, M, I}
use Rattle.ia32_code.specs.declared.instruction.Inst.{Inst}
use Rattle.ia32_code.specs.declared.instruction.Inst.TheVariants as inst
use Rattle.ia32_code.specs.declared.row.Row.TheVariants as row
use Rattle.ia32_code.specs.declared.operand_form.OperandForm.{OperandForm}
use Rattle.ia32_code.specs.declared.operand_form.OperandForm.TheVariants.{Direct, Based, Absolute, Indexed, Unbased}
use Rattle.ia32_code.specs.declared.spelling.Spelling.{Spelling}
use Rattle.ia32_code.specs.OperandForms.{reg, number, sign_extended, operand, FormFits, index_register}
use Rattle.ia32_code.specs.Table.{shift_number, among, priv_bare, priv_with_byte}
use Rattle.ia32_code.specs.Spells.{Filled, meaning}
use Rattle.ia32_code.specs.Canonical.{fits_byte, shortest_disp, usable, memory_form, shortest_form, fill, with_form, without_modrm, is_absolute, alu_imm, test_imm, imul_imm, mov_of, push_of, priv_of, canonical_row}
use Rattle.ia32_code.specs.Ranges.{OperandInRange, InstInRange}
use Rattle.ia32_code.proofs.OperandForms.{both_true}
use Rattle.ia32_code.proofs.ShortestForm.{index_cases, at_amount}
use Rattle.ia32_code.proofs.First.{number_zero}
use Rattle.ia32_code.proofs.FirstArithmetic.{imm_of, test_of_imm, imul_of_imm, shift_back}
use Rattle.ia32_code.proofs.FirstMoves.{memory_as}

-- an operand without base and index is a word alone, by its parts
alone_parts : (base index : Option Reg) (s d : ℕ) → is_absolute (record { base = base; index = index; scale = s; disp = d }) ≡ true
    → M (record { base = base; index = index; scale = s; disp = d }) ≡ operand (Absolute d)
alone_parts None None s d h = ap (λ (x : ℕ). M (record { base = None; index = None; scale = x; disp = d })) (eqb-true s 0 h)
alone_parts _ _ s d h = absurd cc

-- what makes an index usable
usable_is : (i : Reg) (s : ℕ) → usable i s ≡ true → (s < 4) × (index_register i ≡ Some i) × (eqb (number i) 4 ≡ false)
usable_is i s h =
    let two = both_true (not (eqb (number i) 4)) (ltb s 4) h in
    elim (index_cases i) [
      | inl k ↦ absurd (let t : true ≡ false = sym two.0 ∙ rw (eq-eqb (number i) 4 k.0) refl in cc)
      | inr k ↦ (ltb-true s 4 two.1, k.1, ne_eqb (number i) 4 k.0)
    ]

-- a distance is a word
word_bits : (z : ℤ) → FitsSigned w32 z → cast_unsigned w32 z < 2 ^ 32
word_bits (pos n) h = omega (arith, h.sfits)
word_bits (negsuc n) h = omega (arith, h.sfits)

-- a test that gave something held
some_if : {X : Type 0} (b : Bool) (x y : X) → cond b (Some x) None ≡ Some y → (b ≡ true) × (x ≡ y)
some_if true x y e = (refl, cc)
some_if false x y e = absurd cc

-- the shortest form of an operand in memory is a form of it, by its parts
memory_fits : (base index : Option Reg) (s d : ℕ) (f : OperandForm) → d < 2 ^ 32 → memory_form base index s d ≡ Some f
    → FormFits f × (operand f ≡ M (record { base = base; index = index; scale = s; disp = d }))
memory_fits None None s d f lt e =
    let k = some_if (eqb s 0) (Absolute d) f e in
    subst (λ x. FormFits x × (operand x ≡ M (record { base = None; index = None; scale = s; disp = d }))) k.1
    (lt, ap (λ (x : ℕ). M (record { base = None; index = None; scale = x; disp = d })) (sym (eqb-true s 0 k.0)))
memory_fits None (Some i) s d f lt e =
    let k = some_if (usable i s) (Unbased s i d) f e in
    let u = usable_is i s k.0 in
    subst (λ x. FormFits x × (operand x ≡ M (record { base = None; index = Some i; scale = s; disp = d }))) k.1 ((u.0, lt), rw (u.1, u.2) refl)
memory_fits (Some b) None s d f lt e =
    let a = at_amount b d lt in
    let k = some_if (eqb s 0) (cond (eqb (number b) 4) (Indexed 0 Esp b (shortest_disp b d)) (Based b (shortest_disp b d))) f e in
    let z : s ≡ 0 = eqb-true s 0 k.0 in
    subst (λ x. FormFits x × (operand x ≡ M (record { base = Some b; index = None; scale = s; disp = d }))) k.1
    (elim (cases_Bool (eqb (number b) 4)) [
      | inl t ↦ rw (t, z) ((lit< tt, a.present, a.fits), rw a.same refl)
      | inr t ↦ rw (t, z) ((eqb-false (number b) 4 t, a.present, a.fits), rw a.same refl)
    ])
memory_fits (Some b) (Some i) s d f lt e =
    let a = at_amount b d lt in
    let k = some_if (usable i s) (Indexed s i b (shortest_disp b d)) f e in
    let u = usable_is i s k.0 in
    subst (λ x. FormFits x × (operand x ≡ M (record { base = Some b; index = Some i; scale = s; disp = d }))) k.1 ((u.0, a.present, a.fits), rw (u.1, u.2, a.same) refl)

-- the shortest form of an operand is a form of it
form_fits : (o : Operand) (f : OperandForm) → OperandInRange o → shortest_form o ≡ Some f → FormFits f × (operand f ≡ o)
form_fits (R r) f h e = subst (λ x. FormFits x × (operand x ≡ R r)) (let k : Direct r ≡ f = cc in k) (tt, refl)
form_fits (M m) f h e = memory_fits m.base m.index m.scale m.disp f h.1 e
form_fits (I n) f h e = absurd cc

-- a row that was filled had a form
with_some : (o : Option OperandForm) (g : OperandForm → Spelling) (s : Spelling) → with_form o g ≡ Some s → (f : OperandForm) × (o ≡ Some f) × (g f ≡ s)
with_some None g s e = absurd cc
with_some (Some f) g s e = (f, refl, cc)

-- a filled row of the instruction
abbrev Good : Spelling → Inst → Type 0
Good s i = Filled s × (meaning s ≡ i)

-- a row filled with the shortest form
via : (o : Operand) (g : OperandForm → Spelling) (make : Operand → Inst) (s : Spelling) → OperandInRange o
    → ((f : OperandForm) → FormFits f → operand f ≡ o → Good (g f) (make (operand f))) → with_form (shortest_form o) g ≡ Some s → Good s (make o)
via o g make s h each e =
    let w = with_some (shortest_form o) g s e in
    let k = form_fits o w.0 h w.1 in
    let p = each w.0 k.0 k.1 in
    subst (λ x. Good x (make o)) w.2 (p.0, p.1 ∙ ap make k.1)

-- the row that was chosen
exact : (x s : Spelling) (i : Inst) → Good x i → Some x ≡ Some s → Good s i
exact x s i h e = subst (λ y. Good y i) (let k : x ≡ s = cc in k) h

-- an operand without base and index is a word alone
alone_is : (m : Mem) → is_absolute m ≡ true → M m ≡ operand (Absolute m.disp)
alone_is m h = alone_parts m.base m.index m.scale m.disp h

-- what makes the accumulator forms of MOV serve
eax_alone : (r : Reg) (m : Mem) → (eqb (number r) 0 && is_absolute m) ≡ true → (r ≡ Eax) × (M m ≡ operand (Absolute m.disp))
eax_alone r m t = let two = both_true (eqb (number r) 0) (is_absolute m) t in (number_zero r (eqb-true (number r) 0 two.0), alone_is m two.1)

-- MOV from memory
mov_load_fits : (d : Reg) (m : Mem) (s : Spelling) → OperandInRange (M m) → mov_of (R d) (M m) ≡ Some s → Good s (inst.Mov (R d) (M m))
mov_load_fits d m s h e =
    elim (cases_Bool (eqb (number d) 0 && is_absolute m)) [
      | inl t ↦
          let k = eax_alone d m t in
          exact (without_modrm row.MovLoadEax m.disp) s (inst.Mov (R d) (M m)) (record { row = refl; modrm = (refl, refl); trailing = h.1 }, rw (k.0, k.1) refl) (rw t at e)
      | inr t ↦ via (M m) (λ f. fill row.MovLoad d f 0) (λ o. inst.Mov (R d) o) s h (λ f ff q. (record { row = refl; modrm = ff; trailing = refl }, refl)) (rw t at e)
    ]

-- MOV to memory
mov_store_fits : (r : Reg) (m : Mem) (s : Spelling) → OperandInRange (M m) → mov_of (M m) (R r) ≡ Some s → Good s (inst.Mov (M m) (R r))
mov_store_fits r m s h e =
    elim (cases_Bool (eqb (number r) 0 && is_absolute m)) [
      | inl t ↦
          let k = eax_alone r m t in
          exact (without_modrm row.MovStoreEax m.disp) s (inst.Mov (M m) (R r)) (record { row = refl; modrm = (refl, refl); trailing = h.1 }, rw (k.0, k.1) refl) (rw t at e)
      | inr t ↦ via (M m) (λ f. fill row.MovStore r f 0) (λ o. inst.Mov o (R r)) s h (λ f ff q. (record { row = refl; modrm = ff; trailing = refl }, refl)) (rw t at e)
    ]

-- PUSH of an immediate
push_fits : (n : ℕ) (s : Spelling) → n < 2 ^ 32 → push_of (I n) ≡ Some s → Good s (inst.Push (I n))
push_fits n s lt e =
    elim (cases_Bool (fits_byte n)) [
      | inl t ↦ exact (without_modrm row.PushByte (n % 256)) s (inst.Push (I n))
          (record { row = refl; modrm = (refl, refl); trailing = omega arith }, ap (λ (x : ℕ). inst.Push (I x)) (eqb-true (sign_extended (n % 256)) n t))
          (rw t at e)
      | inr t ↦ exact (without_modrm row.PushWord n) s (inst.Push (I n)) (record { row = refl; modrm = (refl, refl); trailing = lt }, refl) (rw t at e)
    ]

-- a shift by a byte
shift_fits : (op : Shift) (f : OperandForm) (n : ℕ) → FormFits f → n < 256
    → Good (cond (eqb n 1) (fill (row.ShiftOne op) (reg (shift_number op)) f 0) (fill (row.ShiftBy op) (reg (shift_number op)) f n)) (inst.Shift op (operand f) (By n))
shift_fits op f n ff lt =
    elim (cases_Bool (eqb n 1)) [
      | inl t ↦ rw t (record { row = refl; modrm = (ff, shift_back op); trailing = refl }, ap (λ (x : ℕ). inst.Shift op (operand f) (By x)) (sym (eqb-true n 1 t)))
      | inr t ↦ rw t (record { row = refl; modrm = (ff, shift_back op); trailing = lt }, refl)
    ]

-- an instruction of the system
priv_fits : (op arg : ℕ) (s : Spelling) → (op < 256) × (arg < 256) → priv_of op arg ≡ Some s → Good s (inst.Priv op arg)
priv_fits op arg s h e =
    elim (cases_Bool (among priv_bare op && eqb arg 0)) [
      | inl t ↦
          let two = both_true (among priv_bare op) (eqb arg 0) t in
          exact (without_modrm (row.PrivBare op) 0) s (inst.Priv op arg)
          (record { row = two.0; modrm = (refl, refl); trailing = refl }, ap (λ (x : ℕ). inst.Priv op x) (sym (eqb-true arg 0 two.1))) (rw t at e)
      | inr t ↦
          let k = some_if (among priv_with_byte op) (without_modrm (row.PrivByte op) arg) s (rw t at e) in
          subst (λ x. Good x (inst.Priv op arg)) k.1 (record { row = k.0; modrm = (refl, refl); trailing = h.1 }, refl)
    ]

-- the chosen row is filled, and means the instruction
pub chosen_fits : (i : Inst) (s : Spelling) → InstInRange i → canonical_row i ≡ Some s → Filled s × (meaning s ≡ i)
chosen_fits (inst.Alu op dst (R r)) s h e =
    via dst (λ f. fill (row.AluStore op) r f 0) (λ o. inst.Alu op o (R r)) s h.0 (λ f ff q. (record { row = refl; modrm = ff; trailing = refl }, refl)) e
chosen_fits (inst.Alu op dst (I n)) s h e = via dst (alu_imm op n) (λ o. inst.Alu op o (I n)) s h.0 (λ f ff q. let k = imm_of op n f ff h.1 in (k.fits, k.same)) e
chosen_fits (inst.Alu op (R r) (M m)) s h e =
    via (M m) (λ f. fill (row.AluLoad op) r f 0) (λ o. inst.Alu op (R r) o) s h.1 (λ f ff q. (record { row = refl; modrm = ff; trailing = refl }, refl)) e
chosen_fits (inst.Alu op _ (M m)) s h e = absurd cc
chosen_fits (inst.Mov (R d) (R r)) s h e = exact _ s _ (record { row = refl; modrm = tt; trailing = refl }, refl) e
chosen_fits (inst.Mov (R d) (I n)) s h e = exact _ s _ (record { row = refl; modrm = (refl, refl); trailing = h.1 }, refl) e
chosen_fits (inst.Mov (R d) (M m)) s h e = mov_load_fits d m s h.1 e
chosen_fits (inst.Mov (M m) (R r)) s h e = mov_store_fits r m s h.0 e
chosen_fits (inst.Mov (M m) (I n)) s h e =
    via (M m) (λ f. fill row.MovWord Eax f n) (λ o. inst.Mov o (I n)) s h.0 (λ f ff q. (record { row = refl; modrm = (ff, refl); trailing = h.1 }, refl)) e
chosen_fits (inst.Mov _ _) s h e = absurd cc
chosen_fits (inst.Lea (R d) (M m)) s h e =
    via (M m) (λ f. fill row.Lea d f 0) (λ o. inst.Lea (R d) o) s h.1 (λ f ff q. (record { row = refl; modrm = (ff, memory_as f m q); trailing = refl }, refl)) e
chosen_fits (inst.Lea _ _) s h e = absurd cc
chosen_fits (inst.Test dst (R r)) s h e =
    via dst (λ f. fill row.TestStore r f 0) (λ o. inst.Test o (R r)) s h.0 (λ f ff q. (record { row = refl; modrm = ff; trailing = refl }, refl)) e
chosen_fits (inst.Test dst (I n)) s h e = via dst (test_imm n) (λ o. inst.Test o (I n)) s h.0 (λ f ff q. let k = test_of_imm n f ff h.1 in (k.fits, k.same)) e
chosen_fits (inst.Test dst (M m)) s h e = absurd cc
chosen_fits (inst.Inc (R r)) s h e = exact _ s _ (record { row = refl; modrm = (refl, refl); trailing = refl }, refl) e
chosen_fits (inst.Inc (M m)) s h e =
    via (M m) (λ f. fill row.Inc (reg 0) f 0) (λ o. inst.Inc o) s h (λ f ff q. (record { row = refl; modrm = (ff, refl); trailing = refl }, refl)) e
chosen_fits (inst.Inc (I n)) s h e = absurd cc
chosen_fits (inst.Dec (R r)) s h e = exact _ s _ (record { row = refl; modrm = (refl, refl); trailing = refl }, refl) e
chosen_fits (inst.Dec (M m)) s h e =
    via (M m) (λ f. fill row.Dec (reg 1) f 0) (λ o. inst.Dec o) s h (λ f ff q. (record { row = refl; modrm = (ff, refl); trailing = refl }, refl)) e
chosen_fits (inst.Dec (I n)) s h e = absurd cc
chosen_fits (inst.Push (R r)) s h e = exact _ s _ (record { row = refl; modrm = (refl, refl); trailing = refl }, refl) e
chosen_fits (inst.Push (M m)) s h e =
    via (M m) (λ f. fill row.Push (reg 6) f 0) (λ o. inst.Push o) s h (λ f ff q. (record { row = refl; modrm = (ff, refl); trailing = refl }, refl)) e
chosen_fits (inst.Push (I n)) s h e = push_fits n s h e
chosen_fits (inst.Not o) s h e = via o (λ f. fill row.Not (reg 2) f 0) (λ x. inst.Not x) s h (λ f ff q. (record { row = refl; modrm = (ff, refl); trailing = refl }, refl)) e
chosen_fits (inst.Neg o) s h e = via o (λ f. fill row.Neg (reg 3) f 0) (λ x. inst.Neg x) s h (λ f ff q. (record { row = refl; modrm = (ff, refl); trailing = refl }, refl)) e
chosen_fits (inst.Mul o) s h e = via o (λ f. fill row.Mul (reg 4) f 0) (λ x. inst.Mul x) s h (λ f ff q. (record { row = refl; modrm = (ff, refl); trailing = refl }, refl)) e
chosen_fits (inst.Imul1 o) s h e = via o (λ f. fill row.Imul1 (reg 5) f 0) (λ x. inst.Imul1 x) s h (λ f ff q. (record { row = refl; modrm = (ff, refl); trailing = refl }, refl)) e
chosen_fits (inst.Div o) s h e = via o (λ f. fill row.Div (reg 6) f 0) (λ x. inst.Div x) s h (λ f ff q. (record { row = refl; modrm = (ff, refl); trailing = refl }, refl)) e
chosen_fits (inst.Idiv o) s h e = via o (λ f. fill row.Idiv (reg 7) f 0) (λ x. inst.Idiv x) s h (λ f ff q. (record { row = refl; modrm = (ff, refl); trailing = refl }, refl)) e
chosen_fits (inst.CallAt o) s h e =
    via o (λ f. fill row.CallAt (reg 2) f 0) (λ x. inst.CallAt x) s h (λ f ff q. (record { row = refl; modrm = (ff, refl); trailing = refl }, refl)) e
chosen_fits (inst.Imul2 (R d) src) s h e =
    via src (λ f. fill row.Imul2 d f 0) (λ o. inst.Imul2 (R d) o) s h.1 (λ f ff q. (record { row = refl; modrm = ff; trailing = refl }, refl)) e
chosen_fits (inst.Imul2 _ src) s h e = absurd cc
chosen_fits (inst.Imul3 (R d) src n) s h e = via src (imul_imm n d) (λ o. inst.Imul3 (R d) o n) s h.1 (λ f ff q. let k = imul_of_imm n d f ff h.2 in (k.fits, k.same)) e
chosen_fits (inst.Imul3 _ src n) s h e = absurd cc
chosen_fits (inst.Shift op o Cl) s h e =
    via o (λ f. fill (row.ShiftCl op) (reg (shift_number op)) f 0) (λ x. inst.Shift op x Cl) s h.0
    (λ f ff q. (record { row = refl; modrm = (ff, shift_back op); trailing = refl }, refl)) e
chosen_fits (inst.Shift op o (By n)) s h e =
    via o (λ f. cond (eqb n 1) (fill (row.ShiftOne op) (reg (shift_number op)) f 0) (fill (row.ShiftBy op) (reg (shift_number op)) f n))
    (λ x. inst.Shift op x (By n)) s h.0 (λ f ff q. shift_fits op f n ff h.1) e
chosen_fits inst.Cdq s h e = exact _ s _ (record { row = refl; modrm = (refl, refl); trailing = refl }, refl) e
chosen_fits inst.Nop s h e = exact _ s _ (record { row = refl; modrm = (refl, refl); trailing = refl }, refl) e
chosen_fits inst.Ret s h e = exact _ s _ (record { row = refl; modrm = (refl, refl); trailing = refl }, refl) e
chosen_fits (inst.Pop r) s h e = exact _ s _ (record { row = refl; modrm = (refl, refl); trailing = refl }, refl) e
chosen_fits (inst.CallRel z) s h e = exact _ s _ (record { row = refl; modrm = (refl, refl); trailing = word_bits z h }, ap (λ x. inst.CallRel x) (to_z-of_z w32 z h)) e
chosen_fits (inst.Jmp z) s h e = exact _ s _ (record { row = refl; modrm = (refl, refl); trailing = word_bits z h }, ap (λ x. inst.Jmp x) (to_z-of_z w32 z h)) e
chosen_fits (inst.Jcc cc z) s h e = exact _ s _ (record { row = refl; modrm = (refl, refl); trailing = word_bits z h }, ap (λ x. inst.Jcc cc x) (to_z-of_z w32 z h)) e
chosen_fits (inst.Priv op arg) s h e = priv_fits op arg s h e
