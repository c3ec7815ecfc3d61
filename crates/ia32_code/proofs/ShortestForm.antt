-- The shortest form of an operand is a form of it, and none comes before it.
use Rattle.std.proofs.Common.{◌≡◌, ◌≢◌, ℕ, ◌+◌, ◌%◌, ◌^◌, ◌<◌, true, false, not, eqb, ltb, ◌&&◌, length, Some, refl, sym, ap, ◌∙◌, arith, lit<, ◌⊎◌, inl, inr}
use Rattle.std.proofs.lemmas.Bool.{eqb-true, eqb-false, eq-eqb, ne_eqb, cases_Bool, cases_lt, lt-ltb, le-ltb}
use Rattle.ia32_code.specs.declared.instruction.Reg.{Reg}
use Rattle.ia32_code.specs.declared.instruction.Reg.TheVariants.{Esp}
use Rattle.ia32_code.specs.OperandForms.{number, sign_extended, mode, amount, DispFits, disp_bytes, after_modrm, operand, FormFits, index_register}
use Rattle.ia32_code.specs.declared.operand_form.Displacement.{Displacement}
use Rattle.ia32_code.specs.declared.operand_form.OperandForm.{OperandForm}
use Rattle.ia32_code.specs.declared.operand_form.OperandForm.TheVariants.{Direct, Based, Absolute, Indexed, Unbased}
use Rattle.ia32_code.specs.declared.operand_form.Displacement.TheVariants.{NoDisp, Disp8, Disp32}
use Rattle.ia32_code.specs.Canonical.{fits_byte, shortest_disp, shortest_form}
use Rattle.ia32_code.specs.Order.{without_scale}
use Rattle.ia32_code.proofs.OperandForms.{both_true}

-- the two differ
true_false : true ≡ false → ⊥
true_false e = cc

-- ---- displacements

-- a sign extended byte fits one, and is a word
pub extended_fits : (n : ℕ) → n < 256 → (fits_byte (sign_extended n) ≡ true) × (sign_extended n % 256 ≡ n) × (sign_extended n < 2 ^ 32)
extended_fits n lt =
    elim (cases_lt n 128) [
      | inl h ↦ rw (lt-ltb n 128 h) (let e : n % 256 ≡ n = omega arith in (rw (e, lt-ltb n 128 h) (eq-eqb n n refl), e, omega arith))
      | inr h ↦
          let t : ltb n 128 ≡ false = le-ltb n 128 h in
          let e : (n + 4294967040) % 256 ≡ n = omega arith in
          rw t (rw (e, t) (eq-eqb (n + 4294967040) (n + 4294967040) refl), e, omega arith)
    ]

-- what the shortest displacement of an amount is, where it is empty, and where it is a byte
pub record AtAmount (b : Reg) (n : ℕ) : Type 0 where
  pub same : amount (shortest_disp b n) ≡ n
  pub fits : DispFits (shortest_disp b n)
  pub present : number b ≡ 5 → mode (shortest_disp b n) ≢ 0
  pub empty : n ≡ 0 → number b ≢ 5 → shortest_disp b n ≡ NoDisp
  pub byte : fits_byte n ≡ true → (length (disp_bytes (shortest_disp b n)) < 1) ⊎ (shortest_disp b n ≡ Disp8 (n % 256))
  pub word : (length (disp_bytes (shortest_disp b n)) < 4) ⊎ (shortest_disp b n ≡ Disp32 n)

-- that an amount is 0 and its base not EBP decides the first test
zero_test : (b : Reg) (n : ℕ) → n ≡ 0 → number b ≢ 5 → (eqb n 0 && not (eqb (number b) 5)) ≡ true
zero_test b n e five = rw (eq-eqb n 0 e, ne_eqb (number b) 5 five) refl

-- the shortest displacement of an amount, by the two tests
pub at_amount : (b : Reg) (n : ℕ) → n < 2 ^ 32 → AtAmount b n
at_amount b n lt =
    elim (cases_Bool (eqb n 0 && not (eqb (number b) 5))) [
      | inl z ↦
          let two = both_true (eqb n 0) (not (eqb (number b) 5)) z in
          let zero_n : n ≡ 0 = eqb-true n 0 two.0 in
          record {
            same = rw z (sym zero_n);
            fits = rw z tt;
            present = λ five. absurd (true_false (sym two.1 ∙ rw (eq-eqb (number b) 5 five) refl));
            empty = λ e five. rw z refl;
            byte = λ e. rw z (inl (lit< tt));
            word = rw z (inl (lit< tt));
          }
      | inr z ↦ elim (cases_Bool (fits_byte n)) [
        | inl k ↦ record {
          same = rw (z, k) (eqb-true (sign_extended (n % 256)) n k);
          fits = rw (z, k) (omega arith);
          present = rw (z, k) (λ five e. omega arith);
          empty = λ e five. absurd (true_false (sym (zero_test b n e five) ∙ z));
          byte = λ e. rw (z, k) (inr refl);
          word = rw (z, k) (inl (lit< tt));
        }
        | inr k ↦ record {
          same = rw (z, k) refl;
          fits = rw (z, k) lt;
          present = rw (z, k) (λ five e. omega arith);
          empty = λ e five. absurd (true_false (sym (zero_test b n e five) ∙ z));
          byte = λ e. absurd (true_false (sym e ∙ k));
          word = rw (z, k) (inr refl);
        }
      ]
    ]

-- an amount is a word
amount_below : (d : Displacement) → DispFits d → amount d < 2 ^ 32
amount_below NoDisp h = lit< tt
amount_below (Disp8 d) h = (extended_fits d h).2
amount_below (Disp32 d) h = h

-- a displacement is the shortest of its amount, or longer
disp_first : (b : Reg) (d : Displacement) → DispFits d → (number b ≡ 5 → mode d ≢ 0)
    → (length (disp_bytes (shortest_disp b (amount d))) < length (disp_bytes d)) ⊎ (shortest_disp b (amount d) ≡ d)
disp_first b NoDisp h p = inr ((at_amount b 0 (lit< tt)).empty refl (λ five. p five refl))
disp_first b (Disp8 d) h p =
    let x = extended_fits d h in
    elim ((at_amount b (sign_extended d) x.2).byte x.0) [ inl k ↦ inl k | inr k ↦ inr (k ∙ ap (λ (y : ℕ). Disp8 y) x.1) ]
disp_first b (Disp32 d) h p = (at_amount b d h).word

-- ---- forms

-- shorter, or the same but for scale bits where there is no index
abbrev pub Better : OperandForm → OperandForm → Type 0
Better g f = (length (after_modrm g) < length (after_modrm f)) ⊎ (g ≡ without_scale f)

-- the shortest form of the operand that a form stands for
pub record Best (f : OperandForm) : Type 0 where
  pub best : OperandForm
  pub chosen : shortest_form (operand f) ≡ Some best
  pub fits : FormFits best
  pub same : operand best ≡ operand f
  pub better : Better best f

-- an index is ESP and none, or itself
pub index_cases : (i : Reg) → ((number i ≡ 4) × (i ≡ Esp)) ⊎ ((number i ≢ 4) × (index_register i ≡ Some i))
index_cases Esp = inl (refl, refl)
index_cases _ = inr (λ e. omega arith, refl)

-- a base without an index, spelled with an index byte or not
with_base : (b : Reg) (d : Displacement) (f : OperandForm) → operand f ≡ operand (Based b d) → DispFits d → (number b ≡ 5 → mode d ≢ 0)
    → (number b ≡ 4 → Better (Indexed 0 Esp b (shortest_disp b (amount d))) f)
    → (number b ≢ 4 → Better (Based b (shortest_disp b (amount d))) f) → Best f
with_base b d f same fits present four other =
    let k = at_amount b (amount d) (amount_below d fits) in
    elim (cases_Bool (eqb (number b) 4)) [
      | inl e ↦ record {
        best = Indexed 0 Esp b (shortest_disp b (amount d));
        chosen = ap shortest_form same ∙ rw e refl;
        fits = (lit< tt, k.present, k.fits);
        same = rw k.same (sym same);
        better = four (eqb-true (number b) 4 e);
      }
      | inr e ↦ record {
        best = Based b (shortest_disp b (amount d));
        chosen = ap shortest_form same ∙ rw e refl;
        fits = (eqb-false (number b) 4 e, k.present, k.fits);
        same = rw k.same (sym same);
        better = other (eqb-false (number b) 4 e);
      }
    ]

-- the shortest displacement makes a form better
better_disp : (b : Reg) (d : Displacement) (n : ℕ) (g : Displacement → OperandForm)
    → ((x : Displacement) → length (after_modrm (g x)) ≡ n + length (disp_bytes x)) → (f : OperandForm) → without_scale f ≡ g d
    → length (after_modrm f) ≡ n + length (disp_bytes d)
    → DispFits d → (number b ≡ 5 → mode d ≢ 0) → Better (g (shortest_disp b (amount d))) f
better_disp b d n g len f plain long fits present =
    elim (disp_first b d fits present) [
      | inl lt ↦ inl (omega (arith, len (shortest_disp b (amount d))))
      | inr e ↦ inr (ap g e ∙ sym plain)
    ]

-- without an index byte a form is shorter by one
better_based : (b : Reg) (d : Displacement) (f : OperandForm) → length (after_modrm f) ≡ 1 + length (disp_bytes d) → DispFits d
    → (number b ≡ 5 → mode d ≢ 0) → Better (Based b (shortest_disp b (amount d))) f
better_based b d f long fits present =
    elim (disp_first b d fits present) [
      | inl lt ↦ inl (omega arith)
      | inr e ↦ inl (let l : length (disp_bytes (shortest_disp b (amount d))) ≡ length (disp_bytes d) = ap (λ (x : Displacement). length (disp_bytes x)) e in omega arith)
    ]

-- each form has a best one
pub best_form : (f : OperandForm) → FormFits f → Best f
best_form (Direct r) h = record { best = Direct r; chosen = refl; fits = tt; same = refl; better = inr refl }
best_form (Based b d) h =
    with_base b d (Based b d) refl h.2 h.1 (λ e. absurd (h.0 e))
    (λ e. better_disp b d 0 (λ x. Based b x) (λ x. omega arith) (Based b d) refl (omega arith) h.2 h.1)
best_form (Absolute n) h = record { best = Absolute n; chosen = refl; fits = h; same = refl; better = inr refl }
best_form (Unbased s i n) h =
    elim (index_cases i) [
      | inl e ↦ record {
        best = Absolute n;
        chosen = rw e.1 refl;
        fits = h.1;
        same = rw e.1 refl;
        better = inl (lit< tt);
      }
      | inr e ↦
          let no : eqb (number i) 4 ≡ false = ne_eqb (number i) 4 e.0 in
          record {
            best = Unbased s i n;
            chosen = rw (e.1, no, lt-ltb s 4 h.0) refl;
            fits = h;
            same = refl;
            better = inr (rw no refl);
          }
    ]
best_form (Indexed s i b d) h =
    elim (index_cases i) [
      | inl e ↦
          with_base b d (Indexed s i b d) (rw e.1 refl) h.2 h.1
          (λ four. better_disp b d 1 (λ x. Indexed 0 Esp b x) (λ x. omega arith) (Indexed s i b d) (rw e.1 refl) (omega arith) h.2 h.1)
          (λ other. better_based b d (Indexed s i b d) (omega arith) h.2 h.1)
      | inr e ↦
          let no : eqb (number i) 4 ≡ false = ne_eqb (number i) 4 e.0 in
          let k = at_amount b (amount d) (amount_below d h.2) in
          record {
            best = Indexed s i b (shortest_disp b (amount d));
            chosen = rw (e.1, no, lt-ltb s 4 h.0) refl;
            fits = (h.0, k.present, k.fits);
            same = rw k.same refl;
            better = better_disp b d 1 (λ x. Indexed s i b x) (λ x. omega arith) (Indexed s i b d) (rw no refl) (omega arith) h.2 h.1;
          }
    ]
