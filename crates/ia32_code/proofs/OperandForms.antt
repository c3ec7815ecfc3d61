-- Operand forms: what is spelled is read, and what is read was spelled.
use Rattle.std.proofs.Common.{◌≡◌, ◌≢◌, ℕ, zero, suc, ◌+◌, ◌*◌, ◌/◌, ◌%◌, ◌^◌, ◌<◌, Bool, true, false, cond, eqb, ◌&&◌, List, [], ◌∷◌, ◌++◌, get_or, Result, Ok, Err, refl, sym, ap, subst, ◌∙◌, arith, lit<, ◌⊎◌, inl, inr}
use Rattle.std.specs.Int.{w32, to_le_bytes}
use Rattle.std.proofs.lemmas.Nat.{le_bytes_4, from_le_bytes-to_le_bytes_4}
use Rattle.std.proofs.lemmas.Bool.{eqb-true, eqb-false, eq-eqb, ne_eqb}
use Rattle.ia32_code.specs.declared.instruction.Reg.{Reg}
use Rattle.ia32_code.specs.declared.instruction.Reg.TheVariants.{Eax}
use Rattle.ia32_code.specs.declared.reading.Stop.{Stop}
use Rattle.ia32_code.specs.OperandForms.{reg, number, mode, disp_bytes, DispFits, modrm_byte, after_modrm, FormFits, IsMemory}
use Rattle.ia32_code.specs.declared.operand_form.Displacement.{Displacement}
use Rattle.ia32_code.specs.declared.operand_form.OperandForm.{OperandForm}
use Rattle.ia32_code.specs.declared.operand_form.OperandForm.TheVariants.{Direct, Based, Absolute, Indexed, Unbased}
use Rattle.ia32_code.specs.declared.operand_form.Displacement.TheVariants.{NoDisp, Disp8, Disp32}
use Rattle.ia32_code.specs.Reading.{CodeReader, onward, given, seq, byte_at, word_at, four_bytes, disp_at, sib_at, form_at}
use Rattle.ia32_code.proofs.TakesFront.{IsBytes, ok_is}

-- ---- registers

-- a register has its number
pub reg-number : (r : Reg) → reg (number r) ≡ r
reg-number Eax = refl
reg-number _ = refl

-- a register has a number below 8
pub number_below : (r : Reg) → number r < 8
number_below Eax = lit< tt
number_below _ = lit< tt

-- and each such number a register
pub number-reg : (n : ℕ) → n < 8 → number (reg n) ≡ n
number-reg zero h = refl
number-reg (suc zero) h = refl
number-reg (suc (suc zero)) h = refl
number-reg (suc (suc (suc zero))) h = refl
number-reg (suc (suc (suc (suc zero)))) h = refl
number-reg (suc (suc (suc (suc (suc zero))))) h = refl
number-reg (suc (suc (suc (suc (suc (suc zero)))))) h = refl
number-reg (suc (suc (suc (suc (suc (suc (suc zero))))))) h = refl
number-reg (suc (suc (suc (suc (suc (suc (suc (suc n)))))))) h = absurd (omega arith)

-- ---- words

-- each of the bytes is below 256
pub index_fits : (t : List ℕ) → IsBytes t → (i : ℕ) → get_or t i 0 < 256
index_fits [] h i = lit< tt
index_fits (b ∷ t) h zero = h.0
index_fits (b ∷ t) h (suc i) = index_fits t h.1 i

-- a word that was spelled is read
pub word_again : (n : ℕ) (more : List ℕ) → n < 2 ^ 32 → word_at (to_le_bytes w32 n ++ more) ≡ Ok (n, more)
unfolding word_at
word_again n more lt = ap (λ (k : ℕ). Ok (k, more)) (omega (arith, from_le_bytes-to_le_bytes_4 n lt))

-- a word that is read was spelled
pub word_takes : (t : List ℕ) (n : ℕ) → IsBytes t → word_at t ≡ Ok (n, []) → (n < 2 ^ 32) × (t ≡ to_le_bytes w32 n)
unfolding word_at
word_takes [] n fits e = absurd cc
word_takes (a ∷ []) n fits e = absurd cc
word_takes (a ∷ b ∷ []) n fits e = absurd cc
word_takes (a ∷ b ∷ c ∷ []) n fits e = absurd cc
word_takes (a ∷ b ∷ c ∷ d ∷ t) n fits e =
    let h : (four_bytes a b c d, t) ≡ (n, []) = ok_is (four_bytes a b c d, t) (n, []) e in
    let n-is : four_bytes a b c d ≡ n = ap (λ (x : ℕ × List ℕ). x.0) h in
    let t-is : t ≡ [] = ap (λ (x : ℕ × List ℕ). x.1) h in
    let bytes : List ℕ = a ∷ b ∷ c ∷ d ∷ [] in
    let four : IsBytes (a ∷ b ∷ c ∷ d ∷ []) = (fits.0, (fits.1.0, (fits.1.1.0, (fits.1.1.1.0, tt)))) in
    let back : to_le_bytes w32 n ≡ a ∷ b ∷ c ∷ d ∷ [] = le_bytes_4 (a ∷ b ∷ c ∷ d ∷ []) n refl (index_fits (a ∷ b ∷ c ∷ d ∷ []) four) (omega arith) in
    (omega arith, rw t-is (sym back))

-- ---- tests

-- a reader that goes by a test
pub chosen : {A : Type 0} (b : Bool) (p q : CodeReader A) (t : List ℕ) (z : Result (A × List ℕ) Stop) → cond b p q t ≡ z → ((b ≡ true) × (p t ≡ z)) ⊎ ((b ≡ false) × (q t ≡ z))
chosen true p q t z e = inl (refl, e)
chosen false p q t z e = inr (refl, e)

-- both tests held
pub both_true : (a b : Bool) → (a && b) ≡ true → (a ≡ true) × (b ≡ true)
both_true true true e = (refl, refl)
both_true true false e = absurd cc
both_true false b e = absurd cc

-- not both tests hold
pub not_both : (a b : Bool) → (a && b) ≡ false → a ≡ true → b ≡ true → ⊥
not_both true true e x y = absurd cc
not_both true false e x y = absurd cc
not_both false b e x y = absurd cc

-- two readers in a row that gave something
pub seq_ok : {A B : Type 0} (p : CodeReader A) (f : A → CodeReader B) (t : List ℕ) (y : B × List ℕ) (r : Result (A × List ℕ) Stop) → p t ≡ r
    → onward r (λ x. f x.0 x.1) ≡ Ok y → (x : A × List ℕ) × (p t ≡ Ok x) × (f x.0 x.1 ≡ Ok y)
seq_ok p f t y (Ok x) e h = (x, e, h)
seq_ok p f t y (Err s) e h = absurd cc

-- a reader whose value was changed
pub seq_done : {A B : Type 0} (p : CodeReader A) (v : A → B) (t : List ℕ) (b : B) (r : Result (A × List ℕ) Stop) → p t ≡ r
    → onward r (λ x. given (v x.0) x.1) ≡ Ok (b, []) → (a : A) × (p t ≡ Ok (a, [])) × (b ≡ v a)
seq_done {A} {B} p v t b (Ok x) e h =
    let k : (v x.0, x.1) ≡ (b, []) = ok_is (v x.0, x.1) (b, []) h in
    let rest : x.1 ≡ [] = ap (λ (y : B × List ℕ). y.1) k in
    (x.0, e ∙ ap (λ (y : List ℕ). Ok (x.0, y)) rest, sym (ap (λ (y : B × List ℕ). y.0) k))
seq_done p v t b (Err s) e h = absurd cc

-- ---- displacements

-- a displacement that was spelled is read
disp_again : (d : Displacement) (more : List ℕ) → DispFits d → disp_at (mode d) (disp_bytes d ++ more) ≡ Ok (d, more)
unfolding disp_at
disp_again NoDisp more h = refl
disp_again (Disp8 d) more h = refl
disp_again (Disp32 d) more h = rw (word_again d more h) refl

-- what is said of a displacement that was read
record DispOf (m : ℕ) (t : List ℕ) (disp : Displacement) : Type 0 where
  fits : DispFits disp
  mode_is : m ≡ mode disp
  bytes_is : t ≡ disp_bytes disp

-- no displacement was spelled so
none_takes : (t : List ℕ) (d : Displacement) → given NoDisp t ≡ Ok (d, []) → DispOf 0 t d
none_takes t d e =
    let h : (NoDisp, t) ≡ (d, []) = ok_is (NoDisp, t) (d, []) e in
    subst (DispOf 0 t) (ap (λ (x : Displacement × List ℕ). x.0) h) (record { fits = tt; mode_is = refl; bytes_is = ap (λ (x : Displacement × List ℕ). x.1) h })

-- a byte that is read was spelled
near_takes : (t : List ℕ) (d : Displacement) → IsBytes t → seq byte_at (λ n. given (Disp8 n)) t ≡ Ok (d, []) → DispOf 1 t d
near_takes [] d fits e = absurd cc
near_takes (b ∷ t) d fits e =
    let h : (Disp8 b, t) ≡ (d, []) = ok_is (Disp8 b, t) (d, []) e in
    subst (DispOf 1 (b ∷ t)) (ap (λ (x : Displacement × List ℕ). x.0) h)
    (record { fits = fits.0; mode_is = refl; bytes_is = ap (λ (x : Displacement × List ℕ). b ∷ x.1) h })

-- a word that is read was spelled
far_takes : (t : List ℕ) (d : Displacement) → IsBytes t → seq word_at (λ n. given (Disp32 n)) t ≡ Ok (d, []) → DispOf 2 t d
far_takes t d fits e =
    let w = seq_done word_at (λ n. Disp32 n) t d (word_at t) refl e in
    let k = word_takes t w.0 fits w.1 in
    subst (DispOf 2 t) (sym w.2) (record { fits = k.0; mode_is = refl; bytes_is = k.1 })

-- a displacement that is read was spelled
disp_takes : (m : ℕ) (t : List ℕ) (d : Displacement) → m < 3 → IsBytes t → disp_at m t ≡ Ok (d, []) → DispOf m t d
unfolding disp_at
disp_takes zero t d lt fits e = none_takes t d e
disp_takes (suc zero) t d lt fits e = near_takes t d fits e
disp_takes (suc (suc zero)) t d lt fits e = far_takes t d fits e
disp_takes (suc (suc (suc m))) t d lt fits e = absurd (omega arith)

-- a displacement has a mode below 3
pub mode_below : (d : Displacement) → mode d < 3
mode_below NoDisp = lit< tt
mode_below _ = lit< tt

-- ---- forms are read

-- the middle of a ModRM byte
pub modrm_middle : (g : ℕ) (f : OperandForm) → g < 8 → modrm_byte g f / 8 % 8 ≡ g
modrm_middle g (Direct r) lt = omega (arith, number_below r)
modrm_middle g (Based b d) lt = omega (arith, number_below b, mode_below d)
modrm_middle g (Absolute n) lt = omega arith
modrm_middle g (Indexed s i b d) lt = omega (arith, mode_below d)
modrm_middle g (Unbased s i n) lt = omega arith

-- two tests that exclude each other
not_both_from : (a b : Bool) → (a ≡ true → b ≡ true → ⊥) → (a && b) ≡ false
not_both_from true true h = absurd (h refl refl)
not_both_from true false h = refl
not_both_from false b h = refl

-- no base stands for a displacement alone
not_alone : (b : Reg) (d : Displacement) (x y : ℕ) → x ≡ mode d → y ≡ number b → (number b ≡ 5 → mode d ≢ 0) → (eqb x 0 && eqb y 5) ≡ false
not_alone b d x y p q h = not_both_from (eqb x 0) (eqb y 5) (λ s t. h (sym q ∙ eqb-true y 5 t) (sym p ∙ eqb-true x 0 s))

-- an index byte with a base that was spelled is read
sib_indexed : (s : ℕ) (i b : Reg) (d : Displacement) (more : List ℕ) → FormFits (Indexed s i b d)
    → sib_at (mode d) (after_modrm (Indexed s i b d) ++ more) ≡ Ok (Indexed s i b d, more)
unfolding sib_at
sib_indexed s i b d more h =
    let k = 64 * s + 8 * number i + number b in
    let low : k % 8 ≡ number b = omega (arith, number_below b, number_below i) in
    let middle : k / 8 % 8 ≡ number i = omega (arith, number_below b, number_below i) in
    let high : k / 64 ≡ s = omega (arith, number_below b, number_below i) in
    rw (not_alone b d (mode d) (k % 8) refl low h.1, disp_again d more h.2, low, middle, high, reg-number b, reg-number i) refl

-- an index byte without a base that was spelled is read
sib_unbased : (s : ℕ) (i : Reg) (n : ℕ) (more : List ℕ) → FormFits (Unbased s i n) → sib_at 0 (after_modrm (Unbased s i n) ++ more) ≡ Ok (Unbased s i n, more)
unfolding sib_at
sib_unbased s i n more h =
    let k = 64 * s + 8 * number i + 5 in
    let low : k % 8 ≡ 5 = omega (arith, number_below i) in
    let middle : k / 8 % 8 ≡ number i = omega (arith, number_below i) in
    let high : k / 64 ≡ s = omega (arith, number_below i) in
    rw (low, word_again n more h.1, middle, high, reg-number i) refl

-- a form that was spelled is read
pub form_again : (g : ℕ) (f : OperandForm) (more : List ℕ) → g < 8 → FormFits f → form_at (modrm_byte g f) (after_modrm f ++ more) ≡ Ok (f, more)
unfolding form_at
form_again g (Direct r) more lt h =
    let m = 192 + 8 * g + number r in
    let low : m % 8 ≡ number r = omega (arith, number_below r) in
    let high : m / 64 ≡ 3 = omega (arith, number_below r) in
    rw (high, low, reg-number r) refl
form_again g (Based b d) more lt h =
    let m = 64 * mode d + 8 * g + number b in
    let low : m % 8 ≡ number b = omega (arith, number_below b, mode_below d) in
    let high : m / 64 ≡ mode d = omega (arith, number_below b, mode_below d) in
    let memory : eqb (m / 64) 3 ≡ false = ne_eqb (m / 64) 3 (λ e. omega (arith, mode_below d)) in
    let no_sib : eqb (m % 8) 4 ≡ false = ne_eqb (m % 8) 4 (λ e. h.0 (sym low ∙ e)) in
    rw (memory, no_sib, not_alone b d (m / 64) (m % 8) high low h.1, high, low, disp_again d more h.2, reg-number b) refl
form_again g (Absolute n) more lt h =
    let m = 8 * g + 5 in
    let low : m % 8 ≡ 5 = omega arith in
    let high : m / 64 ≡ 0 = omega arith in
    rw (high, low, word_again n more h) refl
form_again g (Indexed s i b d) more lt h =
    let m = 64 * mode d + 8 * g + 4 in
    let low : m % 8 ≡ 4 = omega (arith, mode_below d) in
    let high : m / 64 ≡ mode d = omega (arith, mode_below d) in
    let memory : eqb (m / 64) 3 ≡ false = ne_eqb (m / 64) 3 (λ e. omega (arith, mode_below d)) in
    rw (memory, low, high) (sib_indexed s i b d more h)
form_again g (Unbased s i n) more lt h =
    let m = 8 * g + 4 in
    let low : m % 8 ≡ 4 = omega arith in
    let high : m / 64 ≡ 0 = omega arith in
    rw (high, low) (sib_unbased s i n more h)

-- ---- what is read is a form

-- what is said of a form that was read
pub record FormOf (m : ℕ) (t : List ℕ) (form : OperandForm) : Type 0 where
  pub fits : FormFits form
  pub modrm_is : m ≡ modrm_byte (m / 8 % 8) form
  pub bytes_is : t ≡ after_modrm form
  pub memory : m / 64 ≢ 3 → IsMemory form

-- the parts of a byte
parts_of : (m : ℕ) → m ≡ 64 * (m / 64) + 8 * (m / 8 % 8) + m % 8
parts_of m = omega arith

-- what is said of a form that was read after a ModRM byte of a given mode that asks for an index byte
record SibOf (m : ℕ) (t : List ℕ) (form : OperandForm) : Type 0 where
  fits : FormFits form
  modrm_is : (g : ℕ) → 64 * m + 8 * g + 4 ≡ modrm_byte g form
  bytes_is : t ≡ after_modrm form
  memory : IsMemory form

-- an index byte without a base that is read was spelled
sib_unbased_takes : (s : ℕ) (t : List ℕ) (f : OperandForm) → s < 256 → IsBytes t → s % 8 ≡ 5
    → seq word_at (λ n. given (Unbased (s / 64) (reg (s / 8 % 8)) n)) t ≡ Ok (f, []) → SibOf 0 (s ∷ t) f
sib_unbased_takes s t f lt fits low e =
    let w = seq_done word_at (λ n. Unbased (s / 64) (reg (s / 8 % 8)) n) t f (word_at t) refl e in
    let k = word_takes t w.0 fits w.1 in
    let i : number (reg (s / 8 % 8)) ≡ s / 8 % 8 = number-reg (s / 8 % 8) (omega arith) in
    let byte : s ≡ 64 * (s / 64) + 8 * number (reg (s / 8 % 8)) + 5 = omega (arith, parts_of s) in
    subst (SibOf 0 (s ∷ t)) (sym w.2) (record {
      fits = (omega arith, k.0);
      modrm_is = λ g. omega arith;
      bytes_is = ap (λ (x : ℕ). x ∷ t) byte ∙ ap (λ (x : List ℕ). (64 * (s / 64) + 8 * number (reg (s / 8 % 8)) + 5) ∷ x) k.1;
      memory = tt;
    })

-- an index byte with a base that is read was spelled
sib_indexed_takes : (m s : ℕ) (t : List ℕ) (f : OperandForm) → m < 3 → s < 256 → IsBytes t → (m ≡ 0 → s % 8 ≡ 5 → ⊥)
    → seq (disp_at m) (λ d. given (Indexed (s / 64) (reg (s / 8 % 8)) (reg (s % 8)) d)) t ≡ Ok (f, []) → SibOf m (s ∷ t) f
sib_indexed_takes m s t f small lt fits other e =
    let w = seq_done (disp_at m) (λ d. Indexed (s / 64) (reg (s / 8 % 8)) (reg (s % 8)) d) t f (disp_at m t) refl e in
    let k = disp_takes m t w.0 small fits w.1 in
    let i : number (reg (s / 8 % 8)) ≡ s / 8 % 8 = number-reg (s / 8 % 8) (omega arith) in
    let b : number (reg (s % 8)) ≡ s % 8 = number-reg (s % 8) (omega arith) in
    let byte : s ≡ 64 * (s / 64) + 8 * number (reg (s / 8 % 8)) + number (reg (s % 8)) = omega (arith, parts_of s) in
    subst (SibOf m (s ∷ t)) (sym w.2) (record {
      fits = (omega arith, λ five zero. other (k.mode_is ∙ zero) (sym b ∙ five), k.fits);
      modrm_is = λ g. ap (λ (x : ℕ). 64 * x + 8 * g + 4) k.mode_is;
      bytes_is = ap (λ (x : ℕ). x ∷ t) byte ∙ ap (λ (x : List ℕ). (64 * (s / 64) + 8 * number (reg (s / 8 % 8)) + number (reg (s % 8))) ∷ x) k.bytes_is;
      memory = tt;
    })

-- an index byte that is read was spelled
sib_takes : (m : ℕ) (t : List ℕ) (f : OperandForm) → m < 3 → IsBytes t → sib_at m t ≡ Ok (f, []) → SibOf m t f
unfolding sib_at
sib_takes m [] f small fits e = absurd cc
sib_takes m (s ∷ t) f small fits e =
    elim (chosen (eqb m 0 && eqb (s % 8) 5) (seq word_at (λ n. given (Unbased (s / 64) (reg (s / 8 % 8)) n)))
    (seq (disp_at m) (λ d. given (Indexed (s / 64) (reg (s / 8 % 8)) (reg (s % 8)) d))) t (Ok (f, [])) e) [
      | inl h ↦
          let two = both_true (eqb m 0) (eqb (s % 8) 5) h.0 in
          subst (λ (x : ℕ). SibOf x (s ∷ t) f) (sym (eqb-true m 0 two.0)) (sib_unbased_takes s t f fits.0 fits.1 (eqb-true (s % 8) 5 two.1) h.1)
      | inr h ↦ sib_indexed_takes m s t f small fits.0 fits.1 (λ z five. not_both (eqb m 0) (eqb (s % 8) 5) h.0 (eq-eqb m 0 z) (eq-eqb (s % 8) 5 five)) h.1
    ]

-- a register that is read was spelled
direct_takes : (m : ℕ) (t : List ℕ) (f : OperandForm) → m < 256 → m / 64 ≡ 3 → given (Direct (reg (m % 8))) t ≡ Ok (f, []) → FormOf m t f
direct_takes m t f lt three e =
    let k : (Direct (reg (m % 8)), t) ≡ (f, []) = ok_is (Direct (reg (m % 8)), t) (f, []) e in
    let b : number (reg (m % 8)) ≡ m % 8 = number-reg (m % 8) (omega arith) in
    subst (FormOf m t) (ap (λ (x : OperandForm × List ℕ). x.0) k) (record {
      fits = tt;
      modrm_is = omega (arith, parts_of m);
      bytes_is = ap (λ (x : OperandForm × List ℕ). x.1) k;
      memory = λ h. absurd (h three);
    })

-- an index byte after its ModRM byte
with_sib : (m : ℕ) (t : List ℕ) (f : OperandForm) → m % 8 ≡ 4 → SibOf (m / 64) t f → FormOf m t f
with_sib m t f low s = record {
  fits = s.fits;
  modrm_is = (let e : m ≡ 64 * (m / 64) + 8 * (m / 8 % 8) + 4 = omega (arith, parts_of m) in e ∙ s.modrm_is (m / 8 % 8));
  bytes_is = s.bytes_is;
  memory = λ h. s.memory;
}

-- a word alone that is read was spelled
absolute_takes : (m : ℕ) (t : List ℕ) (f : OperandForm) → m / 64 ≡ 0 → m % 8 ≡ 5 → IsBytes t → seq word_at (λ n. given (Absolute n)) t ≡ Ok (f, []) → FormOf m t f
absolute_takes m t f high low fits e =
    let w = seq_done word_at (λ n. Absolute n) t f (word_at t) refl e in
    let k = word_takes t w.0 fits w.1 in
    subst (FormOf m t) (sym w.2) (record { fits = k.0; modrm_is = omega (arith, parts_of m); bytes_is = k.1; memory = λ h. tt })

-- a base that is read was spelled
based_takes : (m : ℕ) (t : List ℕ) (f : OperandForm) → m / 64 < 3 → m % 8 ≢ 4 → (m / 64 ≡ 0 → m % 8 ≡ 5 → ⊥) → IsBytes t
    → seq (disp_at (m / 64)) (λ d. given (Based (reg (m % 8)) d)) t ≡ Ok (f, []) → FormOf m t f
based_takes m t f small no_sib other fits e =
    let w = seq_done (disp_at (m / 64)) (λ d. Based (reg (m % 8)) d) t f (disp_at (m / 64) t) refl e in
    let k = disp_takes (m / 64) t w.0 small fits w.1 in
    let b : number (reg (m % 8)) ≡ m % 8 = number-reg (m % 8) (omega arith) in
    let whole : m ≡ 64 * (m / 64) + 8 * (m / 8 % 8) + number (reg (m % 8)) = omega (arith, parts_of m) in
    subst (FormOf m t) (sym w.2) (record {
      fits = (λ four. no_sib (sym b ∙ four), λ five zero. other (k.mode_is ∙ zero) (sym b ∙ five), k.fits);
      modrm_is = whole ∙ ap (λ (x : ℕ). 64 * x + 8 * (m / 8 % 8) + number (reg (m % 8))) k.mode_is;
      bytes_is = k.bytes_is;
      memory = λ h. tt;
    })

-- a form that is read was spelled
pub form_takes : (m : ℕ) (t : List ℕ) (f : OperandForm) → m < 256 → IsBytes t → form_at m t ≡ Ok (f, []) → FormOf m t f
unfolding form_at
form_takes m t f lt fits e =
    elim (chosen (eqb (m / 64) 3) (given (Direct (reg (m % 8)))) (cond (eqb (m % 8) 4) (sib_at (m / 64))
    (cond (eqb (m / 64) 0 && eqb (m % 8) 5) (seq word_at (λ n. given (Absolute n))) (seq (disp_at (m / 64)) (λ d. given (Based (reg (m % 8)) d))))) t
    (Ok (f, [])) e) [
      | inl h ↦ direct_takes m t f lt (eqb-true (m / 64) 3 h.0) h.1
      | inr h ↦
          let small : m / 64 < 3 = (let ne = eqb-false (m / 64) 3 h.0 in omega arith) in
          elim (chosen (eqb (m % 8) 4) (sib_at (m / 64))
          (cond (eqb (m / 64) 0 && eqb (m % 8) 5) (seq word_at (λ n. given (Absolute n))) (seq (disp_at (m / 64)) (λ d. given (Based (reg (m % 8)) d)))) t
          (Ok (f, [])) h.1) [
            | inl k ↦ with_sib m t f (eqb-true (m % 8) 4 k.0) (sib_takes (m / 64) t f small fits k.1)
            | inr k ↦
                elim (chosen (eqb (m / 64) 0 && eqb (m % 8) 5) (seq word_at (λ n. given (Absolute n)))
                (seq (disp_at (m / 64)) (λ d. given (Based (reg (m % 8)) d))) t (Ok (f, [])) k.1) [
                  | inl j ↦
                      let two = both_true (eqb (m / 64) 0) (eqb (m % 8) 5) j.0 in
                      absolute_takes m t f (eqb-true (m / 64) 0 two.0) (eqb-true (m % 8) 5 two.1) fits j.1
                  | inr j ↦ based_takes m t f small (eqb-false (m % 8) 4 k.0)
                      (λ z five. not_both (eqb (m / 64) 0) (eqb (m % 8) 5) j.0 (eq-eqb (m / 64) 0 z) (eq-eqb (m % 8) 5 five)) fits j.1
                ]
          ]
    ]
