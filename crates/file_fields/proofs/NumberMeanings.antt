-- The bytes of numbers as fields, both ways.
use Rattle.std.proofs.Common.{◌≡◌, ℕ, zero, suc, ◌<◌, ◌^◌, Bool, List, [], ◌∷◌, ◌++◌, length, take, drop, refl, sym, ap, subst, ◌∙◌, arith, lit<}
use Rattle.std.proofs.lemmas.Nat.{le_bytes_4, from_le_bytes-to_le_bytes_4}
use Rattle.std.proofs.lemmas.List.{append-nil, take-append-drop}
use Rattle.file_fields.specs.declared.fault.ImageFault.{ImageFault}
use Rattle.file_fields.specs.Grammar.{Grammar, done, pair, field, number_bytes, bytes_number, Field, Chunk, Instruction, fields_text, AreBytes, Sound}
use Rattle.file_fields.specs.Laws.{NumberMeanings}
use Rattle.file_fields.specs.Parts.{FieldsOf, Means, Checked, CheckedPair, pair_bytes}
use Rattle.file_fields.specs.Composed.{at_end}

-- four bytes are a number of 32 bits
small : (t : List ℕ) → length t ≡ 4 → AreBytes t → bytes_number t < 2 ^ 32
small [] l fits = absurd (omega arith)
small (a ∷ []) l fits = absurd (omega arith)
small (a ∷ b ∷ []) l fits = absurd (omega arith)
small (a ∷ b ∷ c ∷ []) l fits = absurd (omega arith)
small (a ∷ b ∷ c ∷ d ∷ []) l fits = omega (arith, fits 0, fits 1, fits 2, fits 3)
small (a ∷ b ∷ c ∷ d ∷ e ∷ t) l fits = absurd (omega arith)

-- the bytes of a number are bytes
bytes_are : (n : ℕ) → AreBytes (number_bytes n)
bytes_are n zero = omega arith
bytes_are n (suc zero) = omega arith
bytes_are n (suc (suc zero)) = omega arith
bytes_are n (suc (suc (suc zero))) = omega arith
bytes_are n (suc (suc (suc (suc i)))) = lit< tt

-- four bytes are those of their number
four_are : (t : List ℕ) → length t ≡ 4 → AreBytes t → t ≡ number_bytes (bytes_number t)
four_are t l fits = sym (le_bytes_4 t (bytes_number t) l fits refl)

-- one number under a condition
field_means : (ok : ℕ → Bool) (fault : ℕ → ImageFault) → Means (field ok fault) (Checked ok) number_bytes
field_means ok fault = record { whole = whole; back = back }
  where
    whole : (n : ℕ) → Checked ok n → FieldsOf (field ok fault) n (number_bytes n)
    whole n h =
        let e : bytes_number (number_bytes n) ≡ n = from_le_bytes-to_le_bytes_4 n h.0 in
        (Chunk (number_bytes n) ∷ [], (done n, (refl, bytes_are n, ap ok e ∙ h.1, ap (λ (k : ℕ). done k) (sym e)), refl), append-nil (number_bytes n))

    back : (fs : List Field) (n : ℕ) → Sound (field ok fault) fs (done n) → Checked ok n × (fields_text fs ≡ number_bytes n)
    back [] n s = cc
    back (Instruction t i ∷ fs) n s = absurd s.1
    back (Chunk t ∷ fs) n s =
        let m = s.1 in
        let k = at_end (bytes_number t) n fs (subst (λ (z : Grammar ℕ). Sound z fs (done n)) m.3 s.2) in
        let text : fields_text (Chunk t ∷ fs) ≡ number_bytes (bytes_number t) =
        ap (λ (z : List Field). fields_text (Chunk t ∷ z)) k.0 ∙ append-nil t ∙ four_are t m.0 m.1 in
        subst (λ (z : ℕ). Checked ok z × (fields_text (Chunk t ∷ fs) ≡ number_bytes z)) k.1 ((small t m.0 m.1, m.2), text)

-- the first four of eight bytes, and the others
halves : (t : List ℕ) → length t ≡ 8 → (length (take 4 t) ≡ 4) × (length (drop 4 t) ≡ 4)
halves [] l = absurd (omega arith)
halves (a ∷ []) l = absurd (omega arith)
halves (a ∷ b ∷ []) l = absurd (omega arith)
halves (a ∷ b ∷ c ∷ []) l = absurd (omega arith)
halves (a ∷ b ∷ c ∷ d ∷ t) l = (refl, omega arith)

first_bytes : (n : ℕ) (t : List ℕ) → AreBytes t → AreBytes (take n t)
first_bytes zero t fits i = lit< tt
first_bytes (suc n) [] fits i = lit< tt
first_bytes (suc n) (b ∷ t) fits zero = fits 0
first_bytes (suc n) (b ∷ t) fits (suc i) = first_bytes n t (λ k. fits (suc k)) i

last_bytes : (n : ℕ) (t : List ℕ) → AreBytes t → AreBytes (drop n t)
last_bytes zero t fits = fits
last_bytes (suc n) [] fits = fits
last_bytes (suc n) (b ∷ t) fits = last_bytes n t (λ i. fits (suc i))

-- the bytes of two numbers are bytes
both_bytes : (n m : ℕ) → AreBytes (number_bytes n ++ number_bytes m)
both_bytes n m zero = bytes_are n 0
both_bytes n m (suc zero) = bytes_are n 1
both_bytes n m (suc (suc zero)) = bytes_are n 2
both_bytes n m (suc (suc (suc zero))) = bytes_are n 3
both_bytes n m (suc (suc (suc (suc i)))) = bytes_are m i

-- two numbers as one field
pair_means : (ok : ℕ → ℕ → Bool) (fault : ℕ → ℕ → ℕ → ImageFault) → Means (pair ok fault (λ n m. done (n, m))) (CheckedPair ok) pair_bytes
pair_means ok fault = record { whole = whole; back = back }
  where
    both : Grammar (ℕ × ℕ)
    both = pair ok fault (λ n m. done (n, m))

    whole : (p : ℕ × ℕ) → CheckedPair ok p → FieldsOf both p (pair_bytes p)
    whole p h =
        let a : bytes_number (number_bytes p.0) ≡ p.0 = from_le_bytes-to_le_bytes_4 p.0 h.0 in
        let b : bytes_number (number_bytes p.1) ≡ p.1 = from_le_bytes-to_le_bytes_4 p.1 h.1 in (
          Chunk (pair_bytes p) ∷ [],
          (done p, (refl, both_bytes p.0 p.1, ap (λ (k : ℕ). ok k (bytes_number (number_bytes p.1))) a ∙ ap (ok p.0) b ∙ h.2, sym (ap (λ (k : ℕ). done (k, bytes_number (number_bytes p.1))) a ∙ ap (λ (k : ℕ). done (p.0, k)) b)), refl),
          append-nil (pair_bytes p),
        )

    back : (fs : List Field) (p : ℕ × ℕ) → Sound both fs (done p) → CheckedPair ok p × (fields_text fs ≡ pair_bytes p)
    back [] p s = cc
    back (Instruction t i ∷ fs) p s = absurd s.1
    back (Chunk t ∷ fs) p s =
        let m = s.1 in
        let n = bytes_number (take 4 t) in
        let o = bytes_number (drop 4 t) in
        let l = halves t m.0 in
        let first = first_bytes 4 t m.1 in
        let second = last_bytes 4 t m.1 in
        let k = at_end (n, o) p fs (subst (λ (z : Grammar (ℕ × ℕ)). Sound z fs (done p)) m.3 s.2) in
        let bytes : t ≡ number_bytes n ++ number_bytes o =
        sym (take-append-drop 4 t) ∙ ap (λ (z : List ℕ). z ++ drop 4 t) (four_are (take 4 t) l.0 first) ∙ ap (λ (z : List ℕ). number_bytes n ++ z) (four_are (drop 4 t) l.1 second) in
        let text : fields_text (Chunk t ∷ fs) ≡ pair_bytes (n, o) = ap (λ (z : List Field). fields_text (Chunk t ∷ z)) k.0 ∙ append-nil t ∙ bytes in
        subst (λ (z : ℕ × ℕ). CheckedPair ok z × (fields_text (Chunk t ∷ fs) ≡ pair_bytes z)) k.1 ((small (take 4 t) l.0 first, small (drop 4 t) l.1 second, m.2), text)

-- numbers as fields
pub numbers_are_meant : NumberMeanings
numbers_are_meant = record { one = field_means; two = pair_means }
