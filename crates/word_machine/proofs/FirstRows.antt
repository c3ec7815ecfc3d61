-- The words of rows that stand one behind another, each with as many words.
use Rattle.std.proofs.Common.{◌≡◌, ℕ, zero, suc, ◌+◌, ◌*◌, ◌/◌, ◌%◌, ◌<◌, ◌⊎◌, inl, inr, List, [], ◌∷◌, ◌++◌, length, Option, Some, slice_get, refl, sym, ◌∙◌, arith, length-append}

-- the words so far: word j is word j % n of row j / n
pub record AreRows (row : ℕ → ℕ → Option ℕ) (n : ℕ) (words : List ℕ) (i : ℕ) : Type 0 where
  pub long : length words ≡ i
  pub each : (j : ℕ) → j < i → slice_get words j ≡ row (j / n) (j % n)

pub no_rows : (row : ℕ → ℕ → Option ℕ) (n : ℕ) → AreRows row n [] 0
no_rows row n = record { long = refl; each = λ j h. absurd (omega arith) }

-- a list with one more word has it last
get_push : (words : List ℕ) (w j : ℕ) → (j < length words → slice_get (words ++ w ∷ []) j ≡ slice_get words j) × (j ≡ length words → slice_get (words ++ w ∷ []) j ≡ Some w)
get_push [] w zero = (λ h. absurd (omega arith), λ h. refl)
get_push [] w (suc j) = (λ h. absurd (omega arith), λ h. absurd (omega arith))
get_push (x ∷ words) w zero = (λ h. refl, λ h. absurd (omega arith))
get_push (x ∷ words) w (suc j) = let more = get_push words w j in (λ h. more.0 (omega arith), λ h. more.1 (omega arith))

pub more_rows : (row : ℕ → ℕ → Option ℕ) (n : ℕ) (words : List ℕ) (i w : ℕ) → AreRows row n words i → row (i / n) (i % n) ≡ Some w → AreRows row n (words ++ w ∷ []) (i + 1)
more_rows row n words i w rows is = record {
  long = omega (arith, length-append words (w ∷ []), rows.long);
  each = λ j h. at j (split j h);
}
  where
    split : (j : ℕ) → j < i + 1 → (j < i) ⊎ (j ≡ i)
    split j h = grind arith

    at : (j : ℕ) → (j < i) ⊎ (j ≡ i) → slice_get (words ++ w ∷ []) j ≡ row (j / n) (j % n)
    at j (inl before) = (get_push words w j).0 (omega (arith, rows.long)) ∙ rows.each j before
    at j (inr last) = let e : slice_get (words ++ w ∷ []) j ≡ Some w = (get_push words w j).1 (omega (arith, rows.long)) in rw (e, last) (sym is)

-- word k of row r
pub row_there : (row : ℕ → ℕ → Option ℕ) (n : ℕ) (words : List ℕ) (i r k : ℕ) → AreRows row n words i
    → n * r + k < i → (n * r + k) / n ≡ r → (n * r + k) % n ≡ k → slice_get words (n * r + k) ≡ row r k
row_there row n words i r k rows within of at = rows.each (n * r + k) within ∙ rw (of, at) refl
