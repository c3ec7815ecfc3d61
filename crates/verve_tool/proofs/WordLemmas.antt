-- Words of a command line.
use Rattle.std.specs.Prelude.{Result, Ok, Err, String}
use Rattle.std.specs.declared.alloc.Global.{Global}
use Rattle.std.proofs.Common.{◌≡◌, ℕ, List, [], ◌∷◌, length, get_or, refl, sym, ◌∙◌, arith, Bool, true, false}
use Rattle.std.specs.Prelude.{not, bytes_eq}
use Rattle.std.proofs.lemmas.Slice.Eq.{bytes_eq-Decides}
use mathlib.Core.Bool.{true≢false}

-- Ok and Err are different
ok_or_err : {T E : Type 0} (x : T) (e : E) → Ok x ≡ Err e → ⊥
ok_or_err x e h = cc

-- a result is not Ok and Err at once
pub no_err : {T E : Type 0} (r : Result T E) (x : T) (e : E) → r ≡ Ok x → r ≡ Err e → ⊥
no_err r x e ok err = ok_or_err x e (sym ok ∙ err)

-- a result is Ok of one number
pub same_ok : {E : Type 0} (r : Result ℕ E) (x y : ℕ) → r ≡ Ok x → r ≡ Ok y → x ≡ y
same_ok r x y a b = cc

-- one word is the list of it
pub one_word : (words : List (String Global)) (a : String Global) → length words ≡ 1 → a ≡ get_or words 0 a → words ≡ a ∷ []
one_word [] a len h0 = let bad : ⊥ = omega arith in absurd bad
one_word (w ∷ []) a len h0 = cc
one_word (w ∷ x ∷ rest) a len h0 = let bad : ⊥ = omega arith in absurd bad

-- two words are the list of them
pub two_words : (words : List (String Global)) (a b : String Global) → length words ≡ 2 → a ≡ get_or words 0 a → b ≡ get_or words 1 b → words ≡ a ∷ b ∷ []
two_words [] a b len h0 h1 = let bad : ⊥ = omega arith in absurd bad
two_words (w ∷ []) a b len h0 h1 = let bad : ⊥ = omega arith in absurd bad
two_words (w ∷ x ∷ []) a b len h0 h1 = cc
two_words (w ∷ x ∷ y ∷ rest) a b len h0 h1 = let bad : ⊥ = omega arith in absurd bad

-- three words are the list of them
pub three_words : (words : List (String Global)) (a b c : String Global) → length words ≡ 3
    → a ≡ get_or words 0 a → b ≡ get_or words 1 b → c ≡ get_or words 2 c → words ≡ a ∷ b ∷ c ∷ []
three_words [] a b c len h0 h1 h2 = let bad : ⊥ = omega arith in absurd bad
three_words (w ∷ []) a b c len h0 h1 h2 = let bad : ⊥ = omega arith in absurd bad
three_words (w ∷ x ∷ []) a b c len h0 h1 h2 = let bad : ⊥ = omega arith in absurd bad
three_words (w ∷ x ∷ y ∷ []) a b c len h0 h1 h2 = cc
three_words (w ∷ x ∷ y ∷ z ∷ rest) a b c len h0 h1 h2 = let bad : ⊥ = omega arith in absurd bad

-- a text without length has no bytes
pub no_bytes : (xs : List ℕ) → length xs ≡ 0 → xs ≡ []
no_bytes [] h = refl
no_bytes (x ∷ xs) h = let bad : ⊥ = omega arith in absurd bad

-- two texts that `!=` told apart
pub told_apart : (xs ys : List ℕ) (b : Bool) → xs ≡ ys → b ≡ true → b ≡ not (bytes_eq xs ys) → ⊥
told_apart xs ys b same t is = true≢false (sym t ∙ is ∙ (rw ((bytes_eq-Decides xs ys).1 same) refl))

-- false is the negation of true alone
not_true : (b : Bool) → false ≡ not b → b ≡ true
not_true true h = refl
not_true false h = absurd (true≢false (sym h))

-- two texts that `!=` did not tell apart
pub told_same : (xs ys : List ℕ) (b : Bool) → b ≡ false → b ≡ not (bytes_eq xs ys) → xs ≡ ys
told_same xs ys b f is = (bytes_eq-Decides xs ys).0 (not_true _ (sym f ∙ is))
