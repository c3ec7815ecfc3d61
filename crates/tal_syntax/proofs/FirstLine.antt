-- The first line of a text.
use Rattle.std.proofs.Common.{◌≡◌, ℕ, ◌<◌, Bool, true, false, not, cond, List, [], ◌∷◌, length, drop, refl, sym, ap, ◌∙◌, arith}
use Rattle.std.specs.List.{take_while}
use Rattle.std.proofs.lemmas.List.Sums.{take_while-cons}
use lib.Dec.{eqb}
use Rattle.tal_syntax.specs.Lines.{between_lfs, onto_first, not_lf, trimmed, without_cr, lines}

-- the lines behind a rest that begins with an LF, or nothing
abbrev behind_lf : List ℕ → List (List ℕ)
behind_lf [] = []
behind_lf (b ∷ bs) = between_lfs bs

step : (r : Bool) (b : ℕ) (bs front : List ℕ) → cond r ([] ∷ between_lfs bs) (onto_first b (front ∷ behind_lf (drop (length front) bs))) ≡ cond (not r) (b ∷ front) [] ∷ behind_lf (drop (length (cond (not r) (b ∷ front) [])) (b ∷ bs))
step true b bs front = refl
step false b bs front = refl

pub first_line : (bytes : List ℕ) → between_lfs bytes ≡ take_while not_lf bytes ∷ behind_lf (drop (length (take_while not_lf bytes)) bytes)
unfolding between_lfs
first_line [] = refl
first_line (b ∷ bs) =
    let front = take_while not_lf bs in
    rw (take_while-cons not_lf b bs) (ap (λ (ls : List (List ℕ)). cond (eqb b 10) ([] ∷ between_lfs bs) (onto_first b ls)) (first_line bs) ∙ step (eqb b 10) b bs front)

-- without an LF there is one line
pub one_line : (bytes front : List ℕ) → front ≡ take_while not_lf bytes → drop (length front) bytes ≡ [] → lines bytes ≡ front ∷ []
unfolding trimmed
one_line bytes front e none =
    let k : between_lfs bytes ≡ front ∷ [] = first_line bytes ∙ ap (λ (f : List ℕ). f ∷ behind_lf (drop (length f) bytes)) (sym e) ∙ ap (λ (l : List ℕ). front ∷ behind_lf l) none in
    ap trimmed k

some_line : (rest : List ℕ) (front : List ℕ) → trimmed (front ∷ between_lfs rest) ≡ without_cr front ∷ trimmed (between_lfs rest)
unfolding trimmed
some_line rest front = rw (first_line rest) refl

pub more_lines : (bytes front rest : List ℕ) → front ≡ take_while not_lf bytes → drop (length front) bytes ≡ rest → 0 < length rest → lines bytes ≡ without_cr front ∷ lines (drop 1 rest)
more_lines bytes front [] e more some = absurd (omega arith)
more_lines bytes front (b ∷ rest) e more some =
    let k : between_lfs bytes ≡ front ∷ between_lfs rest = first_line bytes ∙ ap (λ (f : List ℕ). f ∷ behind_lf (drop (length f) bytes)) (sym e) ∙ ap (λ (l : List ℕ). front ∷ behind_lf l) more in
    ap trimmed k ∙ some_line rest front

pub empty_is : (l : List ℕ) → length l ≡ 0 → l ≡ []
empty_is [] e = refl
empty_is (b ∷ bs) e = absurd (omega arith)
