-- Fronts of lists.
use Rattle.std.proofs.Common.{◌≡◌, ℕ, ◌-◌, List, ◌++◌, [], length, take, drop, append-nil, sym, ap, ◌∙◌, append_assoc, take-append-drop}
use Rattle.std.proofs.lemmas.List.{take_rest}
use Rattle.outside.specs.FileMaps.{IsFront}

-- Where `done` is gone from the front of `all` and n more of the rest go, so are the two together.
pub front-grows : (all done rest : List ℕ) (n : ℕ) → all ≡ done ++ rest → all ≡ (done ++ take n rest) ++ take (length rest - n) (drop n rest)
front-grows all done rest n split =
    split ∙ ap (λ l. done ++ l) (sym (take-append-drop n rest)) ∙ sym (append_assoc done (take n rest) (drop n rest)) ∙
    ap (λ l. (done ++ take n rest) ++ l) (sym (take_rest rest n))

-- The first n items are a front.
pub IsFront-take : (n : ℕ) (whole : List ℕ) → IsFront (take n whole) whole
IsFront-take n whole = (drop n whole, sym (take-append-drop n whole))

-- A front of a front is a front.
pub IsFront-trans : (a b c : List ℕ) → IsFront a b → IsFront b c → IsFront a c
IsFront-trans a b c (more, b-is) (rest, c-is) = (more ++ rest, c-is ∙ ap (λ l. l ++ rest) b-is ∙ append_assoc a more rest)

-- All is a front of itself.
pub IsFront-all : (whole : List ℕ) → IsFront whole whole
IsFront-all whole = ([], sym (append-nil whole))
