-- Rows one after another.
use Rattle.std.proofs.Common.{◌≡◌, ◌<◌, ◌+◌, ◌||◌, suc, ℕ, List, [], ◌∷◌, ◌++◌, length, take, drop, get_or, add-one, drop-cons, sym, ap, ◌∙◌}
use Rattle.std.proofs.lemmas.List.{take_more}
use Rattle.tal_syntax.specs.declared.form.RegType.{RegType}
use Rattle.tal_rows.specs.Lines.{has_register, repeats}

-- what is left from an item on
pub here : {X : Type 0} (xs : List X) (i : ℕ) (x : X) → i < length xs → x ≡ get_or xs i x → drop i xs ≡ x ∷ drop (i + 1) xs
here xs i x lt is = drop-cons xs i x lt ∙ ap (λ y. y ∷ drop (suc i) xs) (sym is) ∙ ap (λ n. x ∷ drop n xs) (sym (add-one i))

-- the rows so far are the next row's front
pub repeats_next : (xs : List RegType) (i : ℕ) (x : RegType) → i < length xs → x ≡ get_or xs i x
    → repeats (take i xs) (drop i xs) ≡ (has_register x.reg (take i xs) || repeats (take (i + 1) xs) (drop (i + 1) xs))
unfolding repeats
repeats_next xs i x lt is =
    ap (repeats (take i xs)) (here xs i x lt is)
    ∙ ap (λ front. has_register x.reg (take i xs) || repeats front (drop (i + 1) xs)) (ap (λ y. take i xs ++ y ∷ []) is ∙ sym (take_more xs i x lt))
