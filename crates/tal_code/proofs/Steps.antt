-- Items one after another.
use Rattle.std.proofs.Common.{◌≡◌, ◌<◌, ◌+◌, suc, ℕ, List, ◌∷◌, length, drop, get_or, add-one, drop-cons, sym, ap, ◌∙◌}

-- what is left from an item on
pub here : {X : Type 0} (xs : List X) (i : ℕ) (x : X) → i < length xs → x ≡ get_or xs i x → drop i xs ≡ x ∷ drop (i + 1) xs
here xs i x lt is = drop-cons xs i x lt ∙ ap (λ y. y ∷ drop (suc i) xs) (sym is) ∙ ap (λ n. x ∷ drop n xs) (sym (add-one i))
