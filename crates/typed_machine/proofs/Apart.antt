-- Whether no two of a list overlap, by those behind each; and a test of each element.
use Rattle.std.proofs.Common.{arith, ◌≡◌, ◌↔◌, IsTrue, ℕ, Bool, true, false, List, ◌+◌, ◌-◌, ◌<◌, length, refl, sym, ap, subst, ◌∙◌}
use Rattle.std.specs.Bool.{MatchBool}
use Rattle.std.specs.List.{All, AllPairs, AllWithin, HoldsAt}
use Rattle.std.proofs.Math.ListN.{get_or, drop}
use Rattle.std.proofs.lemmas.Bool.{true≢false}
use Rattle.std.proofs.lemmas.List.{get_or-drop, get_or_default, length-drop}
use Rattle.std.proofs.lemmas.List.Elements.{All-get_or, All-from_get_or, All-from_all_within}

-- what holds of each pair holds of one element and all behind it
pub behind : {X : Type 0} (R : X → X → Type 0) (xs : List X) (i : ℕ) (d : X) → i < length xs → AllPairs R xs → All (R (get_or xs i d)) (drop (i + 1) xs)
behind R xs i d below pairs =
    let long : length (drop (i + 1) xs) ≡ length xs - (i + 1) = length-drop (i + 1) xs in
    All-from_get_or (R (get_or xs i d)) (drop (i + 1) xs) d (λ k within. rw (get_or-drop (i + 1) xs k d) (pairs i (i + 1 + k) d (omega arith) (omega arith)))

-- what holds of one element and all behind it holds of it and each later one
pub later : {X : Type 0} (R : X → X → Type 0) (xs : List X) (i j : ℕ) (e d : X) → i < j → j < length xs → All (R (get_or xs i e)) (drop (i + 1) xs)
    → R (get_or xs i d) (get_or xs j d)
later R xs i j e d below within all =
    let long : length (drop (i + 1) xs) ≡ length xs - (i + 1) = length-drop (i + 1) xs in
    let is : i + 1 + (j - (i + 1)) ≡ j = omega arith in
    rw (get_or_default xs i d e (omega arith))
    (subst (R (get_or xs i e)) (get_or-drop (i + 1) xs (j - (i + 1)) d ∙ ap (λ k. get_or xs k d) is)
    (All-get_or (R (get_or xs i e)) (drop (i + 1) xs) (j - (i + 1)) d (omega arith) all))

-- a test of each element answers whether all have the property
pub all-told : {X : Type 0} (P : X → Type 0) (r : Bool) (xs : List X) (d : X)
    → MatchBool r (AllWithin P xs 0 (length xs)) ((k : ℕ) × (k < length xs) × HoldsAt (λ x. P x → ⊥) xs k) → IsTrue r ↔ All P xs
all-told P true xs d h = (λ yes. All-from_all_within P xs h, λ all. refl)
all-told P false xs d (k, within, fails) = (λ no. absurd (true≢false (sym no)), λ all. absurd (fails d (All-get_or P xs k d within all)))
