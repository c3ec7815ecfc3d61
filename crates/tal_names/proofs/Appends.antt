-- Mentions one after another.
use Rattle.std.proofs.Common.{◌≡◌, ◌<◌, ◌+◌, ℕ, List, [], ◌∷◌, ◌++◌, length, take, get_or, append-nil, refl, sym, ap, ◌∙◌}
use Rattle.std.proofs.lemmas.List.{take_more}
use Rattle.std.proofs.lemmas.Grind.{flat_map-append}
use Rattle.std.specs.List.{flat_map}
use Rattle.tal_names.specs.Declarations.{Names}
use Rattle.tal_names.specs.Mentions.{with_mention, with_mentions}

-- the names after mentions, and then after further ones
pub mentions_append : (m : Names) (names ns more : List (List ℕ)) → with_mentions m names (ns ++ more) ≡ with_mentions m (with_mentions m names ns) more
unfolding with_mentions
mentions_append m names [] more = refl
mentions_append m names (n ∷ ns) more = mentions_append m (with_mention m names n) ns more

-- the names after what the items before one mention, and then after what it mentions
pub mentions_next : {X : Type 0} (f : X → List (List ℕ)) (m : Names) (names : List (List ℕ)) (xs : List X) (i : ℕ) (x : X) → i < length xs → x ≡ get_or xs i x
    → with_mentions m (with_mentions m names (flat_map f (take i xs))) (f x) ≡ with_mentions m names (flat_map f (take (i + 1) xs))
mentions_next f m names xs i x lt is =
    sym (mentions_append m names (flat_map f (take i xs)) (f x))
    ∙ ap (λ ns. with_mentions m names (flat_map f (take i xs) ++ ns)) (sym (append-nil (f x)))
    ∙ ap (with_mentions m names) (sym (flat_map-append f (take i xs) (x ∷ [])))
    ∙ ap (λ y. with_mentions m names (flat_map f (take i xs ++ y ∷ []))) is
    ∙ ap (λ ys. with_mentions m names (flat_map f ys)) (sym (take_more xs i x lt))
