-- Rows that are made one after another, where each begins behind the one before.
use Rattle.std.proofs.Common.{ℕ, ◌≡◌, ◌<◌, ◌≤◌, ◌+◌, ◌++◌, List, [], ◌∷◌, length, get_or, drop, sym, ap, ◌∙◌, append_assoc, arith}
use Rattle.std.specs.List.{sum_by}
use Rattle.std.proofs.lemmas.List.{append-nil, drop_more, drop_all}
use Rattle.std.proofs.lemmas.List.Sums.{sum_by-drop_more}

module _ {X Y : Type 0} (rows : ℕ → List X → List Y) (row : ℕ → X → Y) (size : X → ℕ) (none : (at : ℕ) → rows at [] ≡ []) (one : (at : ℕ) (x : X) (xs : List X) → rows at (x ∷ xs) ≡ row at x ∷ rows (at + size x) xs) where
  -- the rows so far and those still to come, one step on
  pub one_more : (done all : List Y) (at i : ℕ) (xs : List X) (d : X) → i < length xs → done ++ rows at (drop i xs) ≡ all → (done ++ row at (get_or xs i d) ∷ []) ++ rows (at + size (get_or xs i d)) (drop (i + 1) xs) ≡ all
  one_more done all at i xs d within before =
      append_assoc done (row at (get_or xs i d) ∷ []) (rows (at + size (get_or xs i d)) (drop (i + 1) xs))
      ∙ ap (λ l. done ++ l) (sym (ap (rows at) (drop_more xs i d within) ∙ one at (get_or xs i d) (drop (i + 1) xs)))
      ∙ before

  -- and at the end
  pub no_more : (done all : List Y) (at i : ℕ) (xs : List X) → length xs ≤ i → done ++ rows at (drop i xs) ≡ all → done ≡ all
  no_more done all at i xs past before = sym (append-nil done) ∙ ap (λ l. done ++ l) (sym (ap (rows at) (drop_all i xs past) ∙ none at)) ∙ before

  -- there is room for those still to come
  pub room_more : (at i bound : ℕ) (xs : List X) (d : X) → i < length xs → at + sum_by size (drop i xs) ≤ bound → at + size (get_or xs i d) + sum_by size (drop (i + 1) xs) ≤ bound
  room_more at i bound xs d within room = let whole = sum_by-drop_more size xs i d within in omega arith
