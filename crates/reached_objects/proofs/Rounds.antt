-- Rounds of marks come to rest at the least set.
use Rattle.std.proofs.Common.{◌≡◌, ℕ, zero, suc, ◌+◌, ◌<◌, ◌≤◌, ◌⊎◌, ◌↔◌, inl, inr, Bool, true, false, Some, List, length, ◌++◌, slice_get, slice_index_or, arith, refl, sym, ◌∙◌, ap, subst}
use Rattle.object_layout.specs.Classes.{ShapesView}
use Rattle.typed_machine.specs.Values.{Value}
use Rattle.typed_machine.specs.Stores.{Object, Store}
use Rattle.typed_machine.specs.Reaching.{names, references_of, references_in, marks_of, marked, Reach}
use Rattle.reached_objects.specs.ReachedFrom.{ReachedFrom}
use Rattle.reached_objects.specs.ReachedFrom.ReachedFrom.{named, followed}
use Rattle.reached_objects.proofs.Marks.{names-left, names-right, names-split, marks-at, marks-long, mark-inside, Refers, refers_in, in_refers, AreIn, marked_count, few-marked, same-or-more}

module _ (s : ShapesView) (store : Store) (values : List Value) where
  -- the marks after so many rounds
  abbrev after : ℕ → List Bool
  after n = marked s store values n

  -- what a round collects
  abbrev collected : ℕ → List Value
  collected n = values ++ references_in s (after n) store

  -- each round has a mark for each object
  after-long : (n : ℕ) → length (after n) ≡ length store
  after-long zero = marks-long values 0 (length store)
  after-long (suc n) = marks-long (collected n) 0 (length store)

  -- a mark says what the values refer to
  marks-names : (given : List Value) (i : ℕ) → i < length store → slice_index_or (marks_of given 0 (length store)) i false ≡ names given i
  marks-names given i l = marks-at given 0 (length store) i l ∙ ap (names given) (let e : 0 + i ≡ i = omega arith in e)

  -- a mark is one of an object
  after-inside : (n i : ℕ) → slice_index_or (after n) i false ≡ true → i < length store
  after-inside n i m = let l = mark-inside (after n) i m in let e = after-long n in omega arith

  -- the marks of a round are what it collects
  round-marks : (n i : ℕ) → i < length store → slice_index_or (after (suc n)) i false ≡ names (collected n) i
  round-marks n i l = marks-names (collected n) i l

  -- ---- what is marked is reached

  sound : (n i : ℕ) → slice_index_or (after n) i false ≡ true → ReachedFrom s store values i
  sound zero i m = let l = after-inside zero i m in named i l (sym (marks-names values i l) ∙ m)
  sound (suc n) i m = choose (names-split values (references_in s (after n) store) i (sym (round-marks n i inside) ∙ m)) (sound n)
    where
      inside : i < length store
      inside = after-inside (suc n) i m

      choose : (names values i ≡ true) ⊎ (names (references_in s (after n) store) i ≡ true) → ((j : ℕ) → slice_index_or (after n) j false ≡ true → ReachedFrom s store values j) → ReachedFrom s store values i
      choose (inl h) before = named i inside h
      choose (inr h) before =
          let q : Refers s (after n) store i = in_refers s (after n) store i h in
          followed q.number i q.object (before q.number q.marked) q.is inside q.names

  -- ---- rounds come to rest

  -- a round keeps the marks
  grows : (n : ℕ) → AreIn (after n) (after (suc n))
  grows zero i m =
      let l = after-inside zero i m in
      round-marks zero i l ∙ names-left values (references_in s (after zero) store) i (sym (marks-names values i l) ∙ m)
  grows (suc n) i m = round-marks (suc n) i inside ∙ choose (names-split values (references_in s (after n) store) i (sym (round-marks n i inside) ∙ m)) (grows n)
    where
      inside : i < length store
      inside = after-inside (suc n) i m

      choose : (names values i ≡ true) ⊎ (names (references_in s (after n) store) i ≡ true) → AreIn (after n) (after (suc n)) → names (collected (suc n)) i ≡ true
      choose (inl h) kept = names-left values (references_in s (after (suc n)) store) i h
      choose (inr h) kept =
          let q : Refers s (after n) store i = in_refers s (after n) store i h in
          names-right values (references_in s (after (suc n)) store) i (refers_in s (after (suc n)) store q.number i q.object (kept q.number q.marked) q.is q.names)

  -- one round more leaves the marks, or adds one
  next-round : (n : ℕ) → (after n ≡ after (suc n)) ⊎ (marked_count (after n) < marked_count (after (suc n)))
  next-round n = same-or-more (after n) (after (suc n)) (after-long n ∙ sym (after-long (suc n))) (grows n)

  -- so each round has come to rest, or has as many marks as there were rounds
  rests-or-grows : (n : ℕ) → (after n ≡ after (suc n)) ⊎ (n ≤ marked_count (after n))
  rests-or-grows zero = inr (omega arith)
  rests-or-grows (suc n) = choose (rests-or-grows n)
    where
      again : after n ≡ after (suc n) → after (suc n) ≡ after (suc (suc n))
      again e = ap (λ marks. marks_of (values ++ references_in s marks store) 0 (length store)) e

      more : n ≤ marked_count (after n) → (after n ≡ after (suc n)) ⊎ (marked_count (after n) < marked_count (after (suc n))) → (after (suc n) ≡ after (suc (suc n))) ⊎ (suc n ≤ marked_count (after (suc n)))
      more l (inl e) = inl (again e)
      more l (inr m) = inr (omega arith)

      choose : (after n ≡ after (suc n)) ⊎ (n ≤ marked_count (after n)) → (after (suc n) ≡ after (suc (suc n))) ⊎ (suc n ≤ marked_count (after (suc n)))
      choose (inl e) = inl (again e)
      choose (inr l) = more l (next-round n)

  -- after as many rounds as there are objects nothing is added
  rests : after (length store) ≡ after (suc (length store))
  rests = choose (rests-or-grows (length store)) (next-round (length store))
    where
      choose : (after (length store) ≡ after (suc (length store))) ⊎ (length store ≤ marked_count (after (length store)))
          → (after (length store) ≡ after (suc (length store))) ⊎ (marked_count (after (length store)) < marked_count (after (suc (length store))))
          → after (length store) ≡ after (suc (length store))
      choose (inl e) r = e
      choose (inr l) (inl e) = e
      choose (inr l) (inr m) = let a = few-marked (after (suc (length store))) in let b = after-long (suc (length store)) in absurd (omega arith)

  -- ---- what is reached is marked

  -- what the last round would collect is marked
  last-marks : (i : ℕ) → i < length store → names (collected (length store)) i ≡ true → slice_index_or (after (length store)) i false ≡ true
  last-marks i l h = ap (λ marks. slice_index_or marks i false) rests ∙ (round-marks (length store) i l ∙ h)

  complete : (i : ℕ) → ReachedFrom s store values i → slice_index_or (after (length store)) i false ≡ true
  complete i (named _ l h) = last-marks i l (names-left values (references_in s (after (length store)) store) i h)
  complete j (followed i _ o r e l h) = last-marks j l (names-right values (references_in s (after (length store)) store) j (refers_in s (after (length store)) store i j o (complete i r) e h))

-- what is reached is the least set
pub reach-least : (s : ShapesView) (store : Store) (values : List Value) (i : ℕ) → (Reach s store values i ≡ true) ↔ ReachedFrom s store values i
unfolding Reach
reach-least s store values i = (λ h. sound s store values (length store) i h, λ r. complete s store values i r)
