-- What is reached stays reached in a store with more objects, and a memory stands with another heap.
use Rattle.std.proofs.Common.{◌≡◌, ◌<◌, ◌↔◌, ◌⊎◌, inl, inr, ℕ, zero, suc, true, List, [], ◌∷◌, ◌++◌, length, Some, slice_get, refl, sym, ap, arith}
use Rattle.std.proofs.lemmas.Option.{slice_get_within}
use Rattle.object_layout.specs.Classes.{ShapesView}
use Rattle.typed_machine.specs.Values.{Value, Ref}
use Rattle.typed_machine.specs.Stores.{Object, Store}
use Rattle.typed_machine.specs.Reaching.{names, Reach}
use Rattle.reached_objects.specs.ReachedFrom.{ReachedFrom}
use Rattle.reached_objects.specs.ReachedFrom.ReachedFrom.{named, followed}

-- reach is a least set
abbrev pub ReachIsLeast : Type 0
ReachIsLeast = (s : ShapesView) (store : Store) (values : List Value) (i : ℕ) → (Reach s store values i ≡ true) ↔ ReachedFrom s store values i

-- a value more names what was named
names-more : (v : Value) (values : List Value) (i : ℕ) → names values i ≡ true → names (v ∷ values) i ≡ true
names-more (Ref j) values i h = grind arith
names-more v values i h = h

-- and what it refers to
pub names-first : (values : List Value) (i : ℕ) → names (Ref i ∷ values) i ≡ true
names-first values i = grind arith

some-at : {A : Type 0} (xs : List A) (k : ℕ) → k < length xs → (x : A) × (slice_get xs k ≡ Some x)
some-at [] k h = absurd (omega arith)
some-at (x ∷ xs) zero h = (x, refl)
some-at (x ∷ xs) (suc k) h = some-at xs k (omega (arith, h))

-- what is reached is reached in a store that has the objects of the first, with a value more
pub reached-more : (s : ShapesView) (store after : Store) (values : List Value) (v : Value) → ((k : ℕ) (o : Object) → slice_get store k ≡ Some o → slice_get after k ≡ Some o)
    → (i : ℕ) → ReachedFrom s store values i → ReachedFrom s after (v ∷ values) i
reached-more s store after values v has i (named j low h) =
    let o = some-at store j low in named j (slice_get_within after j o.0 (has j o.0 o.1)) (names-more v values j h)
reached-more s store after values v has i (followed k j o r here low h) =
    let p = some-at store j low in
    followed k j o (reached-more s store after values v has k r) (has k o here) (slice_get_within after j p.0 (has j p.0 p.1)) h

-- the objects of a store stand in one with one more
pub has-front : (store : Store) (o : Object) (k : ℕ) (p : Object) → slice_get store k ≡ Some p → slice_get (store ++ o ∷ []) k ≡ Some p
has-front [] o k p e = absurd (cc)
has-front (q ∷ store) o zero p e = e
has-front (q ∷ store) o (suc k) p e = has-front store o k p e

-- which has no others but the last
pub last-cases : (store : Store) (o : Object) (k : ℕ) (p : Object) → slice_get (store ++ o ∷ []) k ≡ Some p
    → (slice_get store k ≡ Some p) ⊎ ((k ≡ length store) × (p ≡ o))
last-cases [] o zero p e = let same : o ≡ p = cc in inr (refl, sym same)
last-cases [] o (suc k) p e = absurd (cc)
last-cases (q ∷ store) o zero p e = inl e
last-cases (q ∷ store) o (suc k) p e = step (last-cases store o k p e)
  where
    step : (slice_get store k ≡ Some p) ⊎ ((k ≡ length store) × (p ≡ o)) → (slice_get store k ≡ Some p) ⊎ ((suc k ≡ suc (length store)) × (p ≡ o))
    step (inl h) = inl h
    step (inr (h, is)) = inr (ap suc h, is)

-- and the last
pub last-there : (store : Store) (o : Object) → length store < length (store ++ o ∷ [])
last-there [] o = omega arith
last-there (q ∷ store) o = let more = last-there store o in omega (arith, more)
