-- The objects of a store: where each stands, and where they stand once a value of one was replaced.
use Rattle.std.proofs.Common.{◌≡◌, ◌≢◌, ◌⊎◌, inl, inr, ◌+◌, ◌%◌, ◌≤◌, ℕ, zero, suc, Bool, Some, arith, refl, sym, ◌∙◌, ap, [], ◌∷◌, ◌++◌, length, slice_get, slice_set, Option, None, slice_index, List}
use Rattle.std.specs.Option.{option_map, option_and_then}
use Rattle.std.proofs.lemmas.Option.{slice_get-map, get_or_from_slice_get}
use Rattle.std.proofs.lemmas.List.{length-set, length-append}
use Rattle.tal_image.specs.Image.{ImageParts}
use Rattle.tal_image.specs.Shown.{shown}
use Rattle.object_layout.specs.Classes.{ShapesView, Need, rounded_up}
use Rattle.typed_machine.specs.Values.{Value, ObjectShape, InstanceOf, ArrayOf}
use Rattle.typed_machine.specs.Stores.{Object, Store, places_in, set_value, with_value, value_count, need}
use Rattle.typed_machine.specs.States.{State, placed_shapes, places_of}
use Rattle.typed_machine.specs.Words.{head_values, object_values}
use Rattle.word_machine.specs.Standing.{end_of, IsInside, ObjectsLie, BlocksStand}

-- ---- place and shape

-- the place of an object
pub place_of_object : (s : State) (i : ℕ) (o : Object) → slice_get s.store i ≡ Some o → slice_index (places_of s) i ≡ o.place
place_of_object s i o h =
    get_or_from_slice_get (places_of s) i o.place 0 (slice_get-map (λ (p : Object). p.place) s.store i ∙ ap (option_map (λ (p : Object). p.place)) h)

-- its shape
pub object_shape : (s : State) (i : ℕ) (o : Object) → slice_get s.store i ≡ Some o → slice_get (placed_shapes s) i ≡ Some o.shape
object_shape s i o h = slice_get-map (λ (p : Object). p.shape) s.store i ∙ ap (option_map (λ (p : Object). p.shape)) h

-- where there is no object there is no shape
pub no-shape : (s : State) (i : ℕ) → slice_get s.store i ≡ None → slice_get (placed_shapes s) i ≡ None
no-shape s i h = slice_get-map (λ (p : Object). p.shape) s.store i ∙ ap (option_map (λ (p : Object). p.shape)) h

-- the object whose shape tells a value
pub shape-object : (s : State) (i : ℕ) (f : ObjectShape → Option Value) (v : Value) → option_and_then f (slice_get (placed_shapes s) i) ≡ Some v
    → (o : Object) × (slice_get s.store i ≡ Some o) × (f o.shape ≡ Some v)
shape-object s i f v h = go (slice_get s.store i) refl
  where
    go : (o : Option Object) → slice_get s.store i ≡ o → (o : Object) × (slice_get s.store i ≡ Some o) × (f o.shape ≡ Some v)
    go None e =
        let nothing = rw (no-shape s i e) at h in
        absurd cc
    go (Some o) e = (o, e, rw (object_shape s i o e) at h)

-- ---- a value of an object replaced

-- the places stay
pub places-set : (store : Store) (i j : ℕ) (v : Value) → places_in (set_value store i j v) ≡ places_in store
places-set [] i j v = refl
places-set (o ∷ os) zero j v = refl
places-set (o ∷ os) (suc i) j v = rw (places-set os i j v) refl

-- the object whose value is replaced, or another one of before
abbrev pub Replaced : Store → ℕ → ℕ → Value → ℕ → Object → Type 0
Replaced store i j v k p = ((o : Object) × (slice_get store i ≡ Some o) × (k ≡ i) × (p ≡ with_value j v o)) ⊎ ((k ≢ i) × (slice_get store k ≡ Some p))

-- each object is one of these
pub store-read : (store : Store) (i j : ℕ) (v : Value) (k : ℕ) (p : Object) → slice_get (set_value store i j v) k ≡ Some p → Replaced store i j v k p
store-read [] i j v k p h = absurd cc
store-read (o ∷ os) zero j v zero p h = inl (o, refl, refl, cc)
store-read (o ∷ os) zero j v (suc k) p h = inr (λ e. omega arith, h)
store-read (o ∷ os) (suc i) j v zero p h = inr (λ e. omega arith, h)
store-read (o ∷ os) (suc i) j v (suc k) p h = behind (store-read os i j v k p h)
  where
    behind : Replaced os i j v k p → Replaced (o ∷ os) (suc i) j v (suc k) p
    behind (inl (q, there, at, is)) = inl (q, there, omega arith, is)
    behind (inr (other, there)) = inr (λ e. other (omega arith), there)

-- the words of an object whose value is replaced
pub words-set : (o : Object) (j : ℕ) (v : Value) → object_values (with_value j v o) ≡ slice_set (object_values o) (length (head_values o.shape) + j) v
unfolding object_values head_values
words-set o j v = go o.shape
  where
    go : (shape : ObjectShape) → head_values shape ++ slice_set o.values j v ≡ slice_set (head_values shape ++ o.values) (length (head_values shape) + j) v
    go (InstanceOf c) = let at : 1 + j ≡ suc j = omega arith in rw at refl
    go (ArrayOf k n) = let at : 2 + j ≡ suc (suc j) = omega arith in rw at refl

-- an object of before
pub record Stood (store : Store) (k : ℕ) (p : Object) : Type 0 where
  pub before : Object
  pub there : slice_get store k ≡ Some before
  pub place : p.place ≡ before.place
  pub shape : p.shape ≡ before.shape
  pub count : length (object_values p) ≡ length (object_values before)

-- where each object stood
pub stood : (store : Store) (i j : ℕ) (v : Value) (k : ℕ) (p : Object) → slice_get (set_value store i j v) k ≡ Some p → Stood store k p
stood store i j v k p h = go (store-read store i j v k p h)
  where
    go : Replaced store i j v k p → Stood store k p
    go (inl (o, there, at, is)) = record {
      before = o;
      there = rw at there;
      place = rw is refl;
      shape = rw is refl;
      count = rw (is, words-set o j v) (length-set (object_values o) (length (head_values o.shape) + j) v);
    }
    go (inr (other, there)) = record { before = p; there = there; place = refl; shape = refl; count = refl }

-- it is inside where that one was
stood-inside : (image : ImageParts) (s : State) (store : Store) (k : ℕ) (p : Object) (q : Stood store k p) → IsInside image s k q.before → IsInside image s k p
stood-inside image s store k p q (inl (row, low, top)) = let place = q.place in let count = q.count in inl (row, omega arith, omega arith)
stood-inside image s store k p q (inr (heap, low, top)) = let place = q.place in let count = q.count in inr (heap, omega arith, omega arith)

-- two of them are apart where those were
stood-apart : (store : Store) (k l : ℕ) (p r : Object) (q : Stood store k p) (t : Stood store l r)
    → (end_of q.before ≤ t.before.place) ⊎ (end_of t.before ≤ q.before.place)
    → (end_of p ≤ r.place) ⊎ (end_of r ≤ p.place)
stood-apart store k l p r q t (inl below) = let place = q.place in let count = q.count in let other = t.place in inl (omega arith)
stood-apart store k l p r q t (inr above) = let place = q.place in let other = t.place in let count = t.count in inr (omega arith)

-- so objects lie as they did
pub still-lie : (image : ImageParts) (live : ℕ → Bool) (s : State) (i j : ℕ) (v : Value) → ObjectsLie image live s
    → ObjectsLie image live (record s { store = set_value s.store i j v })
still-lie image live s i j v lie = record {
  short = lie.short;
  aligned = λ k p lives h. let q = stood s.store i j v k p h in ap (λ n. n % 4) q.place ∙ lie.aligned k q.before lives q.there;
  inside = λ k p lives h. let q = stood s.store i j v k p h in stood-inside image s s.store k p q (lie.inside k q.before lives q.there);
  apart = λ k l p r lives live_too differ h e.
      let q = stood s.store i j v k p h in
      let t = stood s.store i j v l r e in
      stood-apart s.store k l p r q t (lie.apart k l q.before t.before lives live_too differ q.there t.there);
}

-- they stand in the blocks in which they stood
pub still-blocks : (image : ImageParts) (live : ℕ → Bool) (store : Store) (i j : ℕ) (v : Value) (words : List ℕ) → BlocksStand image live store words
    → BlocksStand image live (set_value store i j v) words
still-blocks image live store i j v words h = record {
  formed = h.formed;
  size = h.size;
  objects = λ k p lives behind there.
      let q = stood store i j v k p there in
      let b = h.objects k q.before lives behind q.there in
      record { block = b.block; place = q.place ∙ b.place; used = b.used; exact = b.exact ∙ ap (λ shape. need (shown image).shapes shape) (sym q.shape) };
}

-- ---- the words of an object

-- its block has two words more than it, at least
pub object_need : (s : ShapesView) (o : Object) → length o.values ≡ value_count s o.shape → length (object_values o) + 2 ≤ need s o.shape
unfolding object_values head_values value_count Need rounded_up
object_need s o count = go o.shape count
  where
    go : (shape : ObjectShape) → length o.values ≡ value_count s shape → length (head_values shape ++ o.values) + 2 ≤ need s shape
    go (InstanceOf c) e = omega (arith, e)
    go (ArrayOf k n) e = omega (arith, e)
