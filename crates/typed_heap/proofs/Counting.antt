-- The sizes of the reached blocks are the needs of the reached objects.
use Rattle.std.proofs.Common.{◌≡◌, ◌≢◌, ℕ, zero, suc, ◌+◌, ◌-◌, ◌<◌, ◌≤◌, ◌⊎◌, ◌↔◌, inl, inr, Bool, true, false, cond, if◌then◌else◌, Some, List, [], ◌∷◌, fold, sum, map, length, drop, slice_get, arith, refl, sym, ◌∙◌, ap, subst}
use Rattle.std.proofs.lemmas.Bool.{false≢true, cases_eq}
use Rattle.heap_words.specs.Headers.{size_at}
use Rattle.object_layout.specs.Classes.{ShapesView}
use Rattle.free_index.specs.Lists.{In, Once}
use Rattle.mark_sweep.specs.Objects.{address}
use Rattle.mark_sweep.specs.Reached.{Reached}
use Rattle.heap_allocation.specs.Counts.{ListsReached}
use Rattle.tal_image.specs.Image.{ImageParts}
use Rattle.tal_image.specs.Shown.{shown}
use Rattle.typed_machine.specs.Values.{Value}
use Rattle.typed_machine.specs.Stores.{Object, Store, need}
use Rattle.typed_machine.specs.States.{State}
use Rattle.typed_machine.specs.Placing.{block_of, reached_words, free_words}
use Rattle.typed_heap.specs.Standing.{ObjectStands, reached_by, RootsStand, ReachedObject}
use Rattle.typed_heap.specs.Laws.{Agrees, PlacesDiffer, FreeWordsAreCounted}
use Rattle.typed_heap.proofs.Facts.{Told}
use Rattle.typed_heap.proofs.Reaching.{words-agree}
use Rattle.typed_heap.proofs.Taken.{block-address, drop-get}

-- a sum by its first number
fold-from : (a : ℕ) (xs : List ℕ) → fold (λ s x. s + x) a xs ≡ a + sum xs
fold-from a [] = omega arith
fold-from a (x ∷ xs) = let p = fold-from (a + x) xs in let q = fold-from (0 + x) xs in omega arith

sum-cons : (x : ℕ) (xs : List ℕ) → sum (x ∷ xs) ≡ x + sum xs
sum-cons x xs = fold-from (0 + x) xs ∙ (let z : 0 + x + sum xs ≡ x + sum xs = omega arith in z)

-- the blocks of the reached objects from number i on
abbrev blocks_reached : (ℕ → Bool) → ℕ → Store → List ℕ
blocks_reached reached i [] = []
blocks_reached reached i (o ∷ store) = if reached i then block_of o.place ∷ blocks_reached reached (i + 1) store else blocks_reached reached (i + 1) store

-- object number m, counted from i on, is reached and has the block
record HasBlock (reached : ℕ → Bool) (i : ℕ) (store : Store) (block : ℕ) : Type 0 where
  number : ℕ
  object : Object
  is : slice_get store number ≡ Some object
  reaches : reached (i + number) ≡ true
  at : block ≡ block_of object.place

later-has : (reached : ℕ → Bool) (i : ℕ) (o : Object) (store : Store) (block : ℕ) → HasBlock reached (i + 1) store block → HasBlock reached i (o ∷ store) block
later-has reached i o store block q = record { number = suc q.number; object = q.object; is = q.is; reaches = ap reached (let e : i + suc q.number ≡ i + 1 + q.number = omega arith in e) ∙ q.reaches; at = q.at }

in_has : (reached : ℕ → Bool) (i : ℕ) (store : Store) (block : ℕ) → In block (blocks_reached reached i store) → HasBlock reached i store block
in_has reached i [] block h = absurd h
in_has reached i (o ∷ store) block h = go (reached i) refl h (λ g. later-has reached i o store block (in_has reached (i + 1) store block g))
  where
    go : (b : Bool) → reached i ≡ b → In block (cond b (block_of o.place ∷ blocks_reached reached (i + 1) store) (blocks_reached reached (i + 1) store))
        → (In block (blocks_reached reached (i + 1) store) → HasBlock reached i (o ∷ store) block) → HasBlock reached i (o ∷ store) block
    go true e (inl g) more = record { number = 0; object = o; is = refl; reaches = ap reached (let e : i + 0 ≡ i = omega arith in e) ∙ e; at = g }
    go true e (inr g) more = more g
    go false e g more = more g

has-in : (reached : ℕ → Bool) (i m : ℕ) (store : Store) (o : Object) → slice_get store m ≡ Some o → reached (i + m) ≡ true → In (block_of o.place) (blocks_reached reached i store)
has-in reached i m [] o e r = cc
has-in reached i zero (p ∷ store) o e r =
    let q : p ≡ o = cc in
    let t : reached i ≡ true = ap reached (let e : i ≡ i + 0 = omega arith in e) ∙ r in
    rw t (inl (ap (λ (x : Object). block_of x.place) (sym q)))
has-in reached i (suc m) (p ∷ store) o e r = go (reached i) (has-in reached (i + 1) m store o e (ap reached (let e : i + 1 + m ≡ i + suc m = omega arith in e) ∙ r))
  where
    go : (b : Bool) → In (block_of o.place) (blocks_reached reached (i + 1) store) → In (block_of o.place) (cond b (block_of p.place ∷ blocks_reached reached (i + 1) store) (blocks_reached reached (i + 1) store))
    go true h = inr h
    go false h = h

-- where reached objects have differing blocks, each block stands once
has-once : (reached : ℕ → Bool) (i : ℕ) (store : Store)
    → ((m k : ℕ) (o p : Object) → m < k → slice_get store m ≡ Some o → slice_get store k ≡ Some p → reached (i + m) ≡ true → reached (i + k) ≡ true → block_of o.place ≢ block_of p.place)
    → Once (blocks_reached reached i store)
has-once reached i [] h = tt
has-once reached i (o ∷ store) h = go (reached i) refl (has-once reached (i + 1) store (λ m k p q l e g a b. h (suc m) (suc k) p q (omega arith) e g (next m a) (next k b)))
  where
    next : (m : ℕ) → reached (i + 1 + m) ≡ true → reached (i + suc m) ≡ true
    next m a = ap reached (let e : i + suc m ≡ i + 1 + m = omega arith in e) ∙ a

    first : reached i ≡ true → In (block_of o.place) (blocks_reached reached (i + 1) store) → ⊥
    first e g =
        let q = in_has reached (i + 1) store (block_of o.place) g in
        h 0 (suc q.number) o q.object (omega arith) refl q.is (ap reached (let e : i + 0 ≡ i = omega arith in e) ∙ e) (next q.number q.reaches) q.at

    go : (b : Bool) → reached i ≡ b → Once (blocks_reached reached (i + 1) store) → Once (cond b (block_of o.place ∷ blocks_reached reached (i + 1) store) (blocks_reached reached (i + 1) store))
    go true e more = (first e, more)
    go false e more = more

-- where each reached object's block has its need, the sizes are the needs
sizes-needs : (v : ShapesView) (words : List ℕ) (reached : ℕ → Bool) (i : ℕ) (store : Store) → ((m : ℕ) (o : Object) → slice_get store m ≡ Some o → reached (i + m) ≡ true → size_at words (block_of o.place) ≡ need v o.shape)
    → sum (map (size_at words) (blocks_reached reached i store)) ≡ reached_words v reached i store
sizes-needs v words reached i [] h = refl
sizes-needs v words reached i (o ∷ store) h = go (reached i) refl (sizes-needs v words reached (i + 1) store (λ m p e a. h (suc m) p e (ap reached (let e : i + suc m ≡ i + 1 + m = omega arith in e) ∙ a)))
  where
    go : (b : Bool) → reached i ≡ b → sum (map (size_at words) (blocks_reached reached (i + 1) store)) ≡ reached_words v reached (i + 1) store
        → sum (map (size_at words) (cond b (block_of o.place ∷ blocks_reached reached (i + 1) store) (blocks_reached reached (i + 1) store))) ≡ cond b (need v o.shape) 0 + reached_words v reached (i + 1) store
    go true e more =
        let a = sum-cons (size_at words (block_of o.place)) (map (size_at words) (blocks_reached reached (i + 1) store)) in
        let b = h 0 o refl (ap reached (let e : i + 0 ≡ i = omega arith in e) ∙ e) in
        omega arith
    go false e more = omega arith

module _ (image : ImageParts) (s : State) (roots : List Value) (words list : List ℕ) (r : RootsStand image s roots words list) (agrees : Agrees image s roots words list) (differ : PlacesDiffer image s roots) where
  abbrev reached : ℕ → Bool
  reached = reached_by image s.store roots

  abbrev heap_objects : Store
  heap_objects = drop (length image.arrays) s.store

  is-there : (m : ℕ) (o : Object) → slice_get heap_objects m ≡ Some o → slice_get s.store (length image.arrays + m) ≡ Some o
  is-there m o e = sym (drop-get (length image.arrays) m s.store) ∙ e

  -- an object stands in the block of its place
  stands-there : (m : ℕ) (o : Object) → slice_get heap_objects m ≡ Some o → reached (length image.arrays + m) ≡ true → ObjectStands (shown image).shapes (map (λ (o : Object). o.place) s.store) words o
  stands-there m o e a = r.stands (length image.arrays + m) o a (omega arith) (is-there m o e)

  block-there : (m : ℕ) (o : Object) (e : slice_get heap_objects m ≡ Some o) (a : reached (length image.arrays + m) ≡ true) → block_of o.place ≡ (stands-there m o e a).block
  block-there m o e a = ap block_of (stands-there m o e a).placed ∙ block-address (stands-there m o e a).block

  size-there : (m : ℕ) (o : Object) → slice_get heap_objects m ≡ Some o → reached (length image.arrays + m) ≡ true → size_at words (block_of o.place) ≡ need (shown image).shapes o.shape
  size-there m o e a = ap (size_at words) (block-there m o e a) ∙ (stands-there m o e a).exact

  blocks-differ : (m k : ℕ) (o p : Object) → m < k → slice_get heap_objects m ≡ Some o → slice_get heap_objects k ≡ Some p → reached (length image.arrays + m) ≡ true → reached (length image.arrays + k) ≡ true → block_of o.place ≢ block_of p.place
  blocks-differ m k o p l e g a b h =
      differ (length image.arrays + m) (length image.arrays + k) o p a b (omega arith) (omega arith) (is-there m o e) (is-there k p g) (λ q. omega (arith, q, l))
      ((stands-there m o e a).placed ∙ (ap address (sym (block-there m o e a) ∙ (h ∙ block-there k p g b)) ∙ sym (stands-there k p g b).placed))

  -- the list has the reached blocks
  lists_reached : ListsReached (shown image).shapes words list (blocks_reached reached (length image.arrays) heap_objects)
  lists_reached = record { once = has-once reached (length image.arrays) heap_objects blocks-differ; each = λ block. (forth block, back block) }
    where
      forth : (block : ℕ) → In block (blocks_reached reached (length image.arrays) heap_objects) → Reached (shown image).shapes words list block
      forth block h =
          let q = in_has reached (length image.arrays) heap_objects block h in
          let z = stands-there q.number q.object q.is q.reaches in
          let at : z.block ≡ block = sym (block-there q.number q.object q.is q.reaches) ∙ sym q.at in
          (agrees.reached block).1 (record { number = length image.arrays + q.number; object = q.object; is = is-there q.number q.object q.is; behind = omega arith; reached = q.reaches; placed = z.placed ∙ ap address at })

      back : (block : ℕ) → Reached (shown image).shapes words list block → In block (blocks_reached reached (length image.arrays) heap_objects)
      back block h =
          let o = (agrees.reached block).0 h in
          let low = o.behind in
          let there : length image.arrays + (o.number - length image.arrays) ≡ o.number = omega arith in
          subst (λ b. In b (blocks_reached reached (length image.arrays) heap_objects)) (ap block_of o.placed ∙ block-address block)
          (has-in reached (length image.arrays) (o.number - length image.arrays) heap_objects o.object (drop-get (length image.arrays) (o.number - length image.arrays) s.store ∙ (ap (slice_get s.store) there ∙ o.is)) (ap reached there ∙ o.reached))

  -- so their sizes are the words of what is reached
  sizes-reached : sum (map (size_at words) (blocks_reached reached (length image.arrays) heap_objects)) ≡ reached_words (shown image).shapes reached (length image.arrays) heap_objects
  sizes-reached = sizes-needs (shown image).shapes words reached (length image.arrays) heap_objects size-there

pub free-words_counted : Told → FreeWordsAreCounted
unfolding free_words
free-words_counted told image s roots words list n r differ h =
    let agrees = words-agree told image s roots words list r in
    let a = h (blocks_reached (reached_by image s.store roots) (length image.arrays) (drop (length image.arrays) s.store)) (lists_reached image s roots words list r agrees differ) in
    let b = sizes-reached image s roots words list r agrees differ in
    let c = r.size in
    omega arith
