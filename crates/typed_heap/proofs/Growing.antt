-- The store and the words after an allocation or a collection.
use Rattle.std.proofs.Common.{◌≡◌, ℕ, zero, suc, ◌+◌, ◌<◌, ◌≤◌, ◌⊎◌, ◌↔◌, inl, inr, Bool, true, false, nat_lt, Option, Some, None, MatchOption, List, [], ◌∷◌, ◌++◌, length, map, slice_get, slice_index, arith, refl, sym, ◌∙◌, ap, subst}
use Rattle.std.specs.Option.{unwrap_or}
use Rattle.std.proofs.lemmas.Bool.Decides.{nat_tests}
use Rattle.std.proofs.lemmas.List.{map-append, length-map, get_or-append-add}
use Rattle.std.proofs.lemmas.Option.{slice_get_within}
use Rattle.object_layout.specs.Classes.{ShapesView, IsShape}
use Rattle.mark_sweep.specs.Objects.{address}
use Rattle.mark_sweep.specs.Reached.{Reached}
use Rattle.mark_sweep.specs.Collections.{Collects}
use Rattle.heap_allocation.specs.Allocations.{Allocated, KeepsReached, NoGap}
use Rattle.tal_image.specs.Image.{ImageParts}
use Rattle.tal_image.specs.Shown.{shown}
use Rattle.typed_machine.specs.Values.{Value, Null, Ref, Word, ObjectShape}
use Rattle.typed_machine.specs.Stores.{Object, Store, shape_in, elements_in, need, places_in}
use Rattle.typed_machine.specs.States.{State, places_of}
use Rattle.typed_machine.specs.Reaching.{names, references_of}
use Rattle.typed_machine.specs.Placing.{Placed, fresh_values, Gaps, Legal}
use Rattle.reached_objects.specs.ReachedFrom.{ReachedFrom}
use Rattle.reached_objects.specs.ReachedFrom.ReachedFrom.{named, followed}
use Rattle.typed_heap.specs.Standing.{ObjectStands, HeapStands, refers_within, reached_by, RootsStand, answer_of, after_allocation, replied_roots}
use Rattle.typed_heap.specs.Laws.{Agrees, AllocationStands, AllocationsStand, ValuesKeepWords, CollectionsStand}
use Rattle.typed_heap.proofs.Lists.{names-first, names-get}
use Rattle.typed_heap.proofs.ShapeWords.{references-held}
use Rattle.typed_heap.proofs.Facts.{Told, StoreTold, Facts, facts}
use Rattle.typed_heap.proofs.Reaching.{words-agree}
use Rattle.typed_heap.proofs.Taken.{refusal_legal, place-legal}
use Rattle.typed_heap.proofs.Fresh.{need-some, kept-stands, word-longer, longer-stands, fresh-zero, is-zero-refers, fresh-stands}

-- ---- a longer list

-- what a list with one thing more has at a number
pub data OneOf {X : Type 0} (xs : List X) (y : X) (i : ℕ) (x : X) : Type 0 where
  is_old : slice_get xs i ≡ Some x → OneOf xs y i x
  is_last : i ≡ length xs → y ≡ x → OneOf xs y i x

later-one : {X : Type 0} (z : X) (xs : List X) (y : X) (i : ℕ) (x : X) → OneOf xs y i x → OneOf (z ∷ xs) y (suc i) x
later-one z xs y i x (is_old e) = is_old e
later-one z xs y i x (is_last e g) = is_last (ap suc e) g

pub get-longer : {X : Type 0} (xs : List X) (y : X) (i : ℕ) (x : X) → slice_get (xs ++ y ∷ []) i ≡ Some x → OneOf xs y i x
get-longer [] y zero x e = is_last refl cc
get-longer [] y (suc i) x e = cc
get-longer (z ∷ xs) y zero x e = is_old e
get-longer (z ∷ xs) y (suc i) x e = later-one z xs y i x (get-longer xs y i x e)

-- ---- what is reached

-- null among the values reaches nothing more
null-reached : (s : ShapesView) (store : Store) (values : List Value) (i : ℕ) → ReachedFrom s store (Null ∷ values) i → ReachedFrom s store values i
null-reached s store values i (named _ l h) = named i l h
null-reached s store values j (followed i _ o r e l h) = followed i j o (null-reached s store values i r) e l h

null-word : (places : List ℕ) → Word places Null ≡ 0
unfolding Word
null-word places = refl

below : (i n : ℕ) → nat_lt i n ≡ true → i < n
below i n h = grind (arith, nat_tests)

module _ (s : ShapesView) (arrays : ℕ) (store : Store) (roots : List Value) (t : StoreTold s arrays store) (rooted : (k : ℕ) (v : Value) → slice_get roots k ≡ Some v → refers_within (length store) v ≡ true) (x : ObjectShape) (a : ℕ) where
  abbrev fresh : Object
  fresh = record { shape = x; place = a; values = fresh_values s x }

  -- a fresh object refers to nothing
  fresh-refers : (j : ℕ) → names (references_of s fresh) j ≡ true → ⊥
  fresh-refers j h = let q = references-held s x 0 (fresh_values s x) j h in is-zero-refers (Ref j) j (fresh-zero s x q.number (Ref j) q.is) refl

  -- what is reached in the longer store from the roots and the fresh object is the fresh object, or was reached
  pub grown-reached : (i : ℕ) → ReachedFrom s (store ++ fresh ∷ []) (Ref (length store) ∷ roots) i → (i ≡ length store) ⊎ ReachedFrom s store roots i
  grown-reached i (named _ l h) = go (names-first (Ref (length store)) roots i h)
    where
      go : (Ref (length store) ≡ Ref i) ⊎ (names roots i ≡ true) → (i ≡ length store) ⊎ ReachedFrom s store roots i
      go (inl e) = inl cc
      go (inr g) = let q = names-get roots i g in inr (named i (below i (length store) (rooted q.number (Ref i) q.is)) g)
  grown-reached j (followed i _ o r e l h) = go (grown-reached i r) (get-longer store fresh i o e)
    where
      old : ReachedFrom s store roots i → slice_get store i ≡ Some o → ReachedFrom s store roots j
      old q g = let z = references-held s o.shape 0 o.values j h in followed i j o q g (t.inside i z.number j o g z.is) h

      go : (i ≡ length store) ⊎ ReachedFrom s store roots i → OneOf store fresh i o → (j ≡ length store) ⊎ ReachedFrom s store roots j
      go (inl e) (is_old g) = let l = slice_get_within store i o g in absurd (omega arith)
      go (inr q) (is_old g) = inr (old q g)
      go q (is_last e g) = absurd (fresh-refers j (subst (λ p. names (references_of s p) j ≡ true) (sym g) h))

-- ---- words

module _ (told : Told) (image : ImageParts) (s : State) (roots : List Value) (before list : List ℕ) (r : RootsStand image s roots before list) where
  agrees : Agrees image s roots before list
  agrees = words-agree told image s roots before list r

  f : Facts (shown image).shapes (length image.arrays) s.store roots before list
  f = facts told image s roots before list r

  -- a reached object's block is reached
  block-reached : (i : ℕ) (o : Object) (reach : reached_by image s.store roots i ≡ true) (l : length image.arrays ≤ i) (e : slice_get s.store i ≡ Some o) → Reached (shown image).shapes before list (r.stands i o reach l e).block
  block-reached i o reach l e = (agrees.reached (r.stands i o reach l e).block).1 (record { number = i; object = o; is = e; behind = l; reached = reach; placed = (r.stands i o reach l e).placed })

  -- where reached blocks are kept, what is reached stands
  pub still-stands : (after : List ℕ) → KeepsReached (shown image).shapes before list after → HeapStands image (reached_by image s.store roots) s.store after
  still-stands after k i o reach l e =
      let q = r.stands i o reach l e in
      let b = block-reached i o reach l e in
      kept-stands (shown image).shapes (places_in s.store) before after o q (f.told.counts i o e) (k.used q.block b) (k.sizes q.block b) (λ j x y. k.words q.block j b x y)

  pub collected_stands : (after : List ℕ) → Collects (shown image).shapes before list after → HeapStands image (reached_by image s.store roots) s.store after
  collected_stands after k i o reach l e =
      let q = r.stands i o reach l e in
      let u = (k.used q.block).1 (block-reached i o reach l e) in
      kept-stands (shown image).shapes (places_in s.store) before after o q (f.told.counts i o e) u (k.sizes q.block u) (λ j x y. k.words q.block j u x y)

  -- ---- a refusal

  null-back : (i : ℕ) → reached_by image s.store (Null ∷ roots) i ≡ true → reached_by image s.store roots i ≡ true
  null-back i h = (told.least (shown image).shapes s.store roots i).1 (null-reached (shown image).shapes s.store roots i ((told.least (shown image).shapes s.store (Null ∷ roots) i).0 h))

  pub refused : (shape : ObjectShape) (after : List ℕ) → NoGap (shown image).shapes before list (need (shown image).shapes shape) → KeepsReached (shown image).shapes before list after → AllocationStands image s roots shape None after
  refused shape after g k = record {
    legal = refusal_legal image s roots before list r agrees (need (shown image).shapes shape) g;
    stands = λ i o h l e. still-stands after k i o (null-back i h) l e;
    reached = λ i h. inr (null-back i h);
    reply = null-word (places_of s);
  }

  -- ---- a placement

  module _ (shape : ObjectShape) (after : List ℕ) (a : ℕ) (p : Allocated (shown image).shapes before list after (shape_in shape) (elements_in shape) a) (k : KeepsReached (shown image).shapes before list after) where
    abbrev new : Object
    new = record { shape = shape; place = a; values = fresh_values (shown image).shapes shape }

    -- what is reached then
    reached-then : (i : ℕ) → reached_by image (s.store ++ new ∷ []) (Ref (length s.store) ∷ roots) i ≡ true → (i ≡ length s.store) ⊎ (reached_by image s.store roots i ≡ true)
    reached-then i h = go (grown-reached (shown image).shapes (length image.arrays) s.store roots f.told f.rooted shape a i ((told.least (shown image).shapes (s.store ++ new ∷ []) (Ref (length s.store) ∷ roots) i).0 h))
      where
        go : (i ≡ length s.store) ⊎ ReachedFrom (shown image).shapes s.store roots i → (i ≡ length s.store) ⊎ (reached_by image s.store roots i ≡ true)
        go (inl e) = inl e
        go (inr q) = inr ((told.least (shown image).shapes s.store roots i).1 q)

    -- the places then
    longer-places : places_in (s.store ++ new ∷ []) ≡ places_in s.store ++ a ∷ []
    longer-places = map-append (λ (o : Object). o.place) s.store (new ∷ [])

    stand-then : HeapStands image (reached_by image (s.store ++ new ∷ []) (Ref (length s.store) ∷ roots)) (s.store ++ new ∷ []) after
    stand-then i o h l e = subst (λ places. ObjectStands (shown image).shapes places after o) (sym longer-places) (go (get-longer s.store new i o e) (reached-then i h))
      where
        old : slice_get s.store i ≡ Some o → reached_by image s.store roots i ≡ true → ObjectStands (shown image).shapes (places_in s.store ++ a ∷ []) after o
        old g q = longer-stands (shown image).shapes (places_in s.store) (a ∷ []) after o (λ m j z. let y = f.told.inside i m j o g z in let n = length-map s.store (λ (o : Object). o.place) in omega arith) (still-stands after k i o q l g)

        last : ObjectStands (shown image).shapes (places_in s.store ++ a ∷ []) after new
        last = subst (λ place. ObjectStands (shown image).shapes (places_in s.store ++ a ∷ []) after (record { shape = shape; place = place; values = fresh_values (shown image).shapes shape })) (sym p.named)
            (fresh-stands (shown image).shapes (places_in s.store ++ a ∷ []) after shape p.block p.fresh)

        go : OneOf s.store new i o → (i ≡ length s.store) ⊎ (reached_by image s.store roots i ≡ true) → ObjectStands (shown image).shapes (places_in s.store ++ a ∷ []) after o
        go (is_old g) (inl e) = let l = slice_get_within s.store i o g in absurd (omega arith)
        go (is_old g) (inr q) = old g q
        go (is_last e g) q = subst (ObjectStands (shown image).shapes (places_in s.store ++ a ∷ []) after) g last

    -- the word of the reply
    new-word : Word (places_in (s.store ++ new ∷ [])) (Ref (length s.store)) ≡ a
    unfolding Word
    new-word =
        let n : length (places_in s.store) ≡ length s.store = length-map s.store (λ (o : Object). o.place) in
        ap (λ places. slice_index places (length s.store)) longer-places ∙ (ap (slice_index (places_in s.store ++ a ∷ [])) (let e : length s.store ≡ length (places_in s.store) + 0 = omega arith in e) ∙ get_or-append-add (places_in s.store) (a ∷ []) 0 0)

    pub placed : AllocationStands image s roots shape (Some a) after
    placed = record {
      legal = subst (λ place. Legal (Gaps image roots s) (need (shown image).shapes shape) (Placed place) ≡ true) (sym p.named) (place-legal image s roots before list r agrees (need (shown image).shapes shape) p.block (need-some (shown image).shapes shape) p.row p.clear);
      stands = stand-then;
      reached = reached-then;
      reply = new-word;
    }

pub told_allocations_stand : Told → AllocationsStand
told_allocations_stand told image s roots before list after shape None r h m k = refused told image s roots before list r shape after m k
told_allocations_stand told image s roots before list after shape (Some a) r h m k = placed told image s roots before list r shape after a m k

pub told_collections_stand : Told → CollectionsStand
told_collections_stand told image s roots before list after r k = collected_stands told image s roots before list r after k

pub values-keep_words : ValuesKeepWords
values-keep_words image s shape None v h = refl
values-keep_words image s shape (Some a) v h =
    let n : length (places_in s.store) ≡ length s.store = length-map s.store (λ (o : Object). o.place) in
    ap (λ places. Word places v) (map-append (λ (o : Object). o.place) s.store _) ∙ word-longer (places_in s.store) (a ∷ []) v (λ j g. let l = h j g in omega arith)
