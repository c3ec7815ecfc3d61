-- A memory whose heap is replaced.
use Rattle.std.proofs.Common.{◌≡◌, ◌≢◌, ℕ, zero, suc, ◌+◌, ◌-◌, ◌*◌, ◌/◌, ◌%◌, ◌<◌, ◌≤◌, ◌==◌, ◌&&◌, ◌||◌, ◌⊎◌, inl, inr, Bool, true, false, nat_eq, nat_le, nat_lt, Option, Some, None, is_some, List, [], ◌∷◌, ◌++◌, length, map, slice_get, slice_index, arith, refl, sym, ◌∙◌, ap, subst}
use Rattle.std.specs.Option.{option_map, option_and_then, option_map_or}
use Rattle.std.proofs.lemmas.Bool.{false≢true, cases_order}
use Rattle.std.proofs.lemmas.Bool.Decides.{nat_tests}
use Rattle.std.proofs.lemmas.Option.{slice_get_within, slice_get-get_or}
use Rattle.heap_words.specs.Headers.{size_at}
use Rattle.heap_words.specs.Blocks.{FormedHeap}
use Rattle.heap_words.specs.Laws.{BlockLaws}
use Rattle.object_layout.specs.declared.rows.FieldTy.{FieldTy}
use Rattle.object_layout.specs.Areas.{statics_start, stacks_start, heap_start, table_address, descriptor_address, word_index}
use Rattle.object_layout.specs.Classes.{ShapesView, Fields, Element, IsShape, Need, rounded_up}
use Rattle.object_layout.specs.Laws.{ClassLaws}
use Rattle.mark_sweep.specs.Objects.{address}
use Rattle.tal_types.specs.Types.{of_field}
use Rattle.tal_image.specs.declared.parts.ArrayPart.{ArrayPart}
use Rattle.tal_image.specs.declared.parts.DataRow.{DataRow}
use Rattle.tal_image.specs.Conditions.{array_places}
use Rattle.tal_image.specs.Image.{ImageParts}
use Rattle.tal_image.specs.Shown.{shown, shapes_of, data_row_in}
use Rattle.tal_image.specs.Formed.{Formed}
use Rattle.typed_machine.specs.Values.{Value, Ref, Word, ObjectShape, InstanceOf, ArrayOf, all_objects}
use Rattle.typed_machine.specs.Stores.{Object, need, shape_in, places_in, value_type, value_count}
use Rattle.typed_machine.specs.States.{State, most_values, stack_bytes, places_of}
use Rattle.typed_machine.specs.Typing.{TypedAmong, StoreFits, scope_of}
use Rattle.typed_machine.specs.Words.{stack_pointer, upper_end, head_values, object_values}
use Rattle.typed_heap.specs.Standing.{ObjectStands, HeapStands}
use Rattle.word_machine.specs.Memory.{MemoryView, word_in, word_of, heap_allows, is_mapped}
use Rattle.word_machine.specs.Standing.{HoldsValues, values_at, end_of, IsInside, ObjectsLie, StandsInBlock, BlocksStand, MemoryStands}
use Rattle.heap_changes.specs.Laws.{with_objects, with_heap, HeapHolds, HeapIsReplaced}
use Rattle.heap_changes.proofs.Bounds.{table-low, descriptor-low, few-stacks}
use Rattle.heap_changes.proofs.Within.{Within, word-kept, fits-within, values-within, statics-within}

-- ---- words

-- below the heap a word is as before
pub low-kept : (m : MemoryView) (words : List ℕ) (a : ℕ) → a < heap_start → word_of (with_heap words m) a ≡ word_of m a
unfolding word_of
low-kept m words a l = let t : nat_le heap_start a ≡ false = grind (arith, nat_tests) in rw t refl

-- and what is mapped there is so
pub low-mapped : (m : MemoryView) (words : List ℕ) (a : ℕ) → a < heap_start → is_mapped m a ≡ true → is_mapped (with_heap words m) a ≡ true
unfolding is_mapped heap_allows
low-mapped m words a l h =
    let t : nat_lt a heap_start ≡ true = grind (arith, nat_tests) in
    rw (t, low-kept m words a l) (rw t at h)

-- a word of the heap stands at its address
word_in_heap : (m : MemoryView) (words : List ℕ) (k : ℕ) → k < length words → word_of (with_heap words m) (heap_start + 4 * k) ≡ Some (slice_index words k)
unfolding word_of word_index
word_in_heap m words k l =
    let t : nat_le heap_start (heap_start + 4 * k) ≡ true = grind (arith, nat_tests) in
    let r : ((heap_start + 4 * k - heap_start) % 4 == 0) ≡ true = grind (arith, nat_tests) in
    let q : (heap_start + 4 * k - heap_start) / 4 ≡ k = omega arith in
    rw (t, r, q) (slice_get-get_or words k 0 l)

-- ---- lists

-- what stood in a list stands in a longer one
get-front : {X : Type 0} (xs more : List X) (i : ℕ) → i < length xs → slice_get (xs ++ more) i ≡ slice_get xs i
get-front [] more i l = absurd (omega arith)
get-front (x ∷ xs) more zero l = refl
get-front (x ∷ xs) more (suc i) l = get-front xs more i (omega arith)

-- as many places as data arrays
array-places-long : (a : ℕ) (arrays : List ArrayPart) → length (array_places a arrays) ≡ length arrays
unfolding array_places
array-places-long a [] = refl
array-places-long a (p ∷ arrays) = ap suc (array-places-long (a + 4 * (2 + p.size)) arrays)

-- below a list's length something stands
some-at : {X : Type 0} (xs : List X) (i : ℕ) → i < length xs → (x : X) × (slice_get xs i ≡ Some x)
some-at [] i l = absurd (omega arith)
some-at (x ∷ xs) zero l = (x, refl)
some-at (x ∷ xs) (suc i) l = some-at xs i (omega arith)

-- a number is below another or not
cases_below : (m n : ℕ) → (m < n) ⊎ (n ≤ m)
cases_below m n = grind arith

-- ---- one object

-- the reference among an object's values is one of its fields or elements
reference_behind : (o : Object) (k j : ℕ) → slice_get (object_values o) k ≡ Some (Ref j) → (m : ℕ) × (slice_get o.values m ≡ Some (Ref j))
unfolding object_values head_values
reference_behind o k j e = go o.shape k e
  where
    go : (x : ObjectShape) (k : ℕ) → slice_get (head_values x ++ o.values) k ≡ Some (Ref j) → (m : ℕ) × (slice_get o.values m ≡ Some (Ref j))
    go (InstanceOf c) zero e = cc
    go (InstanceOf c) (suc m) e = (m, e)
    go (ArrayOf q n) zero e = cc
    go (ArrayOf q n) (suc zero) e = cc
    go (ArrayOf q n) (suc (suc m)) e = (m, e)

-- a type for each value
type_some : (s : ShapesView) (x : ObjectShape) (m : ℕ) → IsShape s (shape_in x) → m < value_count s x → (t : FieldTy) × (value_type s x m ≡ Some t)
unfolding value_type value_count Element
type_some s (InstanceOf c) m h l = some-at (Fields s c) m l
type_some s (ArrayOf k n) m h l = let t : nat_lt m n ≡ true = grind (arith, nat_tests) in let e = some-at s.kinds k h in (e.0.element, rw (t, e.1) refl)

-- an object has a value at least, and needs words for all of them behind its block's first two
need-words : (s : ShapesView) (o : Object) → length o.values ≡ value_count s o.shape → (0 < length (object_values o)) × (length (object_values o) + 2 ≤ need s o.shape)
unfolding object_values head_values value_count Need rounded_up
need-words s o n = go o.shape n
  where
    go : (x : ObjectShape) → length o.values ≡ value_count s x → (0 < length (head_values x ++ o.values)) × (length (head_values x ++ o.values) + 2 ≤ need s x)
    go (InstanceOf c) n = (omega arith, omega arith)
    go (ArrayOf q m) n = (omega arith, omega arith)

-- ---- the memory

-- the place of an object in a block
address-is : (b : ℕ) → address b ≡ heap_start + 4 * (b + 2)
unfolding address
address-is b = refl

module _ (laws : BlockLaws) (image : ImageParts) (live after : ℕ → Bool) (s : State) (more : List Object) (m : MemoryView) (words : List ℕ) (formed : Formed image) (classes : ClassLaws (shapes_of image)) (typed : TypedAmong image all_objects s)
    (alive : (i : ℕ) → i < length image.arrays → live i ≡ true) (h : MemoryStands image live s m) (g : HeapHolds image after (s.store ++ more) m.heap words) where
  abbrev t : State
  t = with_objects more s

  abbrev then : MemoryView
  then = with_heap words m

  -- a value that was there keeps its word below the heap
  value-kept : (a : ℕ) (v : Value) → a < heap_start → Within (length s.store) v → word_of m a ≡ Some (Word (places_in s.store) v) → word_of then a ≡ Some (Word (places_in (s.store ++ more)) v)
  value-kept a v low within e = low-kept m words a low ∙ (e ∙ ap Some (sym (word-kept s.store more v within)))

  -- ---- data arrays

  array-inside : (i : ℕ) → i < length image.arrays → i < length s.store
  unfolding data_row_in
  array-inside i l =
      let part = some-at image.arrays i l in
      let n = array-places-long (statics_start + 4 * length image.statics) image.arrays in
      let place = some-at (array_places (statics_start + 4 * length image.statics) image.arrays) i (omega arith) in
      let row : DataRow = record { place = place.0; kind = part.0.kind; length = part.0.size } in
      let is = typed.store.arrays i row (rw (part.1, place.1) refl) in
      slice_get_within s.store i is.object is.here

  array-old : (i : ℕ) (o : Object) → i < length image.arrays → slice_get (s.store ++ more) i ≡ Some o → slice_get s.store i ≡ Some o
  array-old i o l e = sym (get-front s.store more i (array-inside i l)) ∙ e

  -- they end below the heap
  array-end : (i : ℕ) (o : Object) → i < length image.arrays → slice_get s.store i ≡ Some o → (statics_start + 4 * length s.statics ≤ o.place) × (end_of o ≤ stacks_start)
  array-end i o l e = go (h.lie.inside i o (alive i l) e)
    where
      go : IsInside image s i o → (statics_start + 4 * length s.statics ≤ o.place) × (end_of o ≤ stacks_start)
      go (inl x) = (x.1, x.2)
      go (inr x) = let z = x.0 in absurd (omega arith)

  -- a value of an object that was there is within the store
  object_within : (i : ℕ) (o : Object) (k : ℕ) (v : Value) → slice_get s.store i ≡ Some o → slice_get (object_values o) k ≡ Some v → Within (length s.store) v
  object_within i o k v e x j is =
      let z = reference_behind o k j (x ∙ ap Some is) in
      let l = slice_get_within o.values z.0 (Ref j) z.1 in
      let n = typed.store.counts i o e in
      let ty = type_some (shown image).shapes o.shape z.0 (typed.store.there i o e) (omega arith) in
      fits-within image s (Ref j) (of_field ty.0) (typed.store.fit i z.0 o ty.0 (Ref j) refl e ty.1 z.1) j refl

  -- ---- objects of the heap

  -- an object of the heap that lives
  module _ (i : ℕ) (o : Object) (lives : after i ≡ true) (behind : length image.arrays ≤ i) (e : slice_get (s.store ++ more) i ≡ Some o) where
    stands : ObjectStands (shown image).shapes (places_in (s.store ++ more)) words o
    stands = g.stands i o lives behind e

    -- its block ends within the heap, and has all its words
    block-end : stands.block + size_at words stands.block ≤ length words
    block-end = (laws.places.room words stands.block g.formed stands.used.begins).within

    values-room : (0 < length (object_values o)) × (length (object_values o) + 2 ≤ size_at words stands.block)
    values-room = let n = need-words (shown image).shapes o (g.counts i o lives behind e) in rw stands.exact n

    place-is : o.place ≡ heap_start + 4 * (stands.block + 2)
    place-is = stands.placed ∙ address-is stands.block

    -- so its words are there
    heap_holds : HoldsValues then (places_in (s.store ++ more)) o.place (object_values o)
    heap_holds k v x =
        let l = slice_get_within (object_values o) k v x in
        let r = values-room in
        let b = block-end in
        let p = place-is in
        let at : o.place + 4 * k ≡ heap_start + 4 * (stands.block + 2 + k) = omega arith in
        ap (word_of then) at ∙ (word_in_heap m words (stands.block + 2 + k) (omega arith) ∙ ap Some (stands.values k v x))

    -- and it lies in the heap
    heap_aligned : o.place % 4 ≡ 0
    heap_aligned = let p = place-is in omega arith

    heap_inside : (heap_start ≤ o.place) × (end_of o ≤ heap_start + 0x1000000)
    heap_inside =
        let p = place-is in
        let r = values-room in
        let b = block-end in
        let few = g.formed.most in
        (omega arith, omega arith)

    in_block : StandsInBlock (shown image).shapes words o
    in_block = record { block = stands.block; place = place-is; used = stands.used; exact = stands.exact }

  -- differing ones lie apart
  heap_apart : (i j : ℕ) (o p : Object) (li : after i ≡ true) (lj : after j ≡ true) (bi : length image.arrays ≤ i) (bj : length image.arrays ≤ j) (ei : slice_get (s.store ++ more) i ≡ Some o) (ej : slice_get (s.store ++ more) j ≡ Some p) → i ≢ j
      → (end_of o ≤ p.place) ⊎ (end_of p ≤ o.place)
  heap_apart i j o p li lj bi bj ei ej ne = go (cases_order (stands i o li bi ei).block (stands j p lj bj ej).block)
    where
      x : ObjectStands (shown image).shapes (places_in (s.store ++ more)) words o
      x = stands i o li bi ei

      y : ObjectStands (shown image).shapes (places_in (s.store ++ more)) words p
      y = stands j p lj bj ej

      go : (x.block ≡ y.block) ⊎ ((x.block < y.block) ⊎ (y.block < x.block)) → (end_of o ≤ p.place) ⊎ (end_of p ≤ o.place)
      go (inl e) = absurd (g.differ i j o p li lj bi bj ei ej ne (x.placed ∙ (ap address e ∙ sym y.placed)))
      go (inr (inl l)) =
          let a = laws.places.apart words x.block y.block x.used.begins y.used.begins l in
          let r = values-room i o li bi ei in
          let q = place-is i o li bi ei in
          let w = place-is j p lj bj ej in
          inl (omega arith)
      go (inr (inr l)) =
          let a = laws.places.apart words y.block x.block y.used.begins x.used.begins l in
          let r = values-room j p lj bj ej in
          let q = place-is i o li bi ei in
          let w = place-is j p lj bj ej in
          inr (omega arith)

  -- ---- all objects

  objects_hold : (i : ℕ) (o : Object) → after i ≡ true → slice_get (s.store ++ more) i ≡ Some o → HoldsValues then (places_in (s.store ++ more)) o.place (object_values o)
  objects_hold i o lives e k v x = go (cases_below i (length image.arrays))
    where
      go : (i < length image.arrays) ⊎ (length image.arrays ≤ i) → word_of then (o.place + 4 * k) ≡ Some (Word (places_in (s.store ++ more)) v)
      go (inl l) =
          let old = array-old i o l e in
          let z = array-end i o l old in
          let y = slice_get_within (object_values o) k v x in
          let low = z.1 in
          value-kept (o.place + 4 * k) v (omega arith) (object_within i o k v old x) (h.objects i o (alive i l) old k v x)
      go (inr l) = heap_holds i o lives l e k v x

  objects_lie : ObjectsLie image after t
  objects_lie = record { short = h.lie.short; aligned = aligned; inside = inside; apart = apart }
    where
      aligned : (i : ℕ) (o : Object) → after i ≡ true → slice_get (s.store ++ more) i ≡ Some o → o.place % 4 ≡ 0
      aligned i o lives e = go (cases_below i (length image.arrays))
        where
          go : (i < length image.arrays) ⊎ (length image.arrays ≤ i) → o.place % 4 ≡ 0
          go (inl l) = h.lie.aligned i o (alive i l) (array-old i o l e)
          go (inr l) = heap_aligned i o lives l e

      inside : (i : ℕ) (o : Object) → after i ≡ true → slice_get (s.store ++ more) i ≡ Some o → IsInside image t i o
      inside i o lives e = go (cases_below i (length image.arrays))
        where
          go : (i < length image.arrays) ⊎ (length image.arrays ≤ i) → IsInside image t i o
          go (inl l) = let z = array-end i o l (array-old i o l e) in inl (l, z.0, z.1)
          go (inr l) = let z = heap_inside i o lives l e in inr (l, z.0, z.1)

      apart : (i j : ℕ) (o p : Object) → after i ≡ true → after j ≡ true → i ≢ j → slice_get (s.store ++ more) i ≡ Some o → slice_get (s.store ++ more) j ≡ Some p → (end_of o ≤ p.place) ⊎ (end_of p ≤ o.place)
      apart i j o p li lj ne ei ej = go (cases_below i (length image.arrays)) (cases_below j (length image.arrays))
        where
          go : (i < length image.arrays) ⊎ (length image.arrays ≤ i) → (j < length image.arrays) ⊎ (length image.arrays ≤ j) → (end_of o ≤ p.place) ⊎ (end_of p ≤ o.place)
          go (inl a) (inl b) = h.lie.apart i j o p (alive i a) (alive j b) ne (array-old i o a ei) (array-old j p b ej)
          go (inl a) (inr b) = let z = (array-end i o a (array-old i o a ei)).1 in let y = (heap_inside j p lj b ej).0 in inl (omega arith)
          go (inr a) (inl b) = let z = (array-end j p b (array-old j p b ej)).1 in let y = (heap_inside i o li a ei).0 in inr (omega arith)
          go (inr a) (inr b) = heap_apart i j o p li lj a b ei ej ne

  stacks-hold : (n : ℕ) → n < image.stacks → HoldsValues then (places_in (s.store ++ more)) (stack_pointer n (length (values_at s n))) (values_at s n)
  stacks-hold n few k v e =
      let z = values-within image s typed n in
      let room = z.room in
      let most = few-stacks image formed in
      let l = slice_get_within (values_at s n) k v e in
      value-kept (stack_pointer n (length (values_at s n)) + 4 * k) v (omega arith) (z.within k v e) (h.stacks n few k v e)

  pub replaced : MemoryStands image after t then
  unfolding values_at
  replaced = record {
    tables = λ c k w e. low-kept m words (table_address c + 4 * k) (table-low (shapes_of image) classes c k w e) ∙ h.tables c k w e;
    descriptors = λ d k w e. low-kept m words (descriptor_address d + 4 * k) (descriptor-low (shapes_of image) classes d k w e) ∙ h.descriptors d k w e;
    statics = λ k v e. let l = slice_get_within s.statics k v e in let low = h.lie.short in value-kept (statics_start + 4 * k) v (omega arith) (statics-within image s typed k v e) (h.statics k v e);
    objects = objects_hold;
    stacks = stacks-hold;
    room = λ a low high aligned. let most = few-stacks image formed in low-mapped m words a (omega arith) (h.room a low high aligned);
    lie = objects_lie;
    blocks = record { formed = g.formed; size = g.size ∙ h.blocks.size; objects = in_block };
  }

pub heap_replaced : BlockLaws → ((image : ImageParts) → Formed image → ClassLaws (shapes_of image)) → HeapIsReplaced
heap_replaced laws classes image live after s more m words formed typed alive h g = replaced laws image live after s more m words formed (classes image formed) typed alive h g
