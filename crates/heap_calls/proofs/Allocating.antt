-- What an allocation at a call comes to.
use Rattle.std.specs.Prelude.{MatchOption}
use Rattle.std.specs.Option.{option_map_or}
use Rattle.std.proofs.Common.{◌≡◌, ◌≢◌, ◌<◌, ◌≤◌, ◌⊎◌, inl, inr, ℕ, Bool, true, List, [], ◌∷◌, ◌++◌, length, Option, None, Some, slice_get, sym, ◌∙◌, ap, subst, arith}
use Rattle.std.proofs.lemmas.List.{length-map, length-replicate}
use Rattle.std.proofs.lemmas.Option.{slice_get_within}
use Rattle.object_layout.specs.declared.rows.Shape.{Shape}
use Rattle.object_layout.specs.Classes.{ShapesView, IsShape, Need, rounded_up, Fields, Element}
use Rattle.heap_words.specs.Blocks.{FormedHeap}
use Rattle.mark_sweep.specs.Objects.{address}
use Rattle.heap_allocation.specs.Allocations.{NoGap, Allocated, KeepsReached}
use Rattle.frame_tables.specs.FrameRows.{RowAt}
use Rattle.stack_states.specs.declared.stack_state.StackState.{StackState}
use Rattle.tal_types.specs.declared.types.Ty.{Ty}
use Rattle.tal_image.specs.Image.{ImageParts}
use Rattle.tal_image.specs.Shown.{shown}
use Rattle.typed_machine.specs.Values.{Value, Null, Ref, ObjectShape, InstanceOf, ArrayOf}
use Rattle.typed_machine.specs.Stores.{Object, Store, shape_in, elements_in, need, value_count, zero_of}
use Rattle.typed_machine.specs.States.{State}
use Rattle.typed_machine.specs.Reaching.{Roots}
use Rattle.typed_machine.specs.Placing.{fresh_values}
use Rattle.reached_objects.specs.ReachedFrom.ReachedFrom.{named}
use Rattle.root_words.specs.Laws.{RootsAreExact}
use Rattle.typed_heap.specs.Standing.{reached_by, after_allocation}
use Rattle.typed_heap.specs.Laws.{WordsAgree, AllocationStands, AllocationsStand, TypedRootsRefer}
use Rattle.word_machine.specs.Memory.{MemoryView}
use Rattle.word_machine.specs.Standing.{MemoryStands}
use Rattle.heap_changes.specs.Laws.{with_heap, HeapHolds, HeapIsReplaced}
use Rattle.heap_calls.specs.Finding.{CallFinds}
use Rattle.heap_calls.specs.Telling.{IsRooted, AllocationTold}
use Rattle.heap_calls.proofs.AtCalls.{listed, roots-stand, rooted-lives, places-differ}
use Rattle.heap_calls.proofs.Keeping.{ReachIsLeast, names-first, reached-more, has-front, last-cases, last-there}
use Rattle.heap_calls.proofs.Collecting.{replaced, replaced_alone, heap_holds}

-- an object has words in the heap
need-some : (s : ShapesView) (shape : ObjectShape) → 0 < need s shape
unfolding Need rounded_up
need-some s (InstanceOf c) = omega arith
need-some s (ArrayOf k n) = omega arith

-- a fresh object has as many values as its shape tells
fresh-count : (s : ShapesView) (shape : ObjectShape) → length (fresh_values s shape) ≡ value_count s shape
unfolding value_count
fresh-count s (InstanceOf c) = length-map (Fields s c) zero_of
fresh-count s (ArrayOf k n) = length-replicate n (option_map_or zero_of (Element s k) Null)

module _ {image : ImageParts} {live : ℕ → Bool} {s : State} {t : Ty} {next esp : ℕ} {m : MemoryView} {marks : List Bool} {table : List RowAt} {shapes : ShapesView}
    {kept : List StackState} (f : CallFinds image live s t next esp m marks table shapes kept) (exact : RootsAreExact) (refer : TypedRootsRefer) (agree : WordsAgree)
    (least : ReachIsLeast) (law : HeapIsReplaced) where
  -- the object that a place gets
  abbrev fresh : ObjectShape → ℕ → Object
  fresh shape a = record { shape = shape; place = a; values = fresh_values (shown image).shapes shape }

  -- what is kept and the fresh object
  abbrev Kept : (ℕ → Bool) → Type 0
  Kept over = (i : ℕ) → over i ≡ true → IsRooted image next s i ⊎ (i ≡ length s.store)

  -- what the roots reached is reached in the store after it, with the reply
  still-reached : (after : Store) (v : Value) → ((k : ℕ) (o : Object) → slice_get s.store k ≡ Some o → slice_get after k ≡ Some o) → (i : ℕ)
      → reached_by image s.store (Roots image next s) i ≡ true → reached_by image after (v ∷ Roots image next s) i ≡ true
  still-reached after v has i e =
      (least (shown image).shapes after (v ∷ Roots image next s) i).1
      (reached-more (shown image).shapes s.store after (Roots image next s) v has i ((least (shown image).shapes s.store (Roots image next s) i).0 e))

  -- an object that is kept stands elsewhere than the fresh one, whose block was clear
  fresh-apart : (shape : ObjectShape) (words : List ℕ) (a i : ℕ) (o : Object)
      → Allocated (shown image).shapes m.heap (listed f) words (shape_in shape) (elements_in shape) a → length image.arrays ≤ i → slice_get s.store i ≡ Some o
      → IsRooted image next s i → o.place ≢ a
  unfolding address
  fresh-apart shape words a i o new behind here (inl low) same = omega (arith, behind, low)
  fresh-apart shape words a i o new behind here (inr reached) same =
      let roots = roots-stand f exact refer in
      let stands = roots.stands i o reached behind here in
      let placed = stands.placed in
      let named = new.named in
      let block : stands.block ≡ new.block = omega (arith, placed, named, same) in
      let some = need-some (shown image).shapes o.shape in
      let wants = need-some (shown image).shapes shape in
      let exactly = stands.exact in
      let in_block = ((agree image s (Roots image next s) m.heap (listed f) roots).reached stands.block).1
      (record { number = i; object = o; is = here; behind = behind; reached = reached; placed = placed }) in
      new.clear.clear stands.block (omega (arith, block)) (omega (arith, block, wants))
      (record { block = stands.block; reached = in_block; behind = omega arith; before = omega (arith, some, exactly) })

  -- the heap holds what is kept, and the fresh object, after an allocation
  holds-fresh : (shape : ObjectShape) (words : List ℕ) (a : ℕ) (over : ℕ → Bool) → Kept over → FormedHeap words → length words ≡ length m.heap
      → Allocated (shown image).shapes m.heap (listed f) words (shape_in shape) (elements_in shape) a
      → AllocationStands image s (Roots image next s) shape (Some a) words → HeapHolds image over (s.store ++ fresh shape a ∷ []) m.heap words
  holds-fresh shape words a over among formed size new told = record {
    formed = formed;
    size = size;
    stands = λ i o e behind here. told.stands i o (reached i behind (among i e)) behind here;
    counts = λ i o e behind here. counted i o (last-cases s.store (fresh shape a) i o here);
    differ = λ i j o p e g behind after here there differs.
        apart i j o p behind after differs (among i e) (among j g) (last-cases s.store (fresh shape a) i o here) (last-cases s.store (fresh shape a) j p there);
  }
    where
      after : Store
      after = s.store ++ fresh shape a ∷ []

      reached : (i : ℕ) → length image.arrays ≤ i → IsRooted image next s i ⊎ (i ≡ length s.store) → reached_by image after (Ref (length s.store) ∷ Roots image next s) i ≡ true
      reached i behind (inl (inl low)) = absurd (omega (arith, behind, low))
      reached i behind (inl (inr e)) = still-reached after (Ref (length s.store)) (has-front s.store (fresh shape a)) i e
      reached i behind (inr is) =
          subst (λ k. reached_by image after (Ref (length s.store) ∷ Roots image next s) k ≡ true) (sym is)
          ((least (shown image).shapes after (Ref (length s.store) ∷ Roots image next s) (length s.store)).1
          (named (length s.store) (last-there s.store (fresh shape a)) (names-first (Roots image next s) (length s.store))))

      counted : (i : ℕ) (o : Object) → (slice_get s.store i ≡ Some o) ⊎ ((i ≡ length s.store) × (o ≡ fresh shape a)) → length o.values ≡ value_count (shown image).shapes o.shape
      counted i o (inl here) = f.typed.store.counts i o here
      counted i o (inr (at, is)) = subst (λ (p : Object). length p.values ≡ value_count (shown image).shapes p.shape) (sym is) (fresh-count (shown image).shapes shape)

      -- an object of the store that is kept is no new one
      old : (i : ℕ) (o : Object) → slice_get s.store i ≡ Some o → IsRooted image next s i ⊎ (i ≡ length s.store) → IsRooted image next s i
      old i o here (inl e) = e
      old i o here (inr is) = let low = slice_get_within s.store i o here in absurd (omega (arith, low, is))

      apart : (i j : ℕ) (o p : Object) → length image.arrays ≤ i → length image.arrays ≤ j → i ≢ j → IsRooted image next s i ⊎ (i ≡ length s.store) → IsRooted image next s j ⊎ (j ≡ length s.store)
          → (slice_get s.store i ≡ Some o) ⊎ ((i ≡ length s.store) × (o ≡ fresh shape a)) → (slice_get s.store j ≡ Some p) ⊎ ((j ≡ length s.store) × (p ≡ fresh shape a)) → o.place ≢ p.place
      apart i j o p behind later differs e g (inl here) (inl there) same =
          places-differ f i j o p (rooted-lives f i (old i o here e)) (rooted-lives f j (old j p there g)) here there differs same
      apart i j o p behind later differs e g (inl here) (inr (at, is)) same =
          fresh-apart shape words a i o new behind here (old i o here e) (same ∙ ap (λ (q : Object). q.place) is)
      apart i j o p behind later differs e g (inr (at, is)) (inl there) same =
          fresh-apart shape words a j p new later there (old j p there g) (sym same ∙ ap (λ (q : Object). q.place) is)
      apart i j o p behind later differs e g (inr (at, is)) (inr (at_last, is_last)) same = differs (at ∙ sym at_last)

  -- and after a refusal what is kept
  holds-kept : (shape : ObjectShape) (words : List ℕ) (over : ℕ → Bool) → Kept over → FormedHeap words → length words ≡ length m.heap
      → AllocationStands image s (Roots image next s) shape None words → HeapHolds image over s.store m.heap words
  holds-kept shape words over among formed size told =
      heap_holds f over words (λ i o e here. old i o here (among i e)) formed size
      (λ i o e behind here. told.stands i o (reached i behind (old i o here (among i e))) behind here)
    where
      old : (i : ℕ) (o : Object) → slice_get s.store i ≡ Some o → IsRooted image next s i ⊎ (i ≡ length s.store) → IsRooted image next s i
      old i o here (inl e) = e
      old i o here (inr is) = let low = slice_get_within s.store i o here in absurd (omega (arith, low, is))

      reached : (i : ℕ) → length image.arrays ≤ i → IsRooted image next s i → reached_by image s.store (Null ∷ Roots image next s) i ≡ true
      reached i behind (inl low) = absurd (omega (arith, behind, low))
      reached i behind (inr e) = still-reached s.store Null (λ k o here. here) i e

  -- the memory stands for the state after an allocation
  stands-after : (shape : ObjectShape) (words : List ℕ) (result : Option ℕ) (over : ℕ → Bool) → Kept over → FormedHeap words → length words ≡ length m.heap
      → MatchOption result (NoGap (shown image).shapes m.heap (listed f) (need (shown image).shapes shape))
      (λ a. Allocated (shown image).shapes m.heap (listed f) words (shape_in shape) (elements_in shape) a)
      → AllocationStands image s (Roots image next s) shape result words → MemoryStands image over (after_allocation image shape result s) (with_heap words m)
  stands-after shape words None over among formed size placed told = replaced_alone f law over words (holds-kept shape words over among formed size told)
  stands-after shape words (Some a) over among formed size placed told =
      replaced f law over (fresh shape a ∷ []) words (holds-fresh shape words a over among formed size placed told)

  pub allocation_told : AllocationsStand → (asked : ObjectShape) (shape : Shape) (n : ℕ) → shape_in asked ≡ shape → elements_in asked ≡ n → IsShape shapes shape
      → (result : Option ℕ) (words : List ℕ) → FormedHeap words
      → MatchOption result (NoGap shapes m.heap (listed f) (Need shapes shape n)) (λ a. Allocated shapes m.heap (listed f) words shape n a)
      → KeepsReached shapes m.heap (listed f) words → AllocationTold image next s asked result (with_heap words m)
  allocation_told allocations asked shape n is long there result words formed placed keeps =
      let there' : IsShape (shown image).shapes (shape_in asked) = rw (f.classes, ← is) at there in
      let placed' : MatchOption result (NoGap (shown image).shapes m.heap (listed f) (need (shown image).shapes asked))
      (λ a. Allocated (shown image).shapes m.heap (listed f) words (shape_in asked) (elements_in asked) a) = rw (f.classes, ← is, ← long) at placed in
      let keeps' : KeepsReached (shown image).shapes m.heap (listed f) words = rw f.classes at keeps in
      let told = allocations image s (Roots image next s) m.heap (listed f) words asked result (roots-stand f exact refer) there' placed' keeps' in
      record {
        legal = told.legal;
        reply = told.reply;
        stands = λ over among. stands-after asked words result over among formed keeps'.size placed' told;
      }
