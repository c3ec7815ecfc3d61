-- Where the word at a spot's place becomes that of a value, the memory stands for the state with this value there.
use Rattle.std.proofs.Common.{◌≡◌, ◌≢◌, ◌⊎◌, inl, inr, ◌+◌, ◌*◌, ◌%◌, ◌^◌, ◌<◌, ◌≤◌, ℕ, Bool, true, false, Option, Some, None, arith, refl, sym, ◌∙◌, subst, length, slice_get, slice_set, slice_index}
use Rattle.std.proofs.Math.Nat.{mod-eq_of_lt}
use Rattle.std.proofs.lemmas.Bool.Decides.{nat_tests}
use Rattle.std.proofs.lemmas.List.{length-set, length-append}
use Rattle.std.proofs.lemmas.Option.{slice_get_within}
use Rattle.ia32_code.specs.declared.instruction.Reg.TheVariants.{Esp}
use Rattle.ia32_code.specs.declared.instruction.Mem.{Mem}
use Rattle.ia32_step.specs.declared.cpu.Cpu.{Cpu}
use Rattle.ia32_step.specs.Operands.{address_of}
use Rattle.object_layout.specs.declared.rows.FieldTy.{FieldTy}
use Rattle.object_layout.specs.Areas.{statics_start, stacks_start, heap_start}
use Rattle.object_layout.specs.Classes.{ShapesView, Fields}
use Rattle.object_layout.specs.Laws.{ClassLaws}
use Rattle.tal_types.specs.Shown.{ShownImage}
use Rattle.tal_image.specs.Image.{ImageParts}
use Rattle.tal_image.specs.Shown.{shown, shapes_of}
use Rattle.typed_machine.specs.Values.{Value, ObjectShape, InstanceOf, ArrayOf, Word}
use Rattle.typed_machine.specs.Stores.{Object, value_type, value_count, set_value}
use Rattle.typed_machine.specs.States.{State, places_of, with_values}
use Rattle.typed_machine.specs.Operands.{Spot, AtStatic, AtSlot, AtValue, AtLength, AtHead, AtMethod, AtDisplay, may_hold, type_there, provided, write_spot, spot_of}
use Rattle.typed_machine.specs.Words.{esp_of, head_values, object_values}
use Rattle.word_machine.specs.Memory.{MemoryView}
use Rattle.word_machine.specs.Standing.{HoldsValues, values_at, IsInside, BlocksStand, MemoryStands, end_of}
use Rattle.word_machine.specs.Following.{Grounds}
use Rattle.typed_safety.specs.Laws.{SpotLives}
use Rattle.word_machine.specs.Laws.{WordChanges}
use Rattle.word_machine.specs.Stepping.{HeapLaws}
use Rattle.word_machine.proofs.Areas.{heap_set}
use Rattle.word_machine.proofs.Heaps.{block-object, object_inside, object_is_word, set-blocks}
use Rattle.word_machine.proofs.Holding.{Outside, Change, holds-put}
use Rattle.word_machine.proofs.Bounds.{few-stacks, runs-there}
use Rattle.word_machine.proofs.Changing.{tables-kept, descriptors_kept, room-kept, blocks-kept, statics-kept, object_kept, stack_kept}
use Rattle.word_machine.proofs.Stacks.{running_holds, stack_written}
use Rattle.word_machine.proofs.Spots.{head_count, spot_place, IsThere, spot-address}
use Rattle.word_machine.proofs.Reading.{inside-below}
use Rattle.word_machine.proofs.Objects.{place_of_object, object_shape, no-shape, places-set, Replaced, store-read, words-set, still-lie, still-blocks, object_need}

-- a state that is provided is the one that was given, and the test held
provided-is : (b : Bool) (u t : State) → provided b u ≡ Some t → (b ≡ true) × (u ≡ t)
provided-is true u t h = (refl, cc)
provided-is false u t h = absurd cc

-- where a value may stand there is a type
may_hold_typed : (v : ShownImage) (s : State) (o : Option FieldTy) (w : Value) → may_hold v s o w ≡ true → (f : FieldTy) × (o ≡ Some f)
may_hold_typed v s None w h = absurd cc
may_hold_typed v s (Some f) w h = (f, refl)

-- a value whose type there is has a number below the count
value-counted : (s : ShapesView) (shape : ObjectShape) (j : ℕ) (f : FieldTy) → value_type s shape j ≡ Some f → j < value_count s shape
unfolding value_type value_count
value-counted s (InstanceOf c) j f h = slice_get_within (Fields s c) j f h
value-counted s (ArrayOf k n) j f h = grind (arith, nat_tests)

-- an object with a value of this number
record HasValue (s : State) (i j : ℕ) : Type 0 where
  object : Object
  there : slice_get s.store i ≡ Some object
  few : j < length object.values

-- its place is one of the object's
value-within : (s : State) (i j : ℕ) (h : HasValue s i j) → h.object.place + 4 * (length (head_values h.object.shape) + j) < end_of h.object
unfolding object_values
value-within s i j h = let both = length-append (head_values h.object.shape) h.object.values in let few = h.few in omega arith

-- the words of an object are those before its values, and its values
object_long : (o : Object) → length (object_values o) ≡ length (head_values o.shape) + length o.values
unfolding object_values
object_long o = length-append (head_values o.shape) o.values

module _ {image : ImageParts} {live : ℕ → Bool} {s : State} {cpu : Cpu} {m : MemoryView} (g : Grounds image live s cpu m) where
  -- a value that may be written in an object is there
  value-there : (i j : ℕ) (v : Value) → may_hold (shown image) s (type_there (shown image) s i j) v ≡ true → HasValue s i j
  value-there i j v h =
      let typed = may_hold_typed (shown image) s (type_there (shown image) s i j) v h in
      go (slice_get s.store i) refl typed.0 typed.1
    where
      go : (o : Option Object) → slice_get s.store i ≡ o → (f : FieldTy) → type_there (shown image) s i j ≡ Some f → HasValue s i j
      go None e f is = let nothing = rw (no-shape s i e) at is in absurd cc
      go (Some o) e f is =
          let counted = value-counted (shown image).shapes o.shape j f (rw (object_shape s i o e) at is) in
          let count = g.typed.store.counts i o e in
          record { object = o; there = e; few = omega arith }

  module _ (heap_laws : HeapLaws) (laws : ClassLaws (shapes_of image)) {after : MemoryView} {a w : ℕ} (c : Change m after a w) (v : Value) (is : w ≡ Word (places_of s) v) where
    -- a static
    static_written : (j : ℕ) → j < length s.statics → a ≡ statics_start + 4 * j → MemoryStands image live (record s { statics = slice_set s.statics j v }) after
    unfolding values_at
    static_written j few at =
        let memory = g.stand.memory in
        let short = memory.lie.short in
        let same = length-set s.statics j v in
        record {
          tables = tables-kept g c laws (omega arith);
          descriptors = descriptors_kept g c laws (omega arith);
          statics = holds-put c (places_of s) statics_start s.statics memory.statics j v at is;
          objects = λ i o lives there. object_kept g c i o lives there (above i o (memory.lie.inside i o lives there));
          stacks = λ n there. stack_kept g c n there (inl (omega arith));
          room = room-kept g c;
          lie = record { short = rw same short; aligned = memory.lie.aligned; inside = λ i o lives there. rw same (memory.lie.inside i o lives there); apart = memory.lie.apart };
          blocks = blocks-kept g c (omega arith);
        }
      where
        above : (i : ℕ) (o : Object) → IsInside image s i o → Outside a o.place (length (object_values o))
        above i o (inl (row, low, high)) = inl (omega arith)
        above i o (inr (heap, low, high)) = let short = g.stand.memory.lie.short in inl (omega arith)

    -- a slot
    slot-written : (i : ℕ) → i < length s.values → a ≡ esp_of s + 4 * i → MemoryStands image live (with_values (slice_set s.values i v) s) after
    slot-written i few at =
        let short = g.typed.thread.room in
        let same = length-set s.values i v in
        stack_written g laws c (slice_set s.values i v) (omega arith) (omega arith)
        (rw same (holds-put c (places_of s) (esp_of s) s.values (running_holds g) i v at is))

    -- a value of an object
    value-written : (i j : ℕ) → live i ≡ true → (h : HasValue s i j) → a ≡ h.object.place + 4 * (length (head_values h.object.shape) + j)
        → MemoryStands image live (record s { store = set_value s.store i j v }) after
    unfolding values_at
    value-written i j lives h at =
        let memory = g.stand.memory in
        let o = h.object in
        let short = memory.lie.short in
        let places = places-set s.store i j v in
        record {
          tables = tables-kept g c laws (high (memory.lie.inside i o lives h.there));
          descriptors = descriptors_kept g c laws (high (memory.lie.inside i o lives h.there));
          statics = rw places (statics-kept g c (inr (behind (memory.lie.inside i o lives h.there))));
          objects = λ k p live_too there. rw places (object k p live_too (store-read s.store i j v k p there));
          stacks = λ n there. rw places (stack_kept g c n there (beside n there (memory.lie.inside i o lives h.there)));
          room = room-kept g c;
          lie = still-lie image live s i j v memory.lie;
          blocks = still-blocks image live s.store i j v after.heap (blocks (memory.lie.inside i o lives h.there));
        }
      where
        within : a < end_of h.object
        within = let one = value-within s i j h in omega arith

        high : IsInside image s i h.object → statics_start ≤ a
        high (inl (row, low, top)) = omega arith
        high (inr (heap, low, top)) = omega arith

        behind : IsInside image s i h.object → statics_start + 4 * length s.statics ≤ a
        behind (inl (row, low, top)) = omega arith
        behind (inr (heap, low, top)) = let short = g.stand.memory.lie.short in omega arith

        -- the heap: below it nothing is written, and else one word of the object's block
        blocks : IsInside image s i h.object → BlocksStand image live s.store after.heap
        blocks (inl (row, low, top)) = let end = within in blocks-kept g c (omega arith)
        blocks (inr (heap, low, top)) =
            let stand = g.stand.memory.blocks in
            let b = stand.objects i h.object lives heap h.there in
            let room = object_need (shown image).shapes h.object (g.typed.store.counts i h.object h.there) in
            let long = object_long h.object in
            let few = h.few in
            let k = b.block + (2 + (length (head_values h.object.shape) + j)) in
            let address : a ≡ heap_start + 4 * k = omega (arith, at, b.place) in
            let here : WordChanges m after (heap_start + 4 * k) w = rw address at c.written in
            let open_to = block-object heap_laws m.heap stand.formed b.block k b.used (omega arith) (omega (arith, room, b.exact, long, few)) in
            rw (heap_set m after k w here (object_inside heap_laws m.heap stand.formed k open_to))
            (set-blocks heap_laws m.heap k w (object_is_word heap_laws m.heap stand.formed k open_to) image live s.store stand)

        beside : (n : ℕ) → n < image.stacks → IsInside image s i h.object → (a < stacks_start + 16384 * n) ⊎ (stacks_start + 16384 * (n + 1) ≤ a)
        beside n there (inl (row, low, top)) = let end = within in inl (omega arith)
        beside n there (inr (heap, low, top)) = let few = few-stacks g in inr (omega arith)

        apart : (p : Object) → (end_of p ≤ h.object.place) ⊎ (end_of h.object ≤ p.place) → Outside a p.place (length (object_values p))
        apart p (inl below) = inr (omega arith)
        apart p (inr above) = let end = within in inl (omega arith)

        object : (k : ℕ) (p : Object) → live k ≡ true → Replaced s.store i j v k p → HoldsValues after (places_of s) p.place (object_values p)
        object k p live_too (inl (q, there, same, new)) =
            let one : Some q ≡ Some h.object = sym there ∙ h.there in
            let alike : q ≡ h.object = cc in
            rw (new, alike, words-set h.object j v)
            (holds-put c (places_of s) h.object.place (object_values h.object) (g.stand.memory.objects i h.object lives h.there)
            (length (head_values h.object.shape) + j) v at is)
        object k p live_too (inr (other, there)) =
            object_kept g c k p live_too there (apart p (g.stand.memory.lie.apart k i p h.object live_too lives other there h.there))

    -- the same by the place of the value's spot
    object_written : (i j : ℕ) → live i ≡ true → HasValue s i j → a ≡ (slice_index (places_of s) i + 4 * (head_count s i + j)) % 2 ^ 32
        → MemoryStands image live (record s { store = set_value s.store i j v }) after
    object_written i j lives h at =
        let place = rw (place_of_object s i h.object h.there, object_shape s i h.object h.there) at at in
        let within = value-within s i j h in
        let end = inside-below image s i h.object (g.stand.memory.lie.inside i h.object lives h.there) in
        let below : h.object.place + 4 * (length (head_values h.object.shape) + j) < 2 ^ 32 = omega arith in
        value-written i j lives h (place ∙ mod-eq_of_lt below)

    -- the word at a spot's place
    spot-written : (spot : Spot) → IsThere s spot → SpotLives live spot → (t : State) → write_spot (shown image) s spot v ≡ Some t → a ≡ spot_place s spot % 2 ^ 32
        → MemoryStands image live t after
    unfolding write_spot spot_place shown
    spot-written (AtStatic j) there lives t h at =
        let passed = provided-is (may_hold (shown image) s (slice_get image.statics j) v) _ t h in
        let typed = may_hold_typed (shown image) s (slice_get image.statics j) v passed.0 in
        let count = g.typed.statics.count in
        let within = slice_get_within image.statics j typed.0 typed.1 in
        let few : j < length s.statics = omega arith in
        let short = g.stand.memory.lie.short in
        let below : statics_start + 4 * j < 2 ^ 32 = omega arith in
        subst (λ u. MemoryStands image live u after) passed.1 (static_written j few (at ∙ mod-eq_of_lt below))
    spot-written (AtSlot i) there lives t h at =
        let same : with_values (slice_set s.values i v) s ≡ t = cc in
        let stacks = few-stacks g in
        let runs = runs-there g in
        let short = g.typed.thread.room in
        let below : esp_of s + 4 * i < 2 ^ 32 = omega arith in
        subst (λ u. MemoryStands image live u after) same (slot-written i there (at ∙ mod-eq_of_lt below))
    spot-written (AtValue i j) there lives t h at =
        let passed = provided-is (may_hold (shown image) s (type_there (shown image) s i j) v) _ t h in
        subst (λ u. MemoryStands image live u after) passed.1 (object_written i j lives (value-there i j v passed.0) at)
    spot-written (AtLength i) there lives t h at = absurd cc
    spot-written (AtHead i) there lives t h at = absurd cc
    spot-written (AtMethod d k) there lives t h at = absurd cc
    spot-written (AtDisplay d e) there lives t h at = absurd cc

  -- the law
  pub spot-is-written : HeapLaws → ClassLaws (shapes_of image) → (x : Mem) → x.index ≢ Some Esp → (spot : Spot) → spot_of (shapes_of image) s x ≡ Some spot
      → SpotLives live spot
      → (v : Value) (t : State) → write_spot (shown image) s spot v ≡ Some t
      → (after : MemoryView) → WordChanges m after (address_of x cpu.regs) (Word (places_of s) v) → MemoryStands image live t after
  spot-is-written heap_laws laws x spared spot points lives v t h after written =
      let address = spot-address (shapes_of image) s spot cpu g.stand.processor x spared points in
      let c : Change m after (address_of x cpu.regs) (Word (places_of s) v) = record { written = written } in
      spot-written heap_laws laws c v refl spot address.1 lives t h address.0
