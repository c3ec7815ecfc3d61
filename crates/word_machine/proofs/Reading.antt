-- The word at a spot's place is that of what the state has there.
use Rattle.std.proofs.Common.{◌≡◌, ◌≢◌, inl, inr, ◌+◌, ◌*◌, ◌^◌, ◌<◌, ◌≤◌, ℕ, Bool, true, Option, Some, None, arith, refl, ◌∙◌, List, ◌++◌, length, slice_get, slice_index}
use Rattle.std.specs.Option.{option_map, option_and_then}
use Rattle.std.proofs.Math.Nat.{mod-eq_of_lt}
use Rattle.std.proofs.lemmas.Option.{slice_get_within}
use Rattle.ia32_code.specs.declared.instruction.Reg.TheVariants.{Esp}
use Rattle.ia32_code.specs.declared.instruction.Mem.{Mem}
use Rattle.ia32_step.specs.declared.cpu.Cpu.{Cpu}
use Rattle.ia32_step.specs.Operands.{address_of}
use Rattle.heap_words.specs.Headers.{size_at}
use Rattle.object_layout.specs.Areas.{statics_start, heap_start, table_address}
use Rattle.object_layout.specs.Classes.{Methods, fun_row, table_word}
use Rattle.object_layout.specs.Laws.{ClassLaws}
use Rattle.tal_image.specs.Image.{ImageParts}
use Rattle.tal_image.specs.Shown.{shown, shapes_of}
use Rattle.typed_machine.specs.Values.{Value, Code, ObjectShape, InstanceOf, ArrayOf, Word}
use Rattle.typed_machine.specs.Stores.{Object, need, value_at}
use Rattle.typed_machine.specs.States.{State, places_of}
use Rattle.typed_machine.specs.States as state
use Rattle.typed_machine.specs.Operands.{Spot, AtStatic, AtSlot, AtValue, AtLength, AtHead, AtMethod, AtDisplay, length_value, head_value, method_value, read_spot, spot_of, spot_word}
use Rattle.typed_machine.specs.Words.{esp_of, head_values, object_values}
use Rattle.typed_safety.specs.Laws.{SpotLives}
use Rattle.word_machine.specs.Memory.{MemoryView, word_of, heap_allows, is_mapped}
use Rattle.word_machine.specs.Standing.{end_of, IsInside}
use Rattle.word_machine.specs.Following.{Grounds}
use Rattle.word_machine.specs.Stepping.{HeapLaws}
use Rattle.word_machine.proofs.Areas.{low-open, heap_open}
use Rattle.word_machine.proofs.Heaps.{block-object}
use Rattle.word_machine.proofs.Lists.{behind-read}
use Rattle.word_machine.proofs.Bounds.{few-stacks, runs-there}
use Rattle.word_machine.proofs.Tables.{table-below, method-word}
use Rattle.word_machine.proofs.Objects.{place_of_object, object_shape, shape-object, object_need}
use Rattle.word_machine.proofs.Stacks.{running_holds}
use Rattle.word_machine.proofs.Spots.{head_count, spot_place, spot-address}

-- a word stands at an address of 32 bits, which is open to instructions
record Stands (m : MemoryView) (a w : ℕ) : Type 0 where
  below : a < 2 ^ 32
  there : word_of m a ≡ Some w
  open_to : heap_allows m.heap a ≡ true

-- the object that a spot's value is of
read-object : (s : State) (i j : ℕ) (v : Value) → value_at s.store i j ≡ Some v → (o : Object) × (slice_get s.store i ≡ Some o) × (slice_get o.values j ≡ Some v)
unfolding value_at
read-object s i j v h = go (slice_get s.store i) refl h
  where
    go : (o : Option Object) → slice_get s.store i ≡ o → option_and_then (λ (p : Object). slice_get p.values j) o ≡ Some v
        → (o : Object) × (slice_get s.store i ≡ Some o) × (slice_get o.values j ≡ Some v)
    go None e f = absurd cc
    go (Some o) e f = (o, e, f)

-- an object ends below 2^32
pub inside-below : (image : ImageParts) (s : State) (i : ℕ) (o : Object) → IsInside image s i o → end_of o < 2 ^ 32
inside-below image s i o (inl (row, above, below)) = omega arith
inside-below image s i o (inr (heap, above, below)) = omega arith

module _ {image : ImageParts} {live : ℕ → Bool} {s : State} {cpu : Cpu} {m : MemoryView} (g : Grounds image live s cpu m) where
  -- a static
  static_stands : (j : ℕ) (v : Value) → slice_get s.statics j ≡ Some v → Stands m (statics_start + 4 * j) (Word (places_of s) v)
  static_stands j v h =
      let short = g.stand.memory.lie.short in
      let few = slice_get_within s.statics j v h in
      record { below = omega arith; there = g.stand.memory.statics j v h; open_to = low-open m.heap (statics_start + 4 * j) (omega arith) }

  -- a value of the running stack
  slot-stands : (i : ℕ) (v : Value) → slice_get s.values i ≡ Some v → Stands m (esp_of s + 4 * i) (Word (places_of s) v)
  slot-stands i v h =
      let few = slice_get_within s.values i v h in
      let stacks = few-stacks g in
      let runs = runs-there g in
      let short = g.typed.thread.room in
      record { below = omega arith; there = running_holds g i v h; open_to = low-open m.heap (esp_of s + 4 * i) (omega arith) }

  -- a word of an object is open: it lies below the heap, or in the block of the object
  object_open : HeapLaws → (i k : ℕ) (o : Object) → live i ≡ true → slice_get s.store i ≡ Some o → k < length (object_values o) → IsInside image s i o
      → heap_allows m.heap (o.place + 4 * k) ≡ true
  object_open laws i k o lives there few (inl (row, above, below)) = low-open m.heap (o.place + 4 * k) (omega arith)
  object_open laws i k o lives there few (inr (heap, above, below)) =
      let blocks = g.stand.memory.blocks in
      let b = blocks.objects i o lives heap there in
      let room = object_need (shown image).shapes o (g.typed.store.counts i o there) in
      let place = b.place in
      let exact = b.exact in
      let at : o.place + 4 * k ≡ heap_start + 4 * (b.block + (k + 2)) = omega arith in
      rw (at, heap_open m.heap (b.block + (k + 2))) (block-object laws m.heap blocks.formed b.block (b.block + (k + 2)) b.used (omega arith) (within room exact))
    where
      within : length (object_values o) + 2 ≤ need (shown image).shapes o.shape → size_at m.heap (g.stand.memory.blocks.objects i o lives heap there).block ≡ need (shown image).shapes o.shape
          → (g.stand.memory.blocks.objects i o lives heap there).block + (k + 2)
          < (g.stand.memory.blocks.objects i o lives heap there).block + size_at m.heap (g.stand.memory.blocks.objects i o lives heap there).block
      within room exact = omega (arith, room, exact, few)

  -- a word of an object
  object_stands : HeapLaws → (i k : ℕ) (o : Object) (v : Value) → live i ≡ true → slice_get s.store i ≡ Some o → slice_get (object_values o) k ≡ Some v
      → Stands m (slice_index (places_of s) i + 4 * k) (Word (places_of s) v)
  object_stands laws i k o v lives there h =
      let few = slice_get_within (object_values o) k v h in
      let inside = g.stand.memory.lie.inside i o lives there in
      let below = inside-below image s i o inside in
      rw (place_of_object s i o there) (record {
        below = omega arith;
        there = g.stand.memory.objects i o lives there k v h;
        open_to = object_open laws i k o lives there few inside;
      })

  -- a value of an object
  value-stands : HeapLaws → (i j : ℕ) (v : Value) → live i ≡ true → value_at s.store i j ≡ Some v
      → Stands m (slice_index (places_of s) i + 4 * (head_count s i + j)) (Word (places_of s) v)
  unfolding object_values
  value-stands laws i j v lives h =
      let found = read-object s i j v h in
      let o = found.0 in
      rw (object_shape s i o found.1)
      (object_stands laws i (length (head_values o.shape) + j) o v lives found.1 (behind-read (head_values o.shape) o.values j ∙ found.2))

  -- the length of an array
  length-stands : HeapLaws → (i : ℕ) (v : Value) → live i ≡ true → option_and_then length_value (slice_get (state.placed_shapes s) i) ≡ Some v
      → Stands m (slice_index (places_of s) i + 4 * 1) (Word (places_of s) v)
  unfolding object_values head_values
  length-stands laws i v lives h =
      let found = shape-object s i length_value v h in object_stands laws i 1 found.0 v lives found.1 (second found.0.shape found.0.values found.2)
    where
      second : (shape : ObjectShape) (values : List Value) → length_value shape ≡ Some v → slice_get (head_values shape ++ values) 1 ≡ Some v
      second (InstanceOf c) values e = absurd cc
      second (ArrayOf k n) values e = e

  -- the table of an object
  head-stands : HeapLaws → (i : ℕ) (v : Value) → live i ≡ true → option_and_then head_value (slice_get (state.placed_shapes s) i) ≡ Some v
      → Stands m (slice_index (places_of s) i + 4 * 0) (Word (places_of s) v)
  unfolding object_values head_values
  head-stands laws i v lives h =
      let found = shape-object s i head_value v h in object_stands laws i 0 found.0 v lives found.1 (first found.0.shape found.0.values found.2)
    where
      first : (shape : ObjectShape) (values : List Value) → head_value shape ≡ Some v → slice_get (head_values shape ++ values) 0 ≡ Some v
      first (InstanceOf c) values e = e
      first (ArrayOf k n) values e = absurd cc

  -- a word of a class's table
  table-stands : ClassLaws (shapes_of image) → (c k w : ℕ) → table_word (shapes_of image) c k ≡ Some w → Stands m (table_address c + 4 * k) w
  table-stands laws c k w h = let below = table-below (shapes_of image) laws c k w h in record { below = omega arith; there = g.stand.memory.tables c k w h; open_to = low-open m.heap (table_address c + 4 * k) (omega arith) }

  -- a method
  method-stands : ClassLaws (shapes_of image) → (c k : ℕ) (v : Value) → method_value (shapes_of image) c k ≡ Some v
      → Stands m (table_address c + 4 * (11 + k)) (Word (places_of s) v)
  unfolding Word
  method-stands laws c k v h = go (slice_get (Methods (shapes_of image) c) k) refl h
    where
      go : (o : Option ℕ) → slice_get (Methods (shapes_of image) c) k ≡ o → option_map (λ f. Code (fun_row (shapes_of image) f).address) o ≡ Some v
          → Stands m (table_address c + 4 * (11 + k)) (Word (places_of s) v)
      go None e f = absurd cc
      go (Some f) e h =
          let is : Code (fun_row (shapes_of image) f).address ≡ v = cc in rw (← is) (table-stands laws c (11 + k) _ (method-word (shapes_of image) laws c k f e))

  -- the word of a value that there is
  value-word : (a w : ℕ) (o : Option Value) → option_map (Word (places_of s)) o ≡ Some w
      → ((v : Value) → o ≡ Some v → Stands m a (Word (places_of s) v)) → Stands m a w
  value-word a w None h stands = absurd cc
  value-word a w (Some v) h stands = let is : Word (places_of s) v ≡ w = cc in rw (← is) (stands v refl)

  -- the word at a spot
  spot-stands : HeapLaws → ClassLaws (shapes_of image) → (spot : Spot) (w : ℕ) → SpotLives live spot → spot_word (shapes_of image) s spot ≡ Some w
      → Stands m (spot_place s spot) w
  unfolding spot_word read_spot spot_place
  spot-stands heap laws (AtStatic j) w lives h = value-word _ w _ h (λ v e. static_stands j v e)
  spot-stands heap laws (AtSlot i) w lives h = value-word _ w _ h (λ v e. slot-stands i v e)
  spot-stands heap laws (AtValue i j) w lives h = value-word _ w _ h (λ v e. value-stands heap i j v lives e)
  spot-stands heap laws (AtLength i) w lives h = value-word _ w _ h (λ v e. length-stands heap i v lives e)
  spot-stands heap laws (AtHead i) w lives h = value-word _ w _ h (λ v e. head-stands heap i v lives e)
  spot-stands heap laws (AtMethod c k) w lives h = value-word _ w _ h (λ v e. method-stands laws c k v e)
  spot-stands heap laws (AtDisplay c d) w lives h = table-stands laws c (3 + d) w h

  -- it stands at the address of an operand that points there, which is mapped
  pub spot-read : HeapLaws → ClassLaws (shapes_of image) → (x : Mem) → x.index ≢ Some Esp → (spot : Spot) (w : ℕ) → spot_of (shapes_of image) s x ≡ Some spot
      → SpotLives live spot
      → spot_word (shapes_of image) s spot ≡ Some w → (is_mapped m (address_of x cpu.regs) ≡ true) × (word_of m (address_of x cpu.regs) ≡ Some w)
  unfolding is_mapped
  spot-read heap laws x spared spot w points lives h =
      let stands = spot-stands heap laws spot w lives h in
      let address = spot-address (shapes_of image) s spot cpu g.stand.processor x spared points in
      rw (address.0, mod-eq_of_lt stands.below, stands.there, stands.open_to) (refl, refl)
