-- What is written to a destination: the word of its new value, where it points, and nothing else.
use Rattle.std.specs.Prelude.{nat_lt, slice_get, slice_set, not, if◌then◌else◌}
use Rattle.std.specs.Option.{option_map, option_and_then}
use Rattle.std.proofs.Common.{◌≡◌, ℕ, ◌<◌, Bool, true, false, List, [], ◌∷◌, length, Option, Some, None, refl, sym, ap, subst, ◌∙◌, arith}
use Rattle.std.proofs.lemmas.Bool.Decides.{nat_tests}
use Rattle.std.proofs.lemmas.List.{length-set}
use Rattle.std.proofs.lemmas.Option.{slice_get_within, slice_get-get_or, slice_get-map}
use Rattle.ia32_code.specs.declared.instruction.Reg.TheVariants.{Esp}
use Rattle.ia32_code.specs.declared.instruction.Mem.{Mem}
use Rattle.ia32_code.specs.declared.instruction.Operand.{Operand}
use Rattle.ia32_code.specs.declared.instruction.Operand.TheVariants.{R, M, I}
use Rattle.ia32_code.specs.declared.instruction.Inst.{Inst}
use Rattle.ia32_step.specs.declared.cpu.Cpu.{Cpu}
use Rattle.ia32_step.specs.Operands.{address_of, put_word}
use Rattle.heap_words.specs.Blocks.{FormedHeap}
use Rattle.object_layout.specs.declared.rows.FieldTy.{FieldTy}
use Rattle.object_layout.specs.Classes.{ShapesView, Fields, Element}
use Rattle.tal_types.specs.Contexts.{same}
use Rattle.tal_types.specs.Shown.{ShownImage}
use Rattle.tal_image.specs.Image.{ImageParts}
use Rattle.tal_image.specs.Shown.{shown}
use Rattle.typed_machine.specs.Values.{Value, ObjectShape, InstanceOf, ArrayOf, Word}
use Rattle.typed_machine.specs.Stores.{Object, value_type, value_count, value_at}
use Rattle.typed_machine.specs.States.{State, places_of, with_register}
use Rattle.typed_machine.specs.Operands.{Spot, AtStatic, AtSlot, AtValue, AtLength, AtHead, AtMethod, AtDisplay, spot_of, read_spot, spot_word, may_hold, type_there, provided, write_spot, write_operand}
use Rattle.typed_machine.specs.Words.{stack_pointer, register_words, esp_of, words_of}
use Rattle.word_machine.specs.Memory.{MemoryView, is_mapped, memory_word}
use Rattle.word_machine.specs.Standing.{MemoryStands}
use Rattle.word_machine.proofs.Spots.{spot-address}
use Rattle.word_machine.proofs.Objects.{places-set}
use Rattle.word_machine.proofs.Spelled.{MayUse}
use Rattle.word_machine.proofs.Telling.{same-told, written-told}
use Rattle.word_machine.proofs.Grounding.{words_over, thread_stands, same-stands, Begins}
use Rattle.word_machine.proofs.OperandWords.{register-written, spot-value_word, spot-there}
use Rattle.ia32_step.specs.Reaches.{IsReached}

-- what a test lets through
pub provided-is : (t : Bool) (s u : State) → provided t s ≡ Some u → (t ≡ true) × (s ≡ u)
provided-is true s u h = (refl, cc)
provided-is false s u h = absurd (cc)

-- ---- what is written has a word

-- a list has an element at each place inside it
inside : {X : Type 0} (xs : List X) (k : ℕ) → k < length xs → (x : X) × (slice_get xs k ≡ Some x)
inside [] k h = absurd (omega arith)
inside (y ∷ xs) k h = (_, slice_get-get_or (y ∷ xs) k y h)

-- a type below which a value may be held is there
held-type : (v : ShownImage) (s : State) (o : Option FieldTy) (w : Value) → may_hold v s o w ≡ true → (t : FieldTy) × (o ≡ Some t)
held-type v s None w h = absurd (cc)
held-type v s (Some t) w h = (t, refl)

-- a value whose type is there is among an object's
typed-inside : (v : ShapesView) (shape : ObjectShape) (j : ℕ) (t : FieldTy) → value_type v shape j ≡ Some t → j < value_count v shape
unfolding value_type value_count
typed-inside v (InstanceOf c) j t h = slice_get_within (Fields v c) j t h
typed-inside v (ArrayOf k n) j t h = go (nat_lt j n) refl h
  where
    go : (b : Bool) → nat_lt j n ≡ b → (if b then Element v k else None) ≡ Some t → j < n
    go true e g = grind (arith, nat_tests)
    go false e g = absurd (cc)

module _ {image : ImageParts} {live : ℕ → Bool} {s : State} {cpu : Cpu} {m : MemoryView} {i : Inst} {len : ℕ} (b : Begins image live s cpu m i len) where
  -- a value of an object, whose type is there
  value-inside : (o j : ℕ) (t : FieldTy) → type_there (shown image) s o j ≡ Some t → (w : Value) × (value_at s.store o j ≡ Some w)
  unfolding value_at
  value-inside o j t h = go (slice_get s.store o) refl (ap (option_and_then (λ shape. value_type (shown image).shapes shape j)) (sym (slice_get-map (λ (x : Object). x.shape) s.store o)) ∙ h)
    where
      go : (x : Option Object) → slice_get s.store o ≡ x
          → option_and_then (λ shape. value_type (shown image).shapes shape j) (option_map (λ (y : Object). y.shape) x) ≡ Some t
          → (w : Value) × (option_and_then (λ (y : Object). slice_get y.values j) x ≡ Some w)
      go None e g = absurd (cc)
      go (Some y) e g =
          let count = b.grounds.typed.store.counts o y e in
          let few = typed-inside (shown image).shapes y.shape j t g in
          inside y.values j (rw count few)

  -- a spot that is written has a word
  pub written-there : (x : Mem) → MayUse image live s (M x) → (spot : Spot) (w : Value) (u : State) → spot_of (shown image).shapes s x ≡ Some spot → write_spot (shown image) s spot w ≡ Some u
      → (n : ℕ) × (spot_word (shown image).shapes s spot ≡ Some n)
  unfolding write_spot read_spot shown
  written-there x spares (AtStatic j) w u e h =
      let held = held-type (shown image) s _ w (provided-is _ _ u h).0 in
      let few = slice_get_within image.statics j held.0 held.1 in
      let at = inside s.statics j (rw b.grounds.typed.statics.count few) in
      (_, spot-value_word (shown image).shapes s (AtStatic j) at.0 at.1)
  written-there x spares (AtSlot k) w u e h =
      let at = inside s.values k (spot-address (shown image).shapes s (AtSlot k) cpu b.grounds.stand.processor x spares.0 e).1 in
      (_, spot-value_word (shown image).shapes s (AtSlot k) at.0 at.1)
  written-there x spares (AtValue o j) w u e h =
      let held = held-type (shown image) s (type_there (shown image) s o j) w (provided-is _ _ u h).0 in
      let at = value-inside o j held.0 held.1 in
      (_, spot-value_word (shown image).shapes s (AtValue o j) at.0 at.1)
  written-there x spares (AtLength o) w u e h = absurd (cc)
  written-there x spares (AtHead o) w u e h = absurd (cc)
  written-there x spares (AtMethod c k) w u e h = absurd (cc)
  written-there x spares (AtDisplay c d) w u e h = absurd (cc)

-- ---- what a write leaves

-- a write leaves the thread, the objects' places and the depth of the stack
record Leaves (s u : State) : Type 0 where
  pub thread : u.thread ≡ s.thread
  pub places : places_of u ≡ places_of s
  pub top : esp_of u ≡ esp_of s

-- so it is at each spot
write-leaves : (v : ShownImage) (s : State) (spot : Spot) (w : Value) (u : State) → write_spot v s spot w ≡ Some u → Leaves s u
unfolding write_spot
write-leaves v s (AtStatic j) w u h = subst (Leaves s) (provided-is _ _ u h).1 (record { thread = refl; places = refl; top = refl })
write-leaves v s (AtSlot i) w u h =
    let is : record s { values = slice_set s.values i w } ≡ u = cc in
    subst (Leaves s) is (record { thread = refl; places = refl; top = ap (stack_pointer s.current) (length-set s.values i w) })
write-leaves v s (AtValue i j) w u h = subst (Leaves s) (provided-is _ _ u h).1 (record { thread = refl; places = places-set s.store i j w; top = refl })
write-leaves v s (AtLength i) w u h = absurd (cc)
write-leaves v s (AtHead i) w u h = absurd (cc)
write-leaves v s (AtMethod c m) w u h = absurd (cc)
write-leaves v s (AtDisplay c d) w u h = absurd (cc)

-- what stands after a word is put for a value
pub record PutFor (image : ImageParts) (live : ℕ → Bool) (s u : State) (m after : MemoryView) (d : Operand) (w : ℕ) : Type 0 where
  pub regs : (put_word d w (words_over s m)).regs ≡ register_words (places_of u) u.thread.regs (esp_of u)
  pub flags : u.thread.flags ≡ s.thread.flags
  pub memory : MemoryStands image live u after

module _ {image : ImageParts} {live : ℕ → Bool} {s : State} {cpu : Cpu} {m : MemoryView} {i : Inst} {len : ℕ} (b : Begins image live s cpu m i len) where
  -- a destination that is written names a word that is mapped
  pub put-reached : (d : Operand) (w : Value) (u : State) → MayUse image live s d → write_operand (shown image) s d w ≡ Some u → IsReached d (words_over s m) (is_mapped m)
  unfolding write_operand
  put-reached (R r) w u spares h = tt
  put-reached (I n) w u spares h = tt
  put-reached (M x) w u spares h = go (spot_of (shown image).shapes s x) refl h
    where
      go : (o : Option Spot) → spot_of (shown image).shapes s x ≡ o → option_and_then (λ spot. write_spot (shown image) s spot w) o ≡ Some u
          → IsReached (M x) (words_over s m) (is_mapped m)
      go None e g = absurd (cc)
      go (Some spot) e g =
          let word = written-there b x spares spot w u e g in
          (spot-there b x spares spot word.0 e word.1).reached

  -- where the word of a value is put, the words stand for the state with the value there
  pub put-stands : (d : Operand) (w : Value) (u : State) (after : MemoryView) → MayUse image live s d → write_operand (shown image) s d w ≡ Some u
      → ((a : ℕ) → memory_word after a ≡ (put_word d (Word (places_of s) w) (words_over s m)).memory a) → ((a : ℕ) → is_mapped after a ≡ is_mapped m a)
      → FormedHeap after.heap → PutFor image live s u m after d (Word (places_of s) w)
  unfolding write_operand words_of
  put-stands (I n) w u after spares h words mapped formed = absurd (cc)
  put-stands (R r) w u after spares h words mapped formed =
      let through = provided-is (not (same r Esp)) (with_register r w s) u h in
      let spared : same r Esp ≡ false = let t = through.0 in grind arith in
      let kept = same-stands b.grounds.stand.memory after (same-told b.laws.heap m after b.grounds.stand.memory.blocks.formed formed words mapped) in
      subst (λ y. PutFor image live s y m after (R r) (Word (places_of s) w)) through.1 (record {
        regs = register-written s (places_of s) (esp_of s) r w spared;
        flags = refl;
        memory = thread_stands kept _;
      })
  put-stands (M x) w u after spares h words mapped formed = go (spot_of (shown image).shapes s x) refl h
    where
      go : (o : Option Spot) → spot_of (shown image).shapes s x ≡ o → option_and_then (λ spot. write_spot (shown image) s spot w) o ≡ Some u
          → PutFor image live s u m after (M x) (Word (places_of s) w)
      go None e g = absurd (cc)
      go (Some spot) e g =
          let left = write-leaves (shown image) s spot w u g in
          let word = written-there b x spares spot w u e g in
          let at = (spot-there b x spares spot word.0 e word.1).reached in
          let written = written-told b.laws.heap m after b.grounds.stand.memory.blocks.formed formed (address_of x (words_over s m).regs) (Word (places_of s) w) at words mapped in
          record {
            regs = rw (left.places, left.thread, left.top) refl;
            flags = ap (λ t. t.flags) left.thread;
            memory = b.laws.writes image live s cpu m b.grounds x spares.0 spot e (spares.1 spot e) w u g after
                (rw b.grounds.stand.processor.regs written);
          }
