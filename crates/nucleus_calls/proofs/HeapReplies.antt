-- What an entry that touches the heap replies, as the typed machine's turn does.
use Rattle.std.proofs.Common.{◌≡◌, ℕ, zero, suc, ◌<◌, ◌≤◌, ◌⊎◌, inl, inr, ◌||◌, ◌==◌, Bool, true, false, nat_lt, if◌then◌else◌, List, [], ◌∷◌, ◌++◌, length, Option, Some, None, slice_index, refl, sym, ap, ◌∙◌, subst, arith}
use Rattle.std.specs.Option.{option_map, unwrap_or}
use Rattle.std.proofs.lemmas.Bool.{false≢true}
use Rattle.std.proofs.lemmas.Bool.Decides.{nat_tests}
use Rattle.ia32_code.specs.declared.instruction.Reg.TheVariants.{Eax, Ecx}
use Rattle.ia32_step.specs.declared.cpu.Cpu.{Cpu}
use Rattle.object_layout.specs.declared.rows.Shape.{Shape}
use Rattle.object_layout.specs.Classes.{ShapesView, IsShape}
use Rattle.free_index.specs.Lists.{FreeLists}
use Rattle.mark_sweep.specs.Objects.{shape_named, shape_word}
use Rattle.stack_states.specs.declared.journal_entry.Entry.{Entry}
use Rattle.stack_states.specs.declared.journal_entry.EntryKind.TheVariants.{Call}
use Rattle.stack_states.specs.StackTable.{OneRuns, current_of}
use Rattle.frame_tables.specs.FrameRows.{RowAt}
use Rattle.tal_types.specs.declared.types.Ty.{Ty}
use Rattle.tal_types.specs.declared.types.Ty.TheVariants.{Num}
use Rattle.tal_types.specs.Contexts.{same}
use Rattle.tal_image.specs.Image.{ImageParts}
use Rattle.tal_image.specs.Shown.{shown}
use Rattle.typed_machine.specs.Values.{Value, Number, Null, Ref, Code, Ret, Tab, Desc, Word, ObjectShape, InstanceOf, ArrayOf, all_objects}
use Rattle.typed_machine.specs.Stores.{shape_in, elements_in}
use Rattle.typed_machine.specs.States.{State, places_of, fresh_thread}
use Rattle.typed_machine.specs.Words.{esp_of}
use Rattle.typed_machine.specs.Replies.{ReplyView, Allocates, Collects, class_asked, array_asked, Reply}
use Rattle.typed_machine.specs.Placing.{Answer, Placed, Refused, fresh_object, allocated}
use Rattle.typed_machine.specs.Reaching.{Reach, Roots, rooted, live_in}
use Rattle.typed_machine.specs.Turns.{entry_of, comes_back}
use Rattle.typed_machine.specs.Frames.{Awaits}
use Rattle.typed_machine.specs.Typing.{TypedAmong, scope_of}
use Rattle.typed_safety.specs.Laws.{FormedImagesTell, HeapCallsAreTyped, HeapCallTyped, RootedObjectsLive, RepliesHold}
use Rattle.typed_heap.specs.Standing.{after_allocation}
use Rattle.word_machine.specs.Memory.{MemoryView}
use Rattle.word_machine.specs.Standing.{values_at, CpuStands, MemoryStands}
use Rattle.heap_changes.specs.Laws.{StatesKeepWords}
use Rattle.heap_calls.specs.Finding.{CallFinds}
use Rattle.heap_calls.specs.Telling.{IsRooted, CollectionTold, AllocationTold}
use Rattle.nucleus_calls.specs.Nucleus.{NucleusView, NucleusStands, IsNucleus}
use Rattle.nucleus_calls.specs.Calling.{fresh_cpu}
use Rattle.nucleus_calls.specs.HeapEntries.{AtHeapCall, LeadsAnswered, HeapReplied}
use Rattle.nucleus_calls.proofs.Restacked.{restacked}
use Rattle.nucleus_calls.proofs.Switched.{current-is, count-is}
use Rattle.nucleus_calls.proofs.Led.{entry_at}

-- the Nucleus with another memory and other lists of free blocks
abbrev pub with_memory : NucleusView → MemoryView → List ℕ → NucleusView
with_memory v memory index = record { memory = memory; stacks = v.stacks; starts = v.starts; devices = v.devices; index = index; marks = v.marks }

-- the laws that calls of the heap rest on
pub record HeapLaws : Type 0 where
  pub typed : HeapCallsAreTyped
  pub live : RootedObjectsLive
  pub hold : RepliesHold
  pub words : StatesKeepWords

-- ---- what is asked for

-- a shape is asked for by this class or kind, and by so many elements
pub record Asked (s : State) (shape : ObjectShape) (eax ecx k : ℕ) : Type 0 where
  pub named : eax ≡ shape_word (shape_in shape)
  pub elements : elements_in shape ≡ (if k == 0 then 0 else ecx)

-- a class or a kind by its word
class-word : (places : List ℕ) (w : Value) (shape : ObjectShape) → class_asked w ≡ Some shape → (Word places w ≡ shape_word (shape_in shape)) × (elements_in shape ≡ 0)
unfolding Word shape_word
class-word places (Tab c) shape e = let q : InstanceOf c ≡ shape = cc in rw (← q) (refl, refl)
class-word places (Number n) shape e = absurd (cc)
class-word places Null shape e = absurd (cc)
class-word places (Ref n) shape e = absurd (cc)
class-word places (Code n) shape e = absurd (cc)
class-word places (Ret n) shape e = absurd (cc)
class-word places (Desc n) shape e = absurd (cc)

array-word : (places : List ℕ) (w u : Value) (shape : ObjectShape) → array_asked w u ≡ Some shape → (Word places w ≡ shape_word (shape_in shape)) × (elements_in shape ≡ Word places u)
unfolding Word shape_word
array-word places (Desc k) (Number n) shape e = let q : ArrayOf k n ≡ shape = cc in rw (← q) (refl, refl)
array-word places (Desc k) Null shape e = absurd (cc)
array-word places (Desc k) (Ref n) shape e = absurd (cc)
array-word places (Desc k) (Code n) shape e = absurd (cc)
array-word places (Desc k) (Ret n) shape e = absurd (cc)
array-word places (Desc k) (Tab n) shape e = absurd (cc)
array-word places (Desc k) (Desc n) shape e = absurd (cc)
array-word places (Number n) u shape e = absurd (cc)
array-word places Null u shape e = absurd (cc)
array-word places (Ref n) u shape e = absurd (cc)
array-word places (Code n) u shape e = absurd (cc)
array-word places (Ret n) u shape e = absurd (cc)
array-word places (Tab n) u shape e = absurd (cc)

allocates_asked : (o : Option ObjectShape) (reply : ReplyView) → option_map Allocates o ≡ Some reply → (shape : ObjectShape) × (o ≡ Some shape) × (reply ≡ Allocates shape)
allocates_asked None reply e = absurd (cc)
allocates_asked (Some shape) reply e = (shape, refl, let q : Allocates shape ≡ reply = cc in sym q)

-- what entries 0 and 1 ask for
pub allocation_asked : (s : State) (k : ℕ) (reply : ReplyView) → k < 2 → Reply k s ≡ Some reply
    → (shape : ObjectShape) × (reply ≡ Allocates shape) × Asked s shape (Word (places_of s) (s.thread.regs Eax)) (Word (places_of s) (s.thread.regs Ecx)) k
unfolding Reply
allocation_asked s zero reply l e =
    let a = allocates_asked (class_asked (s.thread.regs Eax)) reply e in
    let w = class-word (places_of s) (s.thread.regs Eax) a.0 a.1 in
    (a.0, a.2, record { named = w.0; elements = w.1 })
allocation_asked s (suc zero) reply l e =
    let a = allocates_asked (array_asked (s.thread.regs Eax) (s.thread.regs Ecx)) reply e in
    let w = array-word (places_of s) (s.thread.regs Eax) (s.thread.regs Ecx) a.0 a.1 in
    (a.0, a.2, record { named = w.0; elements = w.1 })
allocation_asked s (suc (suc k)) reply l e = absurd (omega arith)

-- entry 2 collects
pub collects_asked : (s : State) (k : ℕ) (reply : ReplyView) → k ≡ 2 → Reply k s ≡ Some reply → reply ≡ Collects
unfolding Reply
collects_asked s k reply is e = let f : Some Collects ≡ Some reply = rw is at e in cc

-- ---- values and objects

number-word : (places : List ℕ) (word : ℕ) → Word places (Number word) ≡ word
unfolding Word
number-word places word = refl

number-refers : (word j : ℕ) → Number word ≡ Ref j → ⊥
number-refers word j e = cc

null-refers : (j : ℕ) → Null ≡ Ref j → ⊥
null-refers j e = cc

-- what the roots reach is rooted
by-reach : (image : ImageParts) (next : ℕ) (s : State) (i : ℕ) → Reach (shown image).shapes s.store (Roots image next s) i ≡ true → rooted image next s i ≡ true
unfolding rooted
by-reach image next s i r = right (nat_lt i (length image.arrays)) (Reach (shown image).shapes s.store (Roots image next s) i) r
  where
    right : (b c : Bool) → c ≡ true → (b || c) ≡ true
    right true c e = refl
    right false c e = e

-- and what is rooted is a data array, or reached from them
is-rooted : (image : ImageParts) (next : ℕ) (s : State) (i : ℕ) → rooted image next s i ≡ true → IsRooted image next s i
unfolding rooted
is-rooted image next s i h = go (nat_lt i (length image.arrays)) refl h
  where
    go : (b : Bool) → nat_lt i (length image.arrays) ≡ b → (b || Reach (shown image).shapes s.store (Roots image next s) i) ≡ true → IsRooted image next s i
    go true e h = inl (grind (arith, nat_tests))
    go false e h = inr h

rooted-or : (image : ImageParts) (next : ℕ) (s : State) (i n : ℕ) → (rooted image next s i ≡ true) ⊎ (i ≡ n) → IsRooted image next s i ⊎ (i ≡ n)
rooted-or image next s i n (inl h) = inl (is-rooted image next s i h)
rooted-or image next s i n (inr e) = inr e

-- a fresh processor with the reply's word in EAX stands for the caller that goes on
fresh-value-stands : (t : State) (value : Value) (word place esp : ℕ) → t.thread ≡ fresh_thread value place → Word (places_of t) value ≡ word → esp ≡ esp_of t → CpuStands t (fresh_cpu word esp place)
unfolding Word same
fresh-value-stands t value word place esp thread is at = record { regs = rw (thread, ← is, at) refl; flags = rw thread refl; place = rw thread refl }

-- so does the Nucleus
goes-on : (image : ImageParts) (live : ℕ → Bool) (t : State) (v : NucleusView) (value : Value) (next : ℕ) → NucleusStands image live t v → NucleusStands image live (comes_back value next t) v
unfolding values_at
goes-on image live t v value next h = record {
  memory = restacked image live t (comes_back value next t) v.memory h.memory refl refl h.memory.stacks;
  stacks = h.stacks;
  starts = h.starts;
  devices = h.devices;
  marks = h.marks;
}

-- ---- what is found

module _ (image : ImageParts) (s : State) (next k : ℕ) (shapes : ShapesView) (table : List RowAt) (cpu : Cpu) (v : NucleusView) (h : AtHeapCall image s next k shapes table cpu v) where
  -- the words of EAX, ECX and ESP, and the place
  pub eax-is : slice_index cpu.regs 0 ≡ Word (places_of s) (s.thread.regs Eax)
  eax-is = rw h.before.processor.regs refl

  pub ecx_is : slice_index cpu.regs 1 ≡ Word (places_of s) (s.thread.regs Ecx)
  ecx_is = rw h.before.processor.regs refl

  esp_is : slice_index cpu.regs 4 ≡ esp_of s
  esp_is = rw h.before.processor.regs refl

  -- ---- where the turn leads

  -- processor and Nucleus stand for the state in which the caller goes on
  pub leads : (word : ℕ) (after : NucleusView) → OneRuns v.stacks → HeapReplied image s next k word h.reply after → (turn : ℕ) → s.turns ≡ turn → (before : List Entry) (left : List Answer)
      → LeadsAnswered image s next k left before (before ++ entry_at turn (current_of v.stacks) (Call k) word ∷ []) (fresh_cpu word (slice_index cpu.regs 4) cpu.pc) after
  leads word after one r turn turns before left = record {
    told = r.told;
    turn = record { state = comes_back r.value next r.state; entry = Some (entry_of (Call k) word s); left = left; legal = true };
    is = rw h.comes.gives (r.turn left);
    legal = refl;
    stands = record {
      processor = rw h.before.processor.place (fresh-value-stands (comes_back r.value next r.state) r.value word next (slice_index cpu.regs 4) refl r.is_word (esp_is ∙ rw (r.current, r.values) refl));
      nucleus = goes-on image (live_in image (comes_back r.value next r.state)) r.state after r.value next r.nucleus;
      entries = ap (λ (e : Entry). before ++ e ∷ []) (rw (← turns, current-is h.before.typed h.before.nucleus one) refl);
      same_turn = record { turns = r.same_turn.turns; ending = r.same_turn.ending };
      left = refl;
    };
  }

-- ---- what every Nucleus keeps

-- each stack still has all of its words where the memory stands
pub kept-standing : (image : ImageParts) (live over : ℕ → Bool) (s t : State) (v : NucleusView) (memory : MemoryView) (index : List ℕ) → TypedAmong image live s → NucleusStands image live s v
    → IsNucleus v → MemoryStands image over t memory → FreeLists index memory.heap → IsNucleus (with_memory v memory index)
kept-standing image live over s t v memory index typed stands kept m lists = record {
  room = λ a low high aligned. m.room a low (rw (count-is typed stands) at high) aligned;
  starts = kept.starts;
  lists = lists;
}

-- ---- with the laws

module _ (laws : HeapLaws) (image : ImageParts) (s : State) (next k : ℕ) (shapes : ShapesView) (table : List RowAt) (cpu : Cpu) (v : NucleusView) (h : AtHeapCall image s next k shapes table cpu v) where
  -- a reply is awaited, whichever objects live
  pub record IsAwaited (live : ℕ → Bool) : Type 0 where
    pub type : Ty
    pub awaits : Awaits (scope_of image live s) type next s.values

  awaited-by : (live : ℕ → Bool) (reply : ReplyView) → (reply ≡ Collects) ⊎ ((shape : ObjectShape) × (reply ≡ Allocates shape)) → HeapCallTyped image live s next reply → IsAwaited live
  awaited-by live reply (inl e) t = record { type = Num; awaits = rw e at t }
  awaited-by live reply (inr (shape, e)) t = let a = rw e at t in record { type = a.type; awaits = a.awaited }

  which : k < 3 → (h.reply ≡ Collects) ⊎ ((shape : ObjectShape) × (h.reply ≡ Allocates shape))
  which few = go (two k few)
    where
      two : (k : ℕ) → k < 3 → (k < 2) ⊎ (k ≡ 2)
      two k l = grind arith

      go : (k < 2) ⊎ (k ≡ 2) → (h.reply ≡ Collects) ⊎ ((shape : ObjectShape) × (h.reply ≡ Allocates shape))
      go (inl l) = let a = allocation_asked s k h.reply l h.comes.gives in inr (a.0, a.1)
      go (inr e) = inl (collects_asked s k h.reply e h.comes.gives)

  pub awaited-among : k < 3 → (live : ℕ → Bool) → TypedAmong image live s → IsAwaited live
  awaited-among few live t = awaited-by live h.reply (which few) (laws.typed image h.before.well_typed live s t next k h.reply h.comes)

  -- what is rooted lives
  reach-lives : (few : k < 3) → (i : ℕ) → Reach (shown image).shapes s.store (Roots image next s) i ≡ true → live_in image s i ≡ true
  reach-lives few i r =
      let a = awaited-among few (live_in image s) h.before.typed in
      laws.live image (live_in image s) s h.before.typed a.type next a.awaits i (by-reach image next s i r)

  pub finds : (few : k < 3) → CallFinds image (live_in image s) s (awaited-among few (live_in image s) h.before.typed).type next (slice_index cpu.regs 4) v.memory v.marks table shapes v.stacks
  finds few = record {
    formed = h.before.well_typed.formed;
    whole = h.typed.among;
    typed = h.before.typed;
    whole_type = (awaited-among few all_objects h.typed.among).type;
    awaited_whole = (awaited-among few all_objects h.typed.among).awaits;
    awaited = (awaited-among few (live_in image s) h.before.typed).awaits;
    lives = reach-lives few;
    memory = h.before.nucleus.memory;
    states = h.before.nucleus.stacks;
    pointer = esp_is image s next k shapes table cpu v h;
    marked = h.before.nucleus.marks;
    rows = h.rows;
    classes = h.classes;
  }

  -- ---- what is replied

  -- a reply after a collection
  pub collected : (word : ℕ) (memory : MemoryView) (index : List ℕ) → h.reply ≡ Collects → CollectionTold image next s word memory → HeapReplied image s next k word h.reply (with_memory v memory index)
  collected word memory index is told = record {
    told = [];
    value = Number word;
    state = s;
    turn = λ left. rw (is, told.counted) refl;
    is_word = number-word (places_of s) word;
    nucleus = record {
      memory = told.stands (live_in image (comes_back (Number word) next s)) (λ i l. is-rooted image next s i ((laws.hold image s h.typed next).reached (Number word) (λ j e. number-refers word j e) i l));
      stacks = h.before.nucleus.stacks;
      starts = h.before.nucleus.starts;
      devices = h.before.nucleus.devices;
      marks = h.before.nucleus.marks;
    };
    current = refl;
    values = refl;
    same_turn = record { turns = refl; ending = refl };
  }

  -- a refusal
  pub refused : (shape : ObjectShape) (memory : MemoryView) (index : List ℕ) → h.reply ≡ Allocates shape → AllocationTold image next s shape None memory → HeapReplied image s next k 0 h.reply (with_memory v memory index)
  refused shape memory index is told = record {
    told = Refused ∷ [];
    value = Null;
    state = s;
    turn = λ left. rw (is, told.reply, told.legal) refl;
    is_word = told.reply;
    nucleus = record {
      memory = told.stands (live_in image (comes_back Null next s)) (λ i l. inl (is-rooted image next s i ((laws.hold image s h.typed next).reached Null null-refers i l)));
      stacks = h.before.nucleus.stacks;
      starts = h.before.nucleus.starts;
      devices = h.before.nucleus.devices;
      marks = h.before.nucleus.marks;
    };
    current = refl;
    values = refl;
    same_turn = record { turns = refl; ending = refl };
  }

  -- a placement
  pub placed : (shape : ObjectShape) (a : ℕ) (memory : MemoryView) (index : List ℕ) → h.reply ≡ Allocates shape → AllocationTold image next s shape (Some a) memory → HeapReplied image s next k a h.reply (with_memory v memory index)
  placed shape a memory index is told = record {
    told = Placed a ∷ [];
    value = Ref (length s.store);
    state = allocated (shown image).shapes shape (Placed a) s;
    turn = λ left. rw (is, told.reply, told.legal) refl;
    is_word = told.reply;
    nucleus = record {
      memory = told.stands (live_in image (comes_back (Ref (length s.store)) next (allocated (shown image).shapes shape (Placed a) s))) (λ i l. rooted-or image next s i (length s.store) ((laws.hold image s h.typed next).placed shape a i l));
      stacks = h.before.nucleus.stacks ∙ sym (laws.words image s (fresh_object (shown image).shapes shape a ∷ []) h.typed.among);
      starts = h.before.nucleus.starts;
      devices = h.before.nucleus.devices;
      marks = h.before.nucleus.marks;
    };
    current = refl;
    values = refl;
    same_turn = record { turns = refl; ending = refl };
  }

  -- either, as an allocation is answered
  pub answered : (shape : ObjectShape) (result : Option ℕ) (memory : MemoryView) (index : List ℕ) → h.reply ≡ Allocates shape → AllocationTold image next s shape result memory
      → HeapReplied image s next k (unwrap_or result 0) h.reply (with_memory v memory index)
  answered shape None memory index is told = refused shape memory index is told
  answered shape (Some a) memory index is told = placed shape a memory index is told

  -- ---- the shape that is asked for

  -- there is the shape, and EAX names it
  pub record NamesShape (shape : ObjectShape) : Type 0 where
    pub asks : h.reply ≡ Allocates shape
    pub named : shape_named (slice_index cpu.regs 0) ≡ shape_in shape
    pub there : IsShape shapes (shape_in shape)
    pub elements : elements_in shape ≡ (if k == 0 then 0 else slice_index cpu.regs 1)

  pub names-shape : FormedImagesTell → ((shapes : ShapesView) (shape : Shape) → length shapes.classes ≤ 1024 → IsShape shapes shape → shape_named (shape_word shape) ≡ shape) → k < 2 → (shape : ObjectShape) × NamesShape shape
  names-shape formed back few =
      let a = allocation_asked s k h.reply few h.comes.gives in
      let typed = rw a.1 at (laws.typed image h.before.well_typed all_objects s h.typed.among next k h.reply h.comes) in
      let classes = (formed image h.before.well_typed.formed).classes.few_classes in (
        a.0,
        record {
          asks = a.1;
          named = ap shape_named (eax-is image s next k shapes table cpu v h ∙ a.2.named) ∙ back (shown image).shapes (shape_in a.0) classes typed.is_shape;
          there = rw h.classes typed.is_shape;
          elements = rw (ecx_is image s next k shapes table cpu v h) a.2.elements;
        },
      )

  -- ---- with the Nucleus's parts

  -- what is found, with the processor's words and the Nucleus's parts
  abbrev Found : NucleusView → Ty → Type 0
  Found w t = CallFinds image (live_in image s) s t cpu.pc (slice_index cpu.regs 4) w.memory w.marks table shapes w.stacks

  pub found : k < 3 → (w : NucleusView) → w ≡ v → (t : Ty) × Found w t
  found few w e =
      let type = (awaited-among few (live_in image s) h.before.typed).type in
      let f = subst (λ place. CallFinds image (live_in image s) s type place (slice_index cpu.regs 4) v.memory v.marks table shapes v.stacks) (sym h.before.processor.place) (finds few) in
      subst (λ u. (t : Ty) × Found u t) (sym e) (type, f)

  pub collected_with : (few : k < 3) → k ≡ 2 → (w : NucleusView) → w ≡ v → (word : ℕ) (memory : MemoryView) (index : List ℕ) → ((t : Ty) → Found w t → CollectionTold image cpu.pc s word memory)
      → HeapReplied image s next k word h.reply (with_memory w memory index)
  collected_with few is w e word memory index told =
      let f = found few w e in
      subst (λ u. HeapReplied image s next k word h.reply (with_memory u memory index)) (sym e)
      (collected word memory index (collects_asked s k h.reply is h.comes.gives) (rw h.before.processor.place at (told f.0 f.1)))

  pub answered-with : (few : k < 3) → (formed : FormedImagesTell) (back : (shapes : ShapesView) (shape : Shape) → length shapes.classes ≤ 1024 → IsShape shapes shape → shape_named (shape_word shape) ≡ shape) → k < 2 → (w : NucleusView) → w ≡ v
      → (shape : Shape) → shape ≡ shape_named (slice_index cpu.regs 0) → (elements : ℕ) → elements ≡ (if k == 0 then 0 else slice_index cpu.regs 1)
      → (result : Option ℕ) (memory : MemoryView) (index : List ℕ) → ((t : Ty) (asked : ObjectShape) → Found w t → shape_in asked ≡ shape → elements_in asked ≡ elements → AllocationTold image cpu.pc s asked result memory)
      → HeapReplied image s next k (unwrap_or result 0) h.reply (with_memory w memory index)
  answered-with few formed back fewer w e shape is elements long result memory index told =
      let f = found few w e in
      let n = names-shape formed back fewer in
      subst (λ u. HeapReplied image s next k (unwrap_or result 0) h.reply (with_memory u memory index)) (sym e)
      (answered n.0 result memory index n.1.asks
      (subst (λ place. AllocationTold image place s n.0 result memory) h.before.processor.place (told f.0 n.0 f.1 (sym (is ∙ n.1.named)) (n.1.elements ∙ sym long))))

  -- each stack still has all of its words
  pub kept-collected : (few : k < 3) → (w : NucleusView) → w ≡ v → IsNucleus w → (word : ℕ) (memory : MemoryView) (index : List ℕ) → ((t : Ty) → Found w t → CollectionTold image cpu.pc s word memory) → FreeLists index memory.heap
      → IsNucleus (with_memory w memory index)
  kept-collected few w e kept word memory index told lists =
      let f = found few w e in
      kept-standing image (live_in image s) (λ i. false) s s w memory index h.before.typed (subst (NucleusStands image (live_in image s) s) (sym e) h.before.nucleus) kept ((told f.0 f.1).stands (λ i. false) (λ i l. absurd (false≢true l))) lists

  pub kept-answered : (few : k < 3) → (formed : FormedImagesTell) (back : (shapes : ShapesView) (shape : Shape) → length shapes.classes ≤ 1024 → IsShape shapes shape → shape_named (shape_word shape) ≡ shape) → k < 2 → (w : NucleusView) → w ≡ v → IsNucleus w
      → (shape : Shape) → shape ≡ shape_named (slice_index cpu.regs 0) → (elements : ℕ) → elements ≡ (if k == 0 then 0 else slice_index cpu.regs 1)
      → (result : Option ℕ) (memory : MemoryView) (index : List ℕ) → ((t : Ty) (asked : ObjectShape) → Found w t → shape_in asked ≡ shape → elements_in asked ≡ elements → AllocationTold image cpu.pc s asked result memory)
      → FreeLists index memory.heap → IsNucleus (with_memory w memory index)
  kept-answered few formed back fewer w e kept shape is elements long result memory index told lists =
      let f = found few w e in
      let n = names-shape formed back fewer in
      kept-standing image (live_in image s) (λ i. false) s (after_allocation image n.0 result s) w memory index h.before.typed (subst (NucleusStands image (live_in image s) s) (sym e) h.before.nucleus) kept
      ((told f.0 n.0 f.1 (sym (is ∙ n.1.named)) (n.1.elements ∙ sym long)).stands (λ i. false) (λ i l. absurd (false≢true l))) lists
