-- At a call the words stand for what a collection asks for: they are those of the state's roots, and of the objects that live.
use Rattle.std.specs.Option.{option_map, option_and_then}
use Rattle.std.proofs.Common.{◌≡◌, ◌≢◌, ◌<◌, ◌≤◌, ◌+◌, ◌-◌, ◌*◌, ◌/◌, ◌%◌, ◌&&◌, ◌==◌, inl, inr, ⊎_elim, ℕ, zero, suc, nat_eq, nat_le, Bool, true, false, List, [], ◌∷◌, ◌++◌, length, Option, Some, None, slice_get, refl, sym, ◌∙◌, ap, subst, arith}
use Rattle.std.proofs.lemmas.Option.{slice_get_within, get_or_from_slice_get}
use Rattle.std.proofs.lemmas.Bool.Decides.{nat_tests}
use Rattle.object_layout.specs.Areas.{statics_start, stacks_start, heap_start, word_index}
use Rattle.object_layout.specs.Classes.{ShapesView}
use Rattle.mark_sweep.specs.Objects.{address}
use Rattle.mark_sweep.specs.Reached.{AllGood}
use Rattle.frame_tables.specs.FrameRows.{RowAt}
use Rattle.stack_states.specs.StackTable.{current_of}
use Rattle.tal_types.specs.declared.types.Ty.{Ty}
use Rattle.tal_image.specs.declared.parts.ArrayPart.{ArrayPart}
use Rattle.tal_image.specs.declared.parts.DataRow.{DataRow}
use Rattle.tal_image.specs.Image.{ImageParts}
use Rattle.tal_image.specs.Conditions.{array_room, array_places}
use Rattle.tal_image.specs.Shown.{shown, data_row_in}
use Rattle.stack_states.specs.declared.stack_state.StackState.{StackState}
use Rattle.typed_machine.specs.Values.{Value, Word, ObjectShape, InstanceOf, ArrayOf}
use Rattle.typed_machine.specs.Stores.{Object, places_in}
use Rattle.typed_machine.specs.States.{State, Stack, EmptyStack, RunningStack, YieldedStack, InterruptedStack, most_values, places_of}
use Rattle.typed_machine.specs.Words.{stack_pointer, head_values, object_values}
use Rattle.typed_machine.specs.Reaching.{Roots}
use Rattle.word_machine.specs.Memory.{MemoryView, word_in, word_of}
use Rattle.word_machine.specs.Standing.{HoldsValues, kept_values, values_at, end_of, IsInside}
use Rattle.root_words.specs.Listing.{IsWalked, AreWalkable, root_words}
use Rattle.root_words.specs.Laws.{RootsAreExact}
use Rattle.root_words.specs.Standing.{WordsHold, first_word, StackHolds, CallStands}
use Rattle.typed_heap.specs.Standing.{ObjectStands, RootsStand}
use Rattle.typed_heap.specs.Laws.{WordsAgree, TypedRootsRefer}
use Rattle.heap_calls.specs.Finding.{CallFinds}
use Rattle.heap_calls.specs.Telling.{IsRooted}

-- ---- words by their numbers

word_there : (start k : ℕ) (words : List ℕ) → word_in start words (start + 4 * k) ≡ slice_get words k
unfolding word_index
word_there start k words =
    let t : (nat_le start (start + 4 * k) && ((start + 4 * k - start) % 4 == 0)) ≡ true = grind (arith, nat_tests) in
    let e : (start + 4 * k - start) / 4 ≡ k = omega arith in
    rw (t, e) refl

static_there : (m : MemoryView) (k : ℕ) → 4 * k < 0x100000 → word_of m (statics_start + 4 * k) ≡ slice_get m.statics k
unfolding word_of
static_there m k h =
    let z : nat_le heap_start (statics_start + 4 * k) ≡ false = grind (arith, nat_tests) in
    let a : nat_le stacks_start (statics_start + 4 * k) ≡ false = grind (arith, nat_tests) in
    let b : nat_le statics_start (statics_start + 4 * k) ≡ true = grind (arith, nat_tests) in
    rw (z, a, b) (word_there statics_start k m.statics)

stack_there : (m : MemoryView) (k : ℕ) → 4 * k < 0x400000 → word_of m (stacks_start + 4 * k) ≡ slice_get m.stacks k
unfolding word_of
stack_there m k h =
    let z : nat_le heap_start (stacks_start + 4 * k) ≡ false = grind (arith, nat_tests) in
    let a : nat_le stacks_start (stacks_start + 4 * k) ≡ true = grind (arith, nat_tests) in
    rw (z, a) (word_there stacks_start k m.stacks)

heap_there : (m : MemoryView) (k : ℕ) → word_of m (heap_start + 4 * k) ≡ slice_get m.heap k
unfolding word_of
heap_there m k =
    let a : nat_le heap_start (heap_start + 4 * k) ≡ true = grind (arith, nat_tests) in
    rw a (word_there heap_start k m.heap)

-- ---- data arrays and stacks

-- a data array's number is below their count
row-low : (image : ImageParts) (d : ℕ) (row : DataRow) → data_row_in image d ≡ Some row → d < length image.arrays
unfolding data_row_in
row-low image d row e = go (slice_get image.arrays d) refl e
  where
    go : (o : Option ArrayPart) → slice_get image.arrays d ≡ o
        → option_and_then (λ (a : ArrayPart). option_map (λ place. record { place = place; kind = a.kind; length = a.size })
        (slice_get (array_places (statics_start + 4 * length image.statics) image.arrays) d)) o ≡ Some row
        → d < length image.arrays
    go None f g = absurd (cc)
    go (Some a) f g = slice_get_within image.arrays d a f

-- where it lies
array-area : (image : ImageParts) (s : State) (d : ℕ) (o : Object) → d < length image.arrays → IsInside image s d o → (statics_start ≤ o.place) × (end_of o ≤ stacks_start)
array-area image s d o few (inl (front, above, below)) = (omega (arith, above), below)
array-area image s d o few (inr (behind, above, below)) = absurd (omega (arith, few, behind))

-- an object has a word
object_long : (o : Object) → 1 ≤ length (object_values o)
unfolding object_values head_values
object_long o = go o.shape
  where
    go : (shape : ObjectShape) → 1 ≤ length (head_values shape ++ o.values)
    go (InstanceOf c) = omega arith
    go (ArrayOf k n) = omega arith

-- a data array has its row
some-at : {A : Type 0} (xs : List A) (k : ℕ) → k < length xs → (x : A) × (slice_get xs k ≡ Some x)
some-at [] k h = absurd (omega arith)
some-at (x ∷ xs) zero h = (x, refl)
some-at (x ∷ xs) (suc k) h = some-at xs k (omega (arith, h))

places-count : (address : ℕ) (arrays : List ArrayPart) → length (array_places address arrays) ≡ length arrays
unfolding array_places
places-count address [] = refl
places-count address (a ∷ arrays) = ap suc (places-count (address + 4 * array_room a) arrays)

array-row : (image : ImageParts) (d : ℕ) → d < length image.arrays → (row : DataRow) × (data_row_in image d ≡ Some row)
unfolding data_row_in
array-row image d low =
    let part = some-at image.arrays d low in
    let places = array_places (statics_start + 4 * length image.statics) image.arrays in
    let place = some-at places d (let same = places-count (statics_start + 4 * length image.statics) image.arrays in omega (arith, same, low)) in
    rw (part.1, place.1) (_, refl)

module _ {image : ImageParts} {live : ℕ → Bool} {s : State} {t : Ty} {next esp : ℕ} {m : MemoryView} {marks : List Bool} {table : List RowAt} {shapes : ShapesView}
    {kept : List StackState} (f : CallFinds image live s t next esp m marks table shapes kept) where
  -- ---- the roots

  few : image.stacks ≤ 256
  few = grind (arith, nat_tests, f.formed.condition_2)

  there : (n : ℕ) (stack : Stack) → slice_get s.stacks n ≡ Some stack → n < image.stacks
  there n stack e = let low = slice_get_within s.stacks n stack e in let count = f.typed.count in omega (arith, low, count)

  stack_holds : (n : ℕ) (values : List Value) → n < image.stacks → length values ≤ most_values → values_at s n ≡ values
      → WordsHold m.stacks (places_of s) (first_word n (length values)) values
  stack_holds n values low room is k w e =
      let held = subst (λ (xs : List Value). HoldsValues m (places_of s) (stack_pointer n (length xs)) xs) is (f.memory.stacks n low) k w e in
      let within = slice_get_within values k w e in
      let at : stack_pointer n (length values) + 4 * k ≡ stacks_start + 4 * (first_word n (length values) + k) = omega (arith, room, within) in
      sym (stack_there m (first_word n (length values) + k) (omega (arith, low, few, room, within))) ∙ (ap (word_of m) (sym at) ∙ held)

  running_values : values_at s s.current ≡ s.values
  unfolding values_at
  running_values = let same : nat_eq s.current s.current ≡ true = grind (arith, nat_tests) in rw same refl

  other-values : (n : ℕ) (stack : Stack) → slice_get s.stacks n ≡ Some stack → n ≢ s.current → values_at s n ≡ kept_values stack
  unfolding values_at
  other-values n stack e differs = let other : nat_eq n s.current ≡ false = grind (arith, nat_tests) in rw (other, e) refl

  others-hold : (n : ℕ) (stack : Stack) → slice_get s.stacks n ≡ Some stack → StackHolds m.stacks (places_of s) n stack
  unfolding kept_values
  others-hold n EmptyStack e = tt
  others-hold n RunningStack e = tt
  others-hold n (YieldedStack place values) e =
      stack_holds n values (there n _ e) (f.typed.others n _ e).room (other-values n (YieldedStack place values) e (λ is. let one = f.typed.one in absurd (cc)))
  others-hold n (InterruptedStack thread values) e =
      stack_holds n values (there n _ e) (f.typed.others n _ e).room (other-values n (InterruptedStack thread values) e (λ is. let one = f.typed.one in absurd (cc)))

  statics-hold : WordsHold m.statics (places_of s) 0 s.statics
  statics-hold k w e =
      let within = slice_get_within s.statics k w e in
      let short = f.memory.lie.short in
      let first : 0 + k ≡ k = omega arith in
      rw first (sym (static_there m k (omega (arith, within, short))) ∙ f.memory.statics k w e)

  arrays-hold : (d : ℕ) (row : DataRow) (o : Object) → data_row_in image d ≡ Some row → slice_get s.store d ≡ Some o
      → WordsHold m.statics (places_of s) ((o.place - statics_start) / 4) (object_values o)
  arrays-hold d row o e here k w g =
      let lives = f.typed.store.arrays_live d row e in
      let area = array-area image s d o (row-low image d row e) (f.memory.lie.inside d o lives here) in
      let aligned = f.memory.lie.aligned d o lives here in
      let within = slice_get_within (object_values o) k w g in
      let at : o.place + 4 * k ≡ statics_start + 4 * ((o.place - statics_start) / 4 + k) = omega (arith, area.0, aligned) in
      sym (static_there m ((o.place - statics_start) / 4 + k) (omega (arith, area.0, area.1, within))) ∙ (ap (word_of m) (sym at) ∙ f.memory.objects d o lives here k w g)

  -- the words stand for the state at the call
  call-stands : CallStands image live t next s m.statics m.stacks kept
  call-stands = record {
    typed = f.typed;
    caller = f.awaited;
    statics = statics-hold;
    arrays = arrays-hold;
    running = stack_holds s.current s.values (there s.current RunningStack f.typed.one) f.awaited.room running_values;
    others = others-hold;
    states = f.states;
  }

  -- the words that are listed
  abbrev pub listed : List ℕ
  listed = root_words marks m.statics table m.stacks kept esp next

  -- the stacks can be walked
  pub caller-walked : RootsAreExact → IsWalked table m.stacks (current_of kept) esp next
  caller-walked exact = rw (f.rows, f.pointer) (exact image live t next s m.statics m.stacks kept call-stands).walked

  pub others-walkable : RootsAreExact → AreWalkable table m.stacks 0 kept
  others-walkable exact = rw f.rows (exact image live t next s m.statics m.stacks kept call-stands).walkable

  -- ---- the heap

  object_stands : (i : ℕ) (o : Object) → live i ≡ true → length image.arrays ≤ i → slice_get s.store i ≡ Some o
      → ObjectStands (shown image).shapes (places_in s.store) m.heap o
  unfolding address
  object_stands i o lives behind here =
      let b = f.memory.blocks.objects i o lives behind here in
      record {
        block = b.block;
        placed = b.place;
        used = b.used;
        exact = b.exact;
        values = λ k w e.
            let at : o.place + 4 * k ≡ heap_start + 4 * (b.block + 2 + k) = (let place = b.place in omega (arith, place)) in
            get_or_from_slice_get m.heap (b.block + 2 + k) (Word (places_of s) w) 0
            (sym (heap_there m (b.block + 2 + k)) ∙ (ap (word_of m) (sym at) ∙ f.memory.objects i o lives here k w e));
      }

  -- the words of the heap stand for what the roots reach, and the list has the words of the roots
  pub roots-stand : RootsAreExact → TypedRootsRefer → RootsStand image s (Roots image next s) m.heap listed
  roots-stand exact refer = record {
    formed = f.formed;
    typed = f.whole;
    refer = refer image s next f.whole_type f.whole f.awaited_whole;
    stands = λ i o e behind here. object_stands i o (f.lives i e) behind here;
    lists = rw (f.marked, f.rows, f.pointer) (exact image live t next s m.statics m.stacks kept call-stands).listed;
    size = f.memory.blocks.size;
  }

  -- so the listed words are good for a collection
  pub words-good : RootsAreExact → TypedRootsRefer → WordsAgree → AllGood shapes m.heap listed
  words-good exact refer agree = rw f.classes (agree image s (Roots image next s) m.heap listed (roots-stand exact refer)).good

  -- ---- objects that are kept

  -- a data array lives, and so does what the roots reach
  pub arrays-live : (i : ℕ) → i < length image.arrays → live i ≡ true
  arrays-live i low = let row = array-row image i low in f.typed.store.arrays_live i row.0 row.1

  pub rooted-lives : (i : ℕ) → IsRooted image next s i → live i ≡ true
  rooted-lives i (inl low) = arrays-live i low
  rooted-lives i (inr reached) = f.lives i reached

  -- objects that live have differing places
  pub places-differ : (i j : ℕ) (o p : Object) → live i ≡ true → live j ≡ true → slice_get s.store i ≡ Some o → slice_get s.store j ≡ Some p → i ≢ j → o.place ≢ p.place
  places-differ i j o p lives other here there differs same =
      let lo = object_long o in
      let lp = object_long p in
      ⊎_elim
      (λ (e : end_of o ≤ p.place). omega (arith, e, same, lo))
      (λ (e : end_of p ≤ o.place). omega (arith, e, same, lp))
      (f.memory.lie.apart i j o p lives other differs here there)
