-- The objects that a run can come to are the least set over which a state is typed.
use Rattle.std.proofs.Common.{◌≡◌, ◌⊎◌, inl, inr, ◌↔◌, ◌<◌, ◌+◌, ◌*◌, ◌||◌, ap, ℕ, zero, suc, nat_lt, Bool, true, false, if◌then◌else◌, Option, Some, None, is_some, arith, refl, List, [], ◌∷◌, ◌++◌, length, take, slice_get, ⊎_elim}
use Rattle.std.specs.List.{flat_map}
use Rattle.std.specs.Option.{option_map, option_and_then}
use Rattle.std.proofs.lemmas.Bool.{and_parts, or_cases}
use Rattle.std.proofs.lemmas.Bool.Decides.{nat_tests}
use Rattle.std.proofs.lemmas.Option.{slice_get_within}
use Rattle.ia32_code.specs.declared.instruction.Reg.TheVariants.{Esp}
use Rattle.object_layout.specs.Classes.{ShapesView}
use Rattle.tal_types.specs.declared.types.Ty.{Ty}
use Rattle.tal_types.specs.declared.types.Ty.TheVariants as ty
use Rattle.tal_types.specs.Types.{of_field}
use Rattle.tal_types.specs.Contexts.{LiveContext, Live}
use Rattle.tal_image.specs.declared.parts.ArrayPart.{ArrayPart}
use Rattle.tal_image.specs.declared.parts.DataRow.{DataRow}
use Rattle.tal_image.specs.Image.{ImageParts}
use Rattle.tal_image.specs.Conditions.{array_places, array_room}
use Rattle.tal_image.specs.Shown.{shown, data_row_in}
use Rattle.object_layout.specs.Areas.{statics_start}
use Rattle.tal_checker.specs.Frames.{may_refer}
use Rattle.tal_checker.specs.WellTyped.{strongest_at}
use Rattle.typed_machine.specs.Values.{Value, Ref, Ret, ObjectShape, is_instance, is_array, fits_among}
use Rattle.typed_machine.specs.Stores.{Object, Store, shapes_in}
use Rattle.typed_machine.specs.States.{State, Thread, Stack, EmptyStack, RunningStack, YieldedStack, InterruptedStack}
use Rattle.typed_machine.specs.Frames.{Scope, fits_in, FramesFit}
use Rattle.typed_machine.specs.Typing.{ThreadFits, StackFits, TypedAmong, scope_of}
use Rattle.typed_machine.specs.Reaching.{names, references_of, slots_at, frame_references, value_registers, register_references, thread_references, stack_references, static_references, data_references, waiting_references, Held, Reach, live_in}
use Rattle.reached_objects.specs.ReachedFrom.{ReachedFrom, named, followed}
use Rattle.typed_safety.proofs.Naming.{names-cons, names-left, names-right, names-either, names-flat, names-flat_some, object_refers, statics-are, registers-are, field-refers}
use Rattle.typed_safety.proofs.Carrying.{EspRefersNot, slot-references, typed-carried}

-- the rounds of marks give the least set
abbrev pub ReachIsLeast : Type 0
ReachIsLeast = (s : ShapesView) (store : Store) (values : List Value) (i : ℕ) → (Reach s store values i ≡ true) ↔ ReachedFrom s store values i

-- ESP's type is junk, which refers to nothing
pub esp_refers_not : (image : ImageParts) → ((pc : ℕ) (c : LiveContext) → strongest_at image pc ≡ Live c → c.regs Esp ≡ ty.Junk) → EspRefersNot image
unfolding may_refer
esp_refers_not image junk pc c e = rw (junk pc c e) refl

-- ---- what a typed value refers to

-- an object that a value refers to by its type lives, and is in the store
fits-live : (l : Scope) (w : Value) (t : Ty) (i : ℕ) → fits_in l w t ≡ true → w ≡ Ref i → may_refer t ≡ true → (l.live i ≡ true) × (is_some (slice_get l.shapes i) ≡ true)
unfolding fits_among may_refer
fits-live l w t i h is f = go t (rw is at h) f
  where
    shaped : (o : Option ObjectShape) (d : ℕ) → is_instance (shown l.image).shapes o d ≡ true → is_some o ≡ true
    shaped None d e = absurd (cc)
    shaped (Some x) d e = refl

    arrayed : (o : Option ObjectShape) (k : ℕ) → is_array o k ≡ true → is_some o ≡ true
    arrayed None k e = absurd (cc)
    arrayed (Some x) k e = refl

    go : (t : Ty) → fits_in l (Ref i) t ≡ true → may_refer t ≡ true → (l.live i ≡ true) × (is_some (slice_get l.shapes i) ≡ true)
    go (ty.Ref d) h f = let p = and_parts (l.live i) _ h in (p.0, shaped _ d p.1)
    go (ty.Obj d) h f = let p = and_parts (l.live i) _ h in (p.0, shaped _ d p.1)
    go (ty.ArrRef k) h f = let p = and_parts (l.live i) _ h in (p.0, arrayed _ k p.1)
    go (ty.Arr k) h f = let p = and_parts (l.live i) _ h in (p.0, arrayed _ k p.1)
    go t h f = absurd (cc)

-- ---- what a typed state holds lives

-- what the references of a frame name
pub frames-live : (l : Scope) (t : Ty) (ts : List Ty) (ws : List Value) → FramesFit l t ts ws
    → (i : ℕ) → names (frame_references l.image ts ws) i ≡ true → (l.live i ≡ true) × (is_some (slice_get l.shapes i) ≡ true)
frames-live l t (u ∷ ts) [] h i e = absurd h
frames-live l t (u ∷ ts) (w ∷ ws) h i e = go (frames-live l t ts ws h.1 i) (may_refer u) refl (rw (slot-references l u ts w ws h.0) at e)
  where
    go : (names (frame_references l.image ts ws) i ≡ true → (l.live i ≡ true) × (is_some (slice_get l.shapes i) ≡ true)) → (b : Bool) → may_refer u ≡ b → names (if b then w ∷ frame_references l.image ts ws else frame_references l.image ts ws) i ≡ true
        → (l.live i ≡ true) × (is_some (slice_get l.shapes i) ≡ true)
    go rest false f g = rest g
    go rest true f g = ⊎_elim
        (λ (is : w ≡ Ref i). fits-live l w u i h.0 is f)
        rest
        (names-cons w (frame_references l.image ts ws) i g)
frames-live l t [] [] h i e = absurd h
frames-live l t [] (Ret zero ∷ ws) h i e = absurd (cc)
frames-live l t [] (Ret (suc a) ∷ ws) (d, sig, here, function, below, frames) i e = frames-live l sig.result d.slots ws frames i (rw here at e)
frames-live l t [] (w ∷ ws) h i e = absurd h

-- what a thread's do
thread_live : (l : Scope) (t : Thread) (ws : List Value) → ThreadFits l t ws
    → (i : ℕ) → names (thread_references l.image t ws) i ≡ true → (l.live i ≡ true) × (is_some (slice_get l.shapes i) ≡ true)
thread_live l t ws h i e = ⊎_elim
    (λ (f : names (register_references (strongest_at l.image t.place) t) i ≡ true).
    let r = registers-are value_registers h.context.regs t.regs i (rw h.here at f) in fits-live l (t.regs r.0) (h.context.regs r.0) i (h.regs r.0) r.2 r.1)
    (λ (f : names (frame_references l.image (slots_at l.image t.place) ws) i ≡ true). frames-live l h.sig.result h.context.slots ws h.frames i (rw h.here at f))
    (names-either (register_references (strongest_at l.image t.place) t) (frame_references l.image (slots_at l.image t.place) ws) i e)

-- and a stack's
pub stack_live : (l : Scope) (stack : Stack) → StackFits l stack
    → (i : ℕ) → names (stack_references l.image stack) i ≡ true → (l.live i ≡ true) × (is_some (slice_get l.shapes i) ≡ true)
stack_live l EmptyStack h i e = absurd (cc)
stack_live l RunningStack h i e = absurd (cc)
stack_live l (YieldedStack place ws) h i e = frames-live l h.sig.result h.context.slots ws h.frames i (rw h.here at e)
stack_live l (InterruptedStack t ws) h i e = thread_live l t ws h i e

-- what stands below a list's length
some-at : {A : Type 0} (xs : List A) (k : ℕ) → k < length xs → (x : A) × (slice_get xs k ≡ Some x)
some-at [] k h = absurd (omega arith)
some-at (x ∷ xs) zero h = (x, refl)
some-at (x ∷ xs) (suc k) h = some-at xs k (omega (arith, h))

-- what stands in a front of a list
take-read : {A : Type 0} (n : ℕ) (xs : List A) (k : ℕ) (x : A) → slice_get (take n xs) k ≡ Some x → (k < n) × (slice_get xs k ≡ Some x)
take-read zero xs k x e = absurd (cc)
take-read (suc n) [] k x e = absurd (cc)
take-read (suc n) (y ∷ xs) zero x e = (omega arith, e)
take-read (suc n) (y ∷ xs) (suc k) x e = let h = take-read n xs k x e in let l = h.0 in (omega arith, h.1)

pub take-front : {A : Type 0} (n : ℕ) (xs : List A) (k : ℕ) (x : A) → k < n → slice_get xs k ≡ Some x → slice_get (take n xs) k ≡ Some x
take-front zero xs k x h e = absurd (omega arith)
take-front (suc n) [] k x h e = e
take-front (suc n) (y ∷ xs) zero x h e = e
take-front (suc n) (y ∷ xs) (suc k) x h e = take-front n xs k x (omega (arith, h)) e

-- as many places as data arrays
places-count : (address : ℕ) (arrays : List ArrayPart) → length (array_places address arrays) ≡ length arrays
unfolding array_places
places-count address [] = refl
places-count address (a ∷ arrays) = ap suc (places-count (address + 4 * array_room a) arrays)

-- a data array has its row
pub array-row : (image : ImageParts) (d : ℕ) → d < length image.arrays → (row : DataRow) × (data_row_in image d ≡ Some row)
unfolding data_row_in
array-row image d few =
    let part = some-at image.arrays d few in
    let places = array_places (statics_start + 4 * length image.statics) image.arrays in
    let place = some-at places d (let same = places-count (statics_start + 4 * length image.statics) image.arrays in omega (arith, same, few)) in
    rw (part.1, place.1) (_, refl)

-- a data array's number is below their count
row-low : (image : ImageParts) (d : ℕ) (row : DataRow) → data_row_in image d ≡ Some row → d < length image.arrays
unfolding data_row_in
row-low image d row e = go (slice_get image.arrays d) refl e
  where
    go : (o : Option ArrayPart) → slice_get image.arrays d ≡ o
        → option_and_then (λ (a : ArrayPart). option_map (λ place. record { place = place; kind = a.kind; length = a.size })
        (slice_get (array_places (statics_start + 4 * length image.statics) image.arrays) d)) o ≡ Some row
        → d < length image.arrays
    go None f g = absurd (cc)
    go (Some a) f g = slice_get_within image.arrays d a f

-- an object whose shape is there is there
pub shape-within : (store : Store) (i : ℕ) → is_some (slice_get (shapes_in store) i) ≡ true → i < length store
shape-within [] i h = absurd (cc)
shape-within (o ∷ store) zero h = omega arith
shape-within (o ∷ store) (suc i) h = let l = shape-within store i h in omega (arith, l)

module _ (image : ImageParts) (live : ℕ → Bool) (s : State) (t : TypedAmong image live s) where
  -- what an object's references name, which lives
  pub object_live : (j i : ℕ) (o : Object) → live j ≡ true → slice_get s.store j ≡ Some o → names (references_of (shown image).shapes o) i ≡ true
      → (live i ≡ true) × (is_some (slice_get (shapes_in s.store) i) ≡ true)
  object_live j i o lives here e =
      let r = object_refers (shown image).shapes o i e in
      fits-live (scope_of image live s) (Ref i) (of_field r.1) i (t.store.fit j r.0 o r.1 (Ref i) lives here r.2 r.4) refl (rw (field-refers r.1) r.3)

  -- what the data names
  pub data_live : (i : ℕ) → names (data_references image s) i ≡ true → (live i ≡ true) × (is_some (slice_get (shapes_in s.store) i) ≡ true)
  data_live i e = ⊎_elim
      (λ (f : names (static_references image.statics s.statics) i ≡ true).
      let r = statics-are image.statics s.statics i f in
      fits-live (scope_of image live s) (Ref i) (of_field r.1) i (t.statics.fit r.0 r.1 (Ref i) r.2 r.4) refl (rw (field-refers r.1) r.3))
      (λ (f : names (flat_map (references_of (shown image).shapes) (take (length image.arrays) s.store)) i ≡ true).
      let r = names-flat_some (references_of (shown image).shapes) (take (length image.arrays) s.store) i f in
      let front = take-read (length image.arrays) s.store r.0 r.1 r.2 in
      let row = array-row image r.0 front.0 in
      object_live r.0 i r.1 (t.store.arrays_live r.0 row.0 row.1) front.1 r.3)
      (names-either (static_references image.statics s.statics) (flat_map (references_of (shown image).shapes) (take (length image.arrays) s.store)) i e)

  -- all that the state holds
  pub held-live : (i : ℕ) → names (Held image s) i ≡ true → (live i ≡ true) × (is_some (slice_get (shapes_in s.store) i) ≡ true)
  unfolding Held
  held-live i e = ⊎_elim
      (λ (f : names (data_references image s ++ thread_references image s.thread s.values) i ≡ true). ⊎_elim
      (λ (g : names (data_references image s) i ≡ true). data_live i g)
      (λ (g : names (thread_references image s.thread s.values) i ≡ true). thread_live (scope_of image live s) s.thread s.values t.thread i g)
      (names-either (data_references image s) (thread_references image s.thread s.values) i f))
      (λ (f : names (waiting_references image s) i ≡ true).
      let r = names-flat_some (stack_references image) s.stacks i f in stack_live (scope_of image live s) r.1 (t.others r.0 r.1 r.2) i r.3)
      (names-either (data_references image s ++ thread_references image s.thread s.values) (waiting_references image s) i e)

-- ---- the objects that a run can come to

-- a data array lives, and what is reached does
pub array-lives : (image : ImageParts) (s : State) (i : ℕ) → i < length image.arrays → live_in image s i ≡ true
unfolding live_in
array-lives image s i few = let front : nat_lt i (length image.arrays) ≡ true = grind (arith, nat_tests) in rw front refl

pub reached-lives : (image : ImageParts) (s : State) (i : ℕ) → Reach (shown image).shapes s.store (Held image s) i ≡ true → live_in image s i ≡ true
unfolding live_in
reached-lives image s i e = go (nat_lt i (length image.arrays))
  where
    go : (b : Bool) → (b || Reach (shown image).shapes s.store (Held image s) i) ≡ true
    go true = refl
    go false = e

-- there are no others
pub live-cases : (image : ImageParts) (s : State) (i : ℕ) → live_in image s i ≡ true
    → (i < length image.arrays) ⊎ (Reach (shown image).shapes s.store (Held image s) i ≡ true)
unfolding live_in
live-cases image s i e = ⊎_elim
    (λ (front : nat_lt i (length image.arrays) ≡ true). inl (grind (arith, nat_tests)))
    (λ (reached : Reach (shown image).shapes s.store (Held image s) i ≡ true). inr reached)
    (or_cases (nat_lt i (length image.arrays)) _ e)

-- they are the least: where a state is typed among some, they are among those
pub live-least : (image : ImageParts) → ReachIsLeast → (live : ℕ → Bool) (s : State) → TypedAmong image live s → (i : ℕ) → live_in image s i ≡ true → live i ≡ true
live-least image reaches live s t i e = ⊎_elim
    (λ (front : i < length image.arrays). let row = array-row image i front in t.store.arrays_live i row.0 row.1)
    (λ (reached : Reach (shown image).shapes s.store (Held image s) i ≡ true). from i ((reaches (shown image).shapes s.store (Held image s) i).0 reached))
    (live-cases image s i e)
  where
    from : (j : ℕ) → ReachedFrom (shown image).shapes s.store (Held image s) j → live j ≡ true
    from j (named k few h) = (held-live image live s t j h).0
    from j (followed k n o r here few h) = (object_live image live s t k j o (from k r) here h).0

module _ (image : ImageParts) (reaches : ReachIsLeast) (s : State) where
  -- what the state holds lives
  held-lives : (i : ℕ) → i < length s.store → names (Held image s) i ≡ true → live_in image s i ≡ true
  held-lives i few e = reached-lives image s i ((reaches (shown image).shapes s.store (Held image s) i).1 (named i few e))

  -- the parts of what it holds
  array-held : (j i : ℕ) (o : Object) → j < length image.arrays → slice_get s.store j ≡ Some o → names (references_of (shown image).shapes o) i ≡ true → names (Held image s) i ≡ true
  unfolding Held
  array-held j i o front here e =
      names-left (data_references image s ++ thread_references image s.thread s.values) (waiting_references image s) i
      (names-left (data_references image s) (thread_references image s.thread s.values) i
      (names-right (static_references image.statics s.statics) (flat_map (references_of (shown image).shapes) (take (length image.arrays) s.store)) i
      (names-flat (references_of (shown image).shapes) (take (length image.arrays) s.store) j i o (take-front (length image.arrays) s.store j o front here) e)))

  thread_held : (i : ℕ) → names (thread_references image s.thread s.values) i ≡ true → names (Held image s) i ≡ true
  unfolding Held
  thread_held i e =
      names-left (data_references image s ++ thread_references image s.thread s.values) (waiting_references image s) i
      (names-right (data_references image s) (thread_references image s.thread s.values) i e)

  stack_held : (n i : ℕ) (stack : Stack) → slice_get s.stacks n ≡ Some stack → names (stack_references image stack) i ≡ true → names (Held image s) i ≡ true
  unfolding Held
  stack_held n i stack here e =
      names-right (data_references image s ++ thread_references image s.thread s.values) (waiting_references image s) i (names-flat (stack_references image) s.stacks n i stack here e)

  statics-held : (i : ℕ) → names (static_references image.statics s.statics) i ≡ true → names (Held image s) i ≡ true
  unfolding Held
  statics-held i e =
      names-left (data_references image s ++ thread_references image s.thread s.values) (waiting_references image s) i
      (names-left (data_references image s) (thread_references image s.thread s.values) i
      (names-left (static_references image.statics s.statics) (flat_map (references_of (shown image).shapes) (take (length image.arrays) s.store)) i e))

  -- what is held by an object that lives, too: of a data array it is held by the state
  object_lives : (j i : ℕ) (o : Object) → live_in image s j ≡ true → slice_get s.store j ≡ Some o → i < length s.store → names (references_of (shown image).shapes o) i ≡ true
      → live_in image s i ≡ true
  object_lives j i o lives here few e = ⊎_elim
      (λ (front : j < length image.arrays). held-lives i few (array-held j i o front here e))
      (λ (reached : Reach (shown image).shapes s.store (Held image s) j ≡ true).
      let from = (reaches (shown image).shapes s.store (Held image s) j).0 reached in
      reached-lives image s i ((reaches (shown image).shapes s.store (Held image s) i).1 (followed j i o from here few e)))
      (live-cases image s j lives)

  -- a typed state is typed among them
  pub typed-among : EspRefersNot image → (live : ℕ → Bool) → TypedAmong image live s → TypedAmong image (live_in image s) s
  typed-among esp live t =
      typed-carried image esp live (live_in image s) (live_in image s) s
      (record { there = λ i shape e. e; kept = λ i lives h. h })
      t
      (λ i e. lives i (thread_held i e))
      (λ n stack here i e. lives i (stack_held n i stack here e))
      (λ i e. lives i (statics-held i e))
      (λ d row e. array-lives image s d (row-low image d row e))
      (λ i o here at. let was = live-least image reaches live s t i here in
      (was, λ k e. object_lives i k o here at (shape-within s.store k (object_live image live s t i k o was at e).1) e))
    where
      lives : (i : ℕ) → names (Held image s) i ≡ true → live_in image s i ≡ true
      lives i e = held-lives i (shape-within s.store i (held-live image live s t i e).1) e
