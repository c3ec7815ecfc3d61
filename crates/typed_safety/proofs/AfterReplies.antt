-- What a state after a call of the heap holds and reaches.
use Rattle.std.proofs.Common.{◌≡◌, ◌≢◌, ◌⊎◌, inl, inr, sym, ap, ◌<◌, ◌≤◌, ◌||◌, ◌==◌, ℕ, zero, suc, nat_lt, Bool, true, false, if◌then◌else◌, Option, Some, None, is_some, arith, refl, List, [], ◌∷◌, ◌++◌, length, map, take, slice_get, ⊎_elim, length-append}
use Rattle.std.specs.List.{flat_map}
use Rattle.std.specs.Option.{option_map_or}
use Rattle.std.proofs.lemmas.Bool.{or_cases}
use Rattle.std.proofs.lemmas.Bool.Decides.{nat_tests}
use Rattle.std.proofs.lemmas.Option.{slice_get_within}
use Rattle.ia32_code.specs.declared.instruction.Reg.{Reg}
use Rattle.ia32_code.specs.declared.instruction.Reg.TheVariants.{Eax}
use Rattle.object_layout.specs.declared.rows.FieldTy.{FieldTy}
use Rattle.object_layout.specs.Classes.{ShapesView, Fields, Element}
use Rattle.tal_types.specs.declared.types.Ty.{Ty}
use Rattle.tal_types.specs.Contexts.{ContextView, Dead, Live, same}
use Rattle.tal_image.specs.Image.{ImageParts}
use Rattle.tal_image.specs.Shown.{shown}
use Rattle.tal_checker.specs.WellTyped.{strongest_at}
use Rattle.typed_machine.specs.Values.{Value, all_objects, Number, Null, Ref, ObjectShape, InstanceOf, ArrayOf}
use Rattle.typed_machine.specs.Stores.{Object, Store, shapes_in, zero_of}
use Rattle.typed_machine.specs.States.{State, fresh_thread}
use Rattle.typed_machine.specs.Frames.{Awaits}
use Rattle.typed_machine.specs.Typing.{TypedAmong, scope_of}
use Rattle.typed_machine.specs.Placing.{Placed, fresh_values, fresh_object, allocated}
use Rattle.typed_machine.specs.Turns.{comes_back}
use Rattle.typed_machine.specs.Reaching.{names, references_of, slots_at, frame_references, value_registers, register_references, thread_references, stack_references, static_references, data_references, waiting_references, Held, Roots, Reach, rooted, live_in}
use Rattle.reached_objects.specs.ReachedFrom.{ReachedFrom, named, followed}
use Rattle.typed_safety.proofs.Naming.{names-left, names-right, names-either, names-flat, names-flat_some, registers-are, object_refers}
use Rattle.typed_safety.proofs.Living.{ReachIsLeast, take-front, frames-live, stack_live, object_live, data_live, array-row, shape-within, live-cases}
use Rattle.typed_safety.proofs.Growing.{stood_or_last}
use Rattle.typed_safety.proofs.FirstStates.{copy-read}

-- ---- the roots

-- the data arrays are rooted, and what is reached from the roots is
pub array-rooted : (image : ImageParts) (next : ℕ) (s : State) (i : ℕ) → i < length image.arrays → rooted image next s i ≡ true
unfolding rooted
array-rooted image next s i few = let front : nat_lt i (length image.arrays) ≡ true = grind (arith, nat_tests) in rw front refl

pub reached-rooted : (image : ImageParts) (next : ℕ) (s : State) (i : ℕ) → Reach (shown image).shapes s.store (Roots image next s) i ≡ true → rooted image next s i ≡ true
unfolding rooted
reached-rooted image next s i e = go (nat_lt i (length image.arrays))
  where
    go : (b : Bool) → (b || Reach (shown image).shapes s.store (Roots image next s) i) ≡ true
    go true = refl
    go false = e

-- there are no others
pub rooted-cases : (image : ImageParts) (next : ℕ) (s : State) (i : ℕ) → rooted image next s i ≡ true
    → (i < length image.arrays) ⊎ (Reach (shown image).shapes s.store (Roots image next s) i ≡ true)
unfolding rooted
rooted-cases image next s i e = ⊎_elim
    (λ (front : nat_lt i (length image.arrays) ≡ true). inl (grind (arith, nat_tests)))
    (λ (reached : Reach (shown image).shapes s.store (Roots image next s) i ≡ true). inr reached)
    (or_cases (nat_lt i (length image.arrays)) _ e)

-- what a data array's references name, the roots name
array-roots : (image : ImageParts) (next : ℕ) (s : State) (j i : ℕ) (o : Object) → j < length image.arrays → slice_get s.store j ≡ Some o
    → names (references_of (shown image).shapes o) i ≡ true → names (Roots image next s) i ≡ true
unfolding Roots
array-roots image next s j i o front here e =
    names-left (data_references image s ++ frame_references image (slots_at image next) s.values) (waiting_references image s) i
    (names-left (data_references image s) (frame_references image (slots_at image next) s.values) i
    (names-right (static_references image.statics s.statics) (flat_map (references_of (shown image).shapes) (take (length image.arrays) s.store)) i
    (names-flat (references_of (shown image).shapes) (take (length image.arrays) s.store) j i o (take-front (length image.arrays) s.store j o front here) e)))

-- what the roots name lives, where a reply is awaited
roots-live : (image : ImageParts) (live : ℕ → Bool) (s : State) (t : TypedAmong image live s) (u : Ty) (next : ℕ) → Awaits (scope_of image live s) u next s.values
    → (i : ℕ) → names (Roots image next s) i ≡ true → (live i ≡ true) × (is_some (slice_get (shapes_in s.store) i) ≡ true)
unfolding Roots
roots-live image live s t u next a i e = ⊎_elim
    (λ (f : names (data_references image s ++ frame_references image (slots_at image next) s.values) i ≡ true). ⊎_elim
    (λ (g : names (data_references image s) i ≡ true). data_live image live s t i g)
    (λ (g : names (frame_references image (slots_at image next) s.values) i ≡ true). frames-live (scope_of image live s) a.sig.result a.context.slots s.values a.frames i (rw a.here at g))
    (names-either (data_references image s) (frame_references image (slots_at image next) s.values) i f))
    (λ (f : names (waiting_references image s) i ≡ true).
    let r = names-flat_some (stack_references image) s.stacks i f in stack_live (scope_of image live s) r.1 (t.others r.0 r.1 r.2) i r.3)
    (names-either (data_references image s ++ frame_references image (slots_at image next) s.values) (waiting_references image s) i e)

-- so does what is reached from them
pub rooted-live : (image : ImageParts) → ReachIsLeast → (live : ℕ → Bool) (s : State) (t : TypedAmong image live s) (u : Ty) (next : ℕ) → Awaits (scope_of image live s) u next s.values
    → (i : ℕ) → rooted image next s i ≡ true → live i ≡ true
rooted-live image reaches live s t u next a i e = ⊎_elim
    (λ (front : i < length image.arrays). let row = array-row image i front in t.store.arrays_live i row.0 row.1)
    (λ (reached : Reach (shown image).shapes s.store (Roots image next s) i ≡ true). from i ((reaches (shown image).shapes s.store (Roots image next s) i).0 reached))
    (rooted-cases image next s i e)
  where
    from : (j : ℕ) → ReachedFrom (shown image).shapes s.store (Roots image next s) j → live j ≡ true
    from j (named k few h) = (roots-live image live s t u next a j h).0
    from j (followed k n o r here few h) = (object_live image live s t k j o (from k r) here h).0

-- ---- after the reply

-- a fresh thread's registers hold the reply, and numbers
fresh-holds : (reply : Value) (place : ℕ) (r : Reg) (i : ℕ) → (fresh_thread reply place).regs r ≡ Ref i → reply ≡ Ref i
fresh-holds reply place r i e = go (same r Eax) e
  where
    go : (b : Bool) → (if b then reply else Number 0) ≡ Ref i → reply ≡ Ref i
    go true f = f
    go false f = absurd (cc)

-- what the state after a reply holds is the reply or a root
pub held-after : (image : ImageParts) (s : State) (next : ℕ) (reply : Value) (i : ℕ) → names (Held image (comes_back reply next s)) i ≡ true
    → (reply ≡ Ref i) ⊎ (names (Roots image next s) i ≡ true)
unfolding Held Roots
held-after image s next reply i e = ⊎_elim
    (λ (f : names (data_references image s ++ thread_references image (fresh_thread reply next) s.values) i ≡ true). ⊎_elim
    (λ (g : names (data_references image s) i ≡ true).
    inr (names-left (data_references image s ++ frame_references image (slots_at image next) s.values) (waiting_references image s) i
    (names-left (data_references image s) (frame_references image (slots_at image next) s.values) i g)))
    (λ (g : names (thread_references image (fresh_thread reply next) s.values) i ≡ true). ⊎_elim
    (λ (h : names (register_references (strongest_at image next) (fresh_thread reply next)) i ≡ true). inl (register (strongest_at image next) h))
    (λ (h : names (frame_references image (slots_at image next) s.values) i ≡ true).
    inr (names-left (data_references image s ++ frame_references image (slots_at image next) s.values) (waiting_references image s) i
    (names-right (data_references image s) (frame_references image (slots_at image next) s.values) i h)))
    (names-either (register_references (strongest_at image next) (fresh_thread reply next)) (frame_references image (slots_at image next) s.values) i g))
    (names-either (data_references image s) (thread_references image (fresh_thread reply next) s.values) i f))
    (λ (f : names (waiting_references image s) i ≡ true).
    inr (names-right (data_references image s ++ frame_references image (slots_at image next) s.values) (waiting_references image s) i f))
    (names-either (data_references image s ++ thread_references image (fresh_thread reply next) s.values) (waiting_references image s) i e)
  where
    register : (c : ContextView) → names (register_references c (fresh_thread reply next)) i ≡ true → reply ≡ Ref i
    register Dead h = absurd (cc)
    register (Live c) h = let r = registers-are value_registers c.regs (fresh_thread reply next).regs i h in fresh-holds reply next r.0 i r.2

-- what is reached from values is reached from others that name as much
reached-more : (s : ShapesView) (store : Store) (ws vs : List Value) → ((i : ℕ) → names ws i ≡ true → names vs i ≡ true) → (i : ℕ) → ReachedFrom s store ws i → ReachedFrom s store vs i
reached-more s store ws vs more i (named k few h) = named i few (more i h)
reached-more s store ws vs more i (followed k n o r here few h) = followed k i o (reached-more s store ws vs more k r) here few h

-- a reply that is no object reaches what the roots reach
pub reached-after : (image : ImageParts) → ReachIsLeast → (s : State) (next : ℕ) (reply : Value) → ((k : ℕ) → reply ≢ Ref k)
    → (i : ℕ) → live_in image (comes_back reply next s) i ≡ true → rooted image next s i ≡ true
reached-after image reaches s next reply none i e = ⊎_elim
    (λ (front : i < length image.arrays). array-rooted image next s i front)
    (λ (reached : Reach (shown image).shapes s.store (Held image (comes_back reply next s)) i ≡ true).
    let from = (reaches (shown image).shapes s.store (Held image (comes_back reply next s)) i).0 reached in
    let more : (k : ℕ) → names (Held image (comes_back reply next s)) k ≡ true → names (Roots image next s) k ≡ true =
    λ k h. ⊎_elim (λ (is : reply ≡ Ref k). absurd (none k is)) (λ (g : names (Roots image next s) k ≡ true). g) (held-after image s next reply k h) in
    reached-rooted image next s i ((reaches (shown image).shapes s.store (Roots image next s) i).1 (reached-more (shown image).shapes s.store _ _ more i from)))
    (live-cases image (comes_back reply next s) i e)

-- ---- a fresh object

-- its values refer to nothing
zero-refers-not : (t : FieldTy) (i : ℕ) → zero_of t ≢ Ref i
unfolding zero_of
zero-refers-not t i e = grind arith

some-value : {A : Type 0} (f : A → Value) (xs : List A) (k : ℕ) (w : Value) → slice_get (map f xs) k ≡ Some w → (x : A) × (f x ≡ w)
some-value f [] k w e = absurd (cc)
some-value f (x ∷ xs) zero w e = (x, cc)
some-value f (x ∷ xs) (suc k) w e = some-value f xs k w e

fresh-refers-not : (v : ShapesView) (shape : ObjectShape) (k i : ℕ) → slice_get (fresh_values v shape) k ≢ Some (Ref i)
fresh-refers-not v (InstanceOf c) k i e = let x = some-value zero_of (Fields v c) k (Ref i) e in zero-refers-not x.0 i x.1
fresh-refers-not v (ArrayOf c n) k i e = element (Element v c) (copy-read n k (option_map_or zero_of (Element v c) Null) (Ref i) e)
  where
    element : (o : Option FieldTy) → option_map_or zero_of o Null ≢ Ref i
    element None f = absurd (cc)
    element (Some t) f = zero-refers-not t i f

fresh-names-not : (v : ShapesView) (shape : ObjectShape) (a i : ℕ) → names (references_of v (fresh_object v shape a)) i ≢ true
fresh-names-not v shape a i e = let r = object_refers v (fresh_object v shape a) i e in fresh-refers-not v shape r.0 i r.4

-- the roots of a state with an object more
take-same : {A : Type 0} (n : ℕ) (xs ys : List A) → n ≤ length xs → take n (xs ++ ys) ≡ take n xs
take-same zero xs ys h = refl
take-same (suc n) [] ys h = absurd (omega arith)
take-same (suc n) (x ∷ xs) ys h = ap (λ zs. x ∷ zs) (take-same n xs ys (omega (arith, h)))

roots-same : (image : ImageParts) (next : ℕ) (s : State) (shape : ObjectShape) (a : ℕ) → length image.arrays ≤ length s.store
    → Roots image next (allocated (shown image).shapes shape (Placed a) s) ≡ Roots image next s
unfolding Roots
roots-same image next s shape a few = rw (take-same (length image.arrays) s.store (fresh_object (shown image).shapes shape a ∷ []) few) refl

-- the data arrays are in the store
arrays-there : (image : ImageParts) (live : ℕ → Bool) (s : State) → TypedAmong image live s → length image.arrays ≤ length s.store
arrays-there image live s t = go (length image.arrays) (omega arith)
  where
    go : (n : ℕ) → n ≤ length image.arrays → n ≤ length s.store
    go zero h = omega arith
    go (suc n) h =
        let row = array-row image n (omega (arith, h)) in
        let here = (t.store.arrays n row.0 row.1).here in
        let low = slice_get_within s.store n _ here in
        omega (arith, low)

-- with a fresh object nothing more is reached than it and what the roots reach
pub placed-after : (image : ImageParts) → ReachIsLeast → (s : State) → TypedAmong image all_objects s → (next : ℕ) (shape : ObjectShape) (a i : ℕ)
    → live_in image (comes_back (Ref (length s.store)) next (allocated (shown image).shapes shape (Placed a) s)) i ≡ true
    → (rooted image next s i ≡ true) ⊎ (i ≡ length s.store)
placed-after image reaches s t next shape a i e = ⊎_elim
    (λ (front : i < length image.arrays). inl (array-rooted image next s i front))
    (λ (reached : Reach (shown image).shapes grown (Held image after) i ≡ true). from i ((reaches (shown image).shapes grown (Held image after) i).0 reached))
    (live-cases image after i e)
  where
    grown : Store
    grown = s.store ++ fresh_object (shown image).shapes shape a ∷ []

    after : State
    after = comes_back (Ref (length s.store)) next (allocated (shown image).shapes shape (Placed a) s)

    arrays : length image.arrays ≤ length s.store
    arrays = arrays-there image all_objects s t

    -- an object other than the fresh one was there
    within : (j : ℕ) → j < length grown → j ≢ length s.store → j < length s.store
    within j few other = let whole = length-append s.store (fresh_object (shown image).shapes shape a ∷ []) in omega (arith, whole, few, other)

    root : (j : ℕ) → j < length grown → names (Roots image next s) j ≡ true → (rooted image next s j ≡ true) ⊎ (j ≡ length s.store)
    root j few h = go (j == length s.store) refl
      where
        go : (b : Bool) → (j == length s.store) ≡ b → (rooted image next s j ≡ true) ⊎ (j ≡ length s.store)
        go true f = inr (grind (arith, nat_tests))
        go false f = inl (reached-rooted image next s j ((reaches (shown image).shapes s.store (Roots image next s) j).1 (named j (within j few (λ same. grind (arith, nat_tests))) h)))

    -- what a rooted object refers to is rooted
    next-rooted : (k j : ℕ) (o : Object) → rooted image next s k ≡ true → slice_get s.store k ≡ Some o → j < length s.store → names (references_of (shown image).shapes o) j ≡ true
        → rooted image next s j ≡ true
    next-rooted k j o is here few h = ⊎_elim
        (λ (front : k < length image.arrays).
        reached-rooted image next s j ((reaches (shown image).shapes s.store (Roots image next s) j).1 (named j few (array-roots image next s k j o front here h))))
        (λ (reached : Reach (shown image).shapes s.store (Roots image next s) k ≡ true).
        reached-rooted image next s j ((reaches (shown image).shapes s.store (Roots image next s) j).1
        (followed k j o ((reaches (shown image).shapes s.store (Roots image next s) k).0 reached) here few h)))
        (rooted-cases image next s k is)

    from : (j : ℕ) → ReachedFrom (shown image).shapes grown (Held image after) j → (rooted image next s j ≡ true) ⊎ (j ≡ length s.store)
    from j (named k few h) = ⊎_elim
        (λ (is : Ref (length s.store) ≡ Ref j). inr (let same : length s.store ≡ j = cc in sym same))
        (λ (g : names (Roots image next (allocated (shown image).shapes shape (Placed a) s)) j ≡ true). root j few (rw (roots-same image next s shape a arrays) at g))
        (held-after image (allocated (shown image).shapes shape (Placed a) s) next (Ref (length s.store)) j h)
    from j (followed k n o r here few h) = ⊎_elim
        (λ (old : slice_get s.store k ≡ Some o).
        let there = slice_get_within s.store k o old in
        let low = shape-within s.store j (object_live image all_objects s t k j o refl old h).1 in
        ⊎_elim
        (λ (is : rooted image next s k ≡ true). inl (next-rooted k j o is old low h))
        (λ (is : k ≡ length s.store). absurd (omega (arith, is, there)))
        (from k r))
        (λ (new : (k ≡ length s.store) × (o ≡ fresh_object (shown image).shapes shape a)). absurd (fresh-names-not (shown image).shapes shape a j (rw new.1 at h)))
        (stood_or_last s.store (fresh_object (shown image).shapes shape a) k o here)
