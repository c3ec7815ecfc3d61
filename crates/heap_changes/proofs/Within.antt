-- The values of a typed state refer to objects of its store, so that their words are the same over the places of more objects.
use Rattle.std.proofs.Common.{◌≡◌, ◌≢◌, ℕ, zero, suc, ◌+◌, ◌*◌, ◌<◌, ◌≤◌, ◌==◌, ◌⊎◌, inl, inr, Bool, true, false, cond, nat_eq, Option, Some, None, is_some, List, [], ◌∷◌, ◌++◌, length, map, slice_get, slice_index, arith, refl, sym, ◌∙◌, ap, subst}
use Rattle.std.specs.Option.{option_map_or}
use Rattle.std.proofs.lemmas.Bool.{false≢true}
use Rattle.std.proofs.lemmas.Bool.Decides.{nat_tests}
use Rattle.std.proofs.lemmas.List.{map-append, length-map, get_or_append_left}
use Rattle.std.proofs.lemmas.Option.{slice_get_within}
use Rattle.ia32_code.specs.declared.instruction.Reg.{Reg}
use Rattle.ia32_code.specs.declared.instruction.Reg.TheVariants.{Eax, Ecx, Edx, Ebx, Ebp, Esi, Edi}
use Rattle.stack_states.specs.declared.stack_state.StackState.{StackState}
use Rattle.object_layout.specs.declared.rows.FieldTy.{FieldTy}
use Rattle.object_layout.specs.Classes.{ShapesView}
use Rattle.tal_types.specs.declared.types.Ty.{Ty}
use Rattle.tal_types.specs.declared.types.Ty.TheVariants as ty
use Rattle.tal_types.specs.Types.{of_field}
use Rattle.tal_types.specs.Shown.{ShownImage}
use Rattle.tal_image.specs.Image.{ImageParts}
use Rattle.tal_image.specs.Shown.{shown}
use Rattle.typed_machine.specs.Values.{Value, Number, Null, Ref, Code, Ret, Tab, Desc, Word, ObjectShape, is_instance, is_array, fits_among, all_objects}
use Rattle.typed_machine.specs.Stores.{Object, Store, shapes_in, places_in}
use Rattle.typed_machine.specs.States.{State, Thread, Stack, EmptyStack, RunningStack, YieldedStack, InterruptedStack, most_values, places_of}
use Rattle.typed_machine.specs.Frames.{Scope, fits_in, FramesFit, Awaits}
use Rattle.typed_machine.specs.Typing.{ThreadFits, StackFits, TypedAmong, scope_of}
use Rattle.typed_machine.specs.Words.{stack_pointer, register_words}
use Rattle.root_words.specs.Standing.{state_by, states_by}
use Rattle.word_machine.specs.Standing.{values_at, kept_values}
use Rattle.heap_changes.specs.Laws.{StatesKeepWords, with_objects}

-- what the value refers to, if it refers, is one of the first n objects
abbrev pub Within : ℕ → Value → Type 0
Within n v = (i : ℕ) → v ≡ Ref i → i < n

-- so it is with each value of a list
abbrev pub AllWithin : ℕ → List Value → Type 0
AllWithin n values = (k : ℕ) (v : Value) → slice_get values k ≡ Some v → Within n v

-- ---- words

-- as many places as objects
pub places-long : (store : Store) → length (places_in store) ≡ length store
places-long store = length-map store (λ (o : Object). o.place)

-- a value keeps its word over more places
pub word-kept : (store more : Store) (v : Value) → Within (length store) v → Word (places_in (store ++ more)) v ≡ Word (places_in store) v
unfolding Word
word-kept store more (Ref i) h =
    let l = h i refl in
    let n = places-long store in
    ap (λ places. slice_index places i) (map-append (λ (o : Object). o.place) store more) ∙ get_or_append_left (places_in store) (places_in more) 0 i (omega arith)
word-kept store more (Number n) h = refl
word-kept store more Null h = refl
word-kept store more (Code n) h = refl
word-kept store more (Ret n) h = refl
word-kept store more (Tab n) h = refl
word-kept store more (Desc n) h = refl

-- ---- typed values

instance-there : (s : ShapesView) (o : Option ObjectShape) (c : ℕ) → is_instance s o c ≡ true → is_some o ≡ true
instance-there s None c e = absurd (false≢true e)
instance-there s (Some x) c e = refl

array-there : (o : Option ObjectShape) (k : ℕ) → is_array o k ≡ true → is_some o ≡ true
array-there None k e = absurd (false≢true e)
array-there (Some x) k e = refl

some-within : (os : List ObjectShape) (i : ℕ) → is_some (slice_get os i) ≡ true → i < length os
some-within [] i e = absurd (false≢true e)
some-within (o ∷ os) zero e = omega arith
some-within (o ∷ os) (suc i) e = let l = some-within os i e in omega arith

-- a reference that has a type is one of the objects
reference_fits : (v : ShownImage) (os : List ObjectShape) (i : ℕ) (t : Ty) → fits_among v all_objects os (Ref i) t ≡ true → i < length os
unfolding fits_among
reference_fits v os i (ty.Ref c) h = some-within os i (instance-there v.shapes (slice_get os i) c h)
reference_fits v os i (ty.Obj c) h = some-within os i (instance-there v.shapes (slice_get os i) c h)
reference_fits v os i (ty.ArrRef k) h = some-within os i (array-there (slice_get os i) k h)
reference_fits v os i (ty.Arr k) h = some-within os i (array-there (slice_get os i) k h)
reference_fits v os i ty.Junk h = some-within os i h
reference_fits v os i t h = absurd (false≢true h)

module _ (image : ImageParts) (s : State) where
  abbrev l : Scope
  l = scope_of image all_objects s

  pub fits-within : (v : Value) (t : Ty) → fits_in l v t ≡ true → Within (length s.store) v
  fits-within v t h i e =
      let n = length-map s.store (λ (o : Object). o.shape) in
      let m = reference_fits (shown image) (shapes_in s.store) i t (subst (λ w. fits_in l w t ≡ true) e h) in
      omega arith

  ret-within : (a : ℕ) → Within (length s.store) (Ret a)
  ret-within a i e = cc

  first-within : (v : Value) (values : List Value) → Within (length s.store) v → AllWithin (length s.store) values → AllWithin (length s.store) (v ∷ values)
  first-within v values h more zero w e = let q : v ≡ w = cc in subst (Within (length s.store)) q h
  first-within v values h more (suc k) w e = more k w e

  -- the values of frames
  pub frames-within : (t : Ty) (types : List Ty) (values : List Value) → FramesFit l t types values → AllWithin (length s.store) values
  frames-within t [] [] h = absurd h
  frames-within t (u ∷ us) [] h = absurd h
  frames-within t (u ∷ us) (v ∷ vs) h = first-within v vs (fits-within v u h.0) (frames-within t us vs h.1)
  frames-within t [] (Ret zero ∷ vs) h = first-within (Ret zero) vs (ret-within 0) (subst (AllWithin (length s.store)) (sym h.0) (λ k w e. absurd (nothing k w e)))
    where
      nothing : (k : ℕ) (w : Value) → slice_get [] k ≡ Some w → ⊥
      nothing k w e = cc
  frames-within t [] (Ret (suc a) ∷ vs) (c, sig, e, g, b, h) = first-within (Ret (suc a)) vs (ret-within (suc a)) (frames-within sig.result c.slots vs h)
  frames-within t [] (Number w ∷ vs) h = absurd h
  frames-within t [] (Null ∷ vs) h = absurd h
  frames-within t [] (Ref i ∷ vs) h = absurd h
  frames-within t [] (Code a ∷ vs) h = absurd h
  frames-within t [] (Tab a ∷ vs) h = absurd h
  frames-within t [] (Desc a ∷ vs) h = absurd h

  -- the values of a stack that does not run, and how many they are
  pub record StackWithin (values : List Value) : Type 0 where
    pub within : AllWithin (length s.store) values
    pub room : length values ≤ most_values

  none-within : StackWithin []
  none-within = record { within = λ k w e. absurd (nothing k w e); room = omega arith }
    where
      nothing : (k : ℕ) (w : Value) → slice_get [] k ≡ Some w → ⊥
      nothing k w e = cc

  pub stack_within : (stack : Stack) → StackFits l stack → StackWithin (kept_values stack)
  unfolding kept_values
  stack_within EmptyStack h = none-within
  stack_within RunningStack h = none-within
  stack_within (YieldedStack place values) h = record { within = frames-within h.sig.result h.context.slots values h.frames; room = h.room }
  stack_within (InterruptedStack thread values) h = record { within = frames-within h.sig.result h.context.slots values h.frames; room = h.room }

  -- the values of stack n
  pub values-within : TypedAmong image all_objects s → (n : ℕ) → StackWithin (values_at s n)
  unfolding values_at
  values-within typed n = go (n == s.current) (slice_get s.stacks n) refl
    where
      go : (b : Bool) (o : Option Stack) → slice_get s.stacks n ≡ o → StackWithin (cond b s.values (option_map_or kept_values o []))
      go true o e = record { within = frames-within typed.thread.sig.result typed.thread.context.slots s.values typed.thread.frames; room = typed.thread.room }
      go false None e = none-within
      go false (Some stack) e = stack_within stack (typed.others n stack e)

  -- the values of statics
  pub statics-within : TypedAmong image all_objects s → AllWithin (length s.store) s.statics
  statics-within typed k v e = fits-within v (of_field t.0) (typed.statics.fit k t.0 v t.1 e)
    where
      inside : k < length image.statics
      inside = let m = slice_get_within s.statics k v e in let n = typed.statics.count in omega arith

      some : (types : List FieldTy) (k : ℕ) → k < length types → (t : FieldTy) × (slice_get types k ≡ Some t)
      some [] k m = absurd (omega arith)
      some (x ∷ types) zero m = (x, refl)
      some (x ∷ types) (suc k) m = some types k (omega arith)

      t : (t : FieldTy) × (slice_get image.statics k ≡ Some t)
      t = some image.statics k inside

  -- ---- what is kept of stacks

  -- the words of registers
  registers-kept : (more : Store) (thread : Thread) (values : List Value) (esp : ℕ) → ThreadFits l thread values → register_words (places_in (s.store ++ more)) thread.regs esp ≡ register_words (places_in s.store) thread.regs esp
  registers-kept more thread values esp h =
      let k : (r : Reg) → Word (places_in (s.store ++ more)) (thread.regs r) ≡ Word (places_in s.store) (thread.regs r) = λ r. word-kept s.store more (thread.regs r) (fits-within (thread.regs r) (h.context.regs r) (h.regs r)) in
      rw (k Eax, k Ecx, k Edx, k Ebx, k Ebp, k Esi, k Edi) refl

  state-kept : (more : Store) (n : ℕ) (stack : Stack) → StackFits l stack → state_by (places_in (s.store ++ more)) n stack ≡ state_by (places_in s.store) n stack
  state-kept more n EmptyStack h = refl
  state-kept more n RunningStack h = refl
  state-kept more n (YieldedStack place values) h = refl
  state-kept more n (InterruptedStack thread values) h = rw (registers-kept more thread values (stack_pointer n (length values)) h) refl

  states_kept : (more : Store) (n : ℕ) (stacks : List Stack) → ((k : ℕ) (stack : Stack) → slice_get stacks k ≡ Some stack → StackFits l stack) → states_by (places_in (s.store ++ more)) n stacks ≡ states_by (places_in s.store) n stacks
  unfolding states_by
  states_kept more n [] h = refl
  states_kept more n (stack ∷ stacks) h = rw (state-kept more n stack (h 0 stack refl), states_kept more (n + 1) stacks (λ k x e. h (suc k) x e)) refl

pub states_keep : StatesKeepWords
states_keep image s more typed = states_kept image s more 0 s.stacks typed.others
