-- The roots of a typed state are null or objects.
use Rattle.std.proofs.Common.{◌≡◌, ℕ, zero, suc, ◌+◌, ◌<◌, ◌≤◌, ◌⊎◌, inl, inr, Bool, true, false, cond, if◌then◌else◌, Option, Some, None, List, [], ◌∷◌, ◌++◌, length, map, take, slice_get, arith, refl, sym, ◌∙◌, ap, subst}
use Rattle.std.specs.List.{flat_map}
use Rattle.std.specs.Option.{option_map_or}
use Rattle.std.proofs.lemmas.Bool.{false≢true}
use Rattle.std.proofs.lemmas.Bool.Decides.{nat_tests}
use Rattle.std.proofs.lemmas.Option.{slice_get_within}
use Rattle.std.proofs.lemmas.List.{length-map}
use Rattle.ia32_code.specs.declared.instruction.Reg.{Reg}
use Rattle.object_layout.specs.declared.rows.FieldTy.{FieldTy}
use Rattle.object_layout.specs.declared.rows.FieldTy.TheVariants as field
use Rattle.object_layout.specs.Classes.{ShapesView, is_reference}
use Rattle.tal_types.specs.declared.types.Ty.{Ty}
use Rattle.tal_types.specs.declared.types.Ty.TheVariants as ty
use Rattle.tal_types.specs.Types.{of_field}
use Rattle.tal_types.specs.Shown.{ShownImage}
use Rattle.tal_types.specs.Contexts.{ContextView, Live}
use Rattle.tal_image.specs.Image.{ImageParts}
use Rattle.tal_image.specs.Shown.{shown}
use Rattle.tal_checker.specs.Frames.{may_refer}
use Rattle.tal_checker.specs.WellTyped.{strongest_at}
use Rattle.typed_machine.specs.Values.{Value, Number, Null, Ref, Code, Ret, Tab, Desc, ObjectShape, is_instance, is_array, fits_among, all_objects}
use Rattle.typed_machine.specs.Stores.{Object, Store, shapes_in, value_type}
use Rattle.typed_machine.specs.States.{State, Thread, Stack, EmptyStack, RunningStack, YieldedStack, InterruptedStack}
use Rattle.typed_machine.specs.Frames.{Scope, fits_in, FramesFit, Awaits}
use Rattle.typed_machine.specs.Typing.{ThreadFits, StackFits, TypedAmong, scope_of}
use Rattle.typed_machine.specs.Reaching.{names, references_from, references_of, referring, slots_of, slots_at, frame_references, value_registers, register_references, thread_references, stack_references, static_references, data_references, waiting_references, Roots}
use Rattle.typed_heap.specs.Standing.{refers_within, RootsRefer}
use Rattle.typed_heap.specs.Laws.{TypedRootsRefer}
use Rattle.typed_heap.proofs.Lists.{names-left, names-right}
use Rattle.typed_heap.proofs.Facts.{reference_there}

-- each value of the list is null, or one of the first n objects
abbrev AllRefer : ℕ → List Value → Type 0
AllRefer n [] = Unit {0}
AllRefer n (v ∷ values) = (refers_within n v ≡ true) × AllRefer n values

all-append : (n : ℕ) (u v : List Value) → AllRefer n u → AllRefer n v → AllRefer n (u ++ v)
all-append n [] v h g = g
all-append n (x ∷ u) v h g = (h.0, all-append n u v h.1 g)

all-get : (n : ℕ) (values : List Value) → AllRefer n values → (k : ℕ) (v : Value) → slice_get values k ≡ Some v → refers_within n v ≡ true
all-get n [] h k v e = cc
all-get n (w ∷ values) h zero v e = let q : w ≡ v = cc in subst (λ x. refers_within n x ≡ true) q h.0
all-get n (w ∷ values) h (suc k) v e = all-get n values h.1 k v e

all-each : {X : Type 0} (n : ℕ) (f : X → List Value) (xs : List X) → ((i : ℕ) (x : X) → slice_get xs i ≡ Some x → AllRefer n (f x)) → AllRefer n (flat_map f xs)
all-each n f [] h = tt
all-each n f (x ∷ xs) h = all-append n (f x) (flat_map f xs) (h 0 x refl) (all-each n f xs (λ i y e. h (suc i) y e))

-- the first things of a list
take-get : {X : Type 0} (n i : ℕ) (xs : List X) (x : X) → slice_get (take n xs) i ≡ Some x → slice_get xs i ≡ Some x
take-get zero i xs x e = cc
take-get (suc n) i [] x e = cc
take-get (suc n) zero (y ∷ xs) x e = e
take-get (suc n) (suc i) (y ∷ xs) x e = take-get n i xs x e

get-take : {X : Type 0} (n i : ℕ) (xs : List X) (x : X) → i < n → slice_get xs i ≡ Some x → slice_get (take n xs) i ≡ Some x
get-take zero i xs x l e = absurd (omega arith)
get-take (suc n) i [] x l e = cc
get-take (suc n) zero (y ∷ xs) x l e = e
get-take (suc n) (suc i) (y ∷ xs) x l e = get-take n i xs x (omega arith) e

-- what a part of a list of references names, the whole does
each-names : {X : Type 0} (f : X → List Value) (xs : List X) (i j : ℕ) (x : X) → slice_get xs i ≡ Some x → names (f x) j ≡ true → names (flat_map f xs) j ≡ true
each-names f [] i j x e h = cc
each-names f (y ∷ xs) zero j x e h = let q : y ≡ x = cc in names-left (f y) (flat_map f xs) j (rw q h)
each-names f (y ∷ xs) (suc i) j x e h = names-right (f y) (flat_map f xs) j (each-names f xs i j x e h)

-- ---- one value

-- a value of a type of references is null or an object
fits-refers : (v : ShownImage) (store : Store) (w : Value) (t : Ty) → may_refer t ≡ true → fits_among v all_objects (shapes_in store) w t ≡ true → refers_within (length store) w ≡ true
unfolding fits_among may_refer
fits-refers v store (Ref i) (ty.Ref c) m h = reference_there v store i (ty.Ref c) m h
fits-refers v store (Ref i) (ty.Obj c) m h = reference_there v store i (ty.Obj c) m h
fits-refers v store (Ref i) (ty.ArrRef k) m h = reference_there v store i (ty.ArrRef k) m h
fits-refers v store (Ref i) (ty.Arr k) m h = reference_there v store i (ty.Arr k) m h
fits-refers v store Null t m h = refl
fits-refers v store w (ty.Ref c) m h = absurd (false≢true h)
fits-refers v store w (ty.Obj c) m h = absurd (false≢true h)
fits-refers v store w (ty.ArrRef c) m h = absurd (false≢true h)
fits-refers v store w (ty.Arr c) m h = absurd (false≢true h)
fits-refers v store w t m h = absurd (false≢true m)

-- the type of a reference field is one of references
field-refers : (t : FieldTy) → is_reference t ≡ true → may_refer (of_field t) ≡ true
unfolding is_reference may_refer of_field
field-refers field.Num h = absurd (false≢true h)
field-refers (field.Ref c) h = refl
field-refers (field.ArrRef c) h = refl
field-refers (field.Fun c) h = absurd (false≢true h)

-- no return place has a type
ret-fits : (v : ShownImage) (os : List ObjectShape) (a : ℕ) (t : Ty) → fits_among v all_objects os (Ret a) t ≡ true → ⊥
unfolding fits_among
ret-fits v os a t h = false≢true h

module _ (image : ImageParts) (s : State) where
  abbrev l : Scope
  l = scope_of image all_objects s

  abbrev n : ℕ
  n = length s.store

  -- ---- frames and registers

  slot : (values : List Value) (t : Ty) (types : List Ty) (v : Value) → fits_in l v t ≡ true → AllRefer n (frame_references image types values) → AllRefer n (if may_refer t then v ∷ frame_references image types values else frame_references image types values)
  slot values t types v h more = go (may_refer t) refl
    where
      go : (b : Bool) → may_refer t ≡ b → AllRefer n (cond b (v ∷ frame_references image types values) (frame_references image types values))
      go true e = (fits-refers (shown image) s.store v t e h, more)
      go false e = more

  frames : (t : Ty) (types : List Ty) (values : List Value) → FramesFit l t types values → AllRefer n (frame_references image types values)
  frames t [] [] h = tt
  frames t (u ∷ us) [] h = tt
  frames t (u ∷ us) (Ret a ∷ vs) h = absurd (ret-fits (shown image) l.shapes a u h.0)
  frames t (u ∷ us) (Number w ∷ vs) h = slot vs u us (Number w) h.0 (frames t us vs h.1)
  frames t (u ∷ us) (Null ∷ vs) h = slot vs u us Null h.0 (frames t us vs h.1)
  frames t (u ∷ us) (Ref i ∷ vs) h = slot vs u us (Ref i) h.0 (frames t us vs h.1)
  frames t (u ∷ us) (Code a ∷ vs) h = slot vs u us (Code a) h.0 (frames t us vs h.1)
  frames t (u ∷ us) (Tab a ∷ vs) h = slot vs u us (Tab a) h.0 (frames t us vs h.1)
  frames t (u ∷ us) (Desc a ∷ vs) h = slot vs u us (Desc a) h.0 (frames t us vs h.1)
  frames t [] (Ret zero ∷ vs) h = tt
  frames t [] (Ret (suc a) ∷ vs) (c, sig, e, g, b, h) = subst (λ x. AllRefer n (frame_references image (slots_of x) vs)) (sym e) (frames sig.result c.slots vs h)
  frames t [] (Number w ∷ vs) h = absurd h
  frames t [] (Null ∷ vs) h = absurd h
  frames t [] (Ref i ∷ vs) h = absurd h
  frames t [] (Code a ∷ vs) h = absurd h
  frames t [] (Tab a ∷ vs) h = absurd h
  frames t [] (Desc a ∷ vs) h = absurd h

  -- the frames at a place where a reply is awaited
  awaited : (t : Ty) (place : ℕ) (values : List Value) → Awaits l t place values → AllRefer n (frame_references image (slots_at image place) values)
  awaited t place values a = subst (λ x. AllRefer n (frame_references image (slots_of x) values)) (sym a.here) (frames a.sig.result a.context.slots values a.frames)

  registers : (f : Reg → Ty) (g : Reg → Value) (rs : List Reg) → ((r : Reg) → fits_in l (g r) (f r) ≡ true) → AllRefer n (referring (map f rs) (map g rs))
  registers f g [] h = tt
  registers f g (r ∷ rs) h = go (may_refer (f r)) refl (registers f g rs h)
    where
      go : (b : Bool) → may_refer (f r) ≡ b → AllRefer n (referring (map f rs) (map g rs)) → AllRefer n (cond b (g r ∷ referring (map f rs) (map g rs)) (referring (map f rs) (map g rs)))
      go true e more = (fits-refers (shown image) s.store (g r) (f r) e (h r), more)
      go false e more = more

  thread : (t : Thread) (values : List Value) → ThreadFits l t values → AllRefer n (thread_references image t values)
  thread t values h =
      all-append n (register_references (strongest_at image t.place) t) (frame_references image (slots_at image t.place) values) (subst (λ x. AllRefer n (register_references x t)) (sym h.here) (registers h.context.regs t.regs value_registers h.regs))
      (subst (λ x. AllRefer n (frame_references image (slots_of x) values)) (sym h.here) (frames h.sig.result h.context.slots values h.frames))

  stack : (k : Stack) → StackFits l k → AllRefer n (stack_references image k)
  stack EmptyStack h = tt
  stack RunningStack h = tt
  stack (YieldedStack place values) h = awaited ty.Num place values h
  stack (InterruptedStack t values) h = thread t values h

  -- ---- data

  statics-refer : (types : List FieldTy) (values : List Value) → ((j : ℕ) (t : FieldTy) (w : Value) → slice_get types j ≡ Some t → slice_get values j ≡ Some w → fits_in l w (of_field t) ≡ true) → AllRefer n (static_references types values)
  statics-refer [] values h = tt
  statics-refer (t ∷ types) [] h = tt
  statics-refer (t ∷ types) (v ∷ values) h = go (is_reference t) refl (statics-refer types values (λ j u w a b. h (suc j) u w a b))
    where
      go : (b : Bool) → is_reference t ≡ b → AllRefer n (static_references types values) → AllRefer n (cond b (v ∷ static_references types values) (static_references types values))
      go true e more = (fits-refers (shown image) s.store v (of_field t) (field-refers t e) (h 0 t v refl refl), more)
      go false e more = more

  fields-refer : (x : ObjectShape) (j : ℕ) (values : List Value) → ((m : ℕ) (t : FieldTy) (w : Value) → value_type (shown image).shapes x (j + m) ≡ Some t → is_reference t ≡ true → slice_get values m ≡ Some w → refers_within n w ≡ true)
      → AllRefer n (references_from (shown image).shapes x j values)
  fields-refer x j [] h = tt
  fields-refer x j (v ∷ values) h = go (value_type (shown image).shapes x j) refl (fields-refer x (j + 1) values (λ m t w a b e. h (suc m) t w (ap (value_type (shown image).shapes x) (let q : j + suc m ≡ j + 1 + m = omega arith in q) ∙ a) b e))
    where
      here : (t : FieldTy) → value_type (shown image).shapes x j ≡ Some t → is_reference t ≡ true → refers_within n v ≡ true
      here t e r = h 0 t v (ap (value_type (shown image).shapes x) (let q : j + 0 ≡ j = omega arith in q) ∙ e) r refl

      test : (t : FieldTy) (b : Bool) → value_type (shown image).shapes x j ≡ Some t → is_reference t ≡ b → AllRefer n (references_from (shown image).shapes x (j + 1) values)
          → AllRefer n (cond b (v ∷ references_from (shown image).shapes x (j + 1) values) (references_from (shown image).shapes x (j + 1) values))
      test t true e r more = (here t e r, more)
      test t false e r more = more

      go : (o : Option FieldTy) → value_type (shown image).shapes x j ≡ o → AllRefer n (references_from (shown image).shapes x (j + 1) values)
          → AllRefer n (cond (option_map_or is_reference o false) (v ∷ references_from (shown image).shapes x (j + 1) values) (references_from (shown image).shapes x (j + 1) values))
      go None e more = more
      go (Some t) e more = test t (is_reference t) e refl more

  data_refer : TypedAmong image all_objects s → AllRefer n (data_references image s)
  data_refer typed =
      all-append n (static_references image.statics s.statics) (flat_map (references_of (shown image).shapes) (take (length image.arrays) s.store)) (statics-refer image.statics s.statics typed.statics.fit)
      (all-each n (references_of (shown image).shapes) (take (length image.arrays) s.store) (λ i o e. let g = take-get (length image.arrays) i s.store o e in
      fields-refer o.shape 0 o.values (λ m t w a b d. fits-refers (shown image) s.store w (of_field t) (field-refers t b) (typed.store.fit i m o t w refl g (ap (value_type (shown image).shapes o.shape) (let q : m ≡ 0 + m = omega arith in q) ∙ a) d))))

pub roots-refer : TypedRootsRefer
unfolding Roots
roots-refer image s next t typed awaits = record {
  there = all-get (length s.store) (data_references image s ++ frame_references image (slots_at image next) s.values ++ waiting_references image s) all;
  arrays = λ i j o l e h. names-left (data_references image s ++ frame_references image (slots_at image next) s.values) (waiting_references image s) j
      (names-left (data_references image s) (frame_references image (slots_at image next) s.values) j
      (names-right (static_references image.statics s.statics) (flat_map (references_of (shown image).shapes) (take (length image.arrays) s.store)) j
      (each-names (references_of (shown image).shapes) (take (length image.arrays) s.store) i j o (get-take (length image.arrays) i s.store o l e) h)));
}
  where
    all : AllRefer (length s.store) (data_references image s ++ frame_references image (slots_at image next) s.values ++ waiting_references image s)
    all = all-append (length s.store) (data_references image s ++ frame_references image (slots_at image next) s.values) (waiting_references image s)
        (all-append (length s.store) (data_references image s) (frame_references image (slots_at image next) s.values) (data_refer image s typed) (awaited image s t next s.values awaits))
        (all-each (length s.store) (stack_references image) s.stacks (λ i k e. stack image s k (typed.others i k e)))
