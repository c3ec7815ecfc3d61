-- What typing says of a state over some objects, it says over others, too, that have the objects which the state holds.
use Rattle.std.proofs.Common.{◌≡◌, ◌&&◌, ℕ, zero, suc, Bool, true, false, if◌then◌else◌, Option, Some, None, is_some, arith, refl, List, [], ◌∷◌, slice_get}
use Rattle.std.proofs.lemmas.Bool.{and_parts}
use Rattle.ia32_code.specs.declared.instruction.Reg.TheVariants.{Esp}
use Rattle.object_layout.specs.declared.rows.FieldTy.{FieldTy}
use Rattle.tal_types.specs.declared.types.Ty.{Ty}
use Rattle.tal_types.specs.declared.types.Ty.TheVariants as ty
use Rattle.tal_types.specs.declared.types.FlagKind.{FlagKind}
use Rattle.tal_types.specs.declared.types.FlagKind.TheVariants as kind
use Rattle.tal_types.specs.Types.{of_field}
use Rattle.tal_types.specs.Contexts.{LiveContext, Live}
use Rattle.tal_image.specs.declared.parts.DataRow.{DataRow}
use Rattle.tal_image.specs.Image.{ImageParts}
use Rattle.tal_image.specs.Shown.{shown, data_row_in}
use Rattle.tal_checker.specs.Frames.{may_refer}
use Rattle.tal_checker.specs.WellTyped.{strongest_at}
use Rattle.typed_machine.specs.Values.{Value, Number, Null, Ref, Code, Ret, Tab, Desc, ObjectShape, is_instance, is_array, fits_among}
use Rattle.typed_machine.specs.Stores.{Object, shapes_in, value_type}
use Rattle.typed_machine.specs.States.{State, Thread, Stack, EmptyStack, RunningStack, YieldedStack, InterruptedStack}
use Rattle.typed_machine.specs.Frames.{Scope, fits_in, FramesFit, Awaits}
use Rattle.typed_machine.specs.Typing.{BoundTold, KindTold, ThreadFits, StackFits, StaticsFit, TypedAmong}
use Rattle.typed_machine.specs.Reaching.{names, references_of, slots_at, frame_references, register_references, thread_references, stack_references, static_references}
use Rattle.typed_safety.proofs.Naming.{names-first, names-rest, names-left, names-right, object_has, statics-have, registers-have, field-refers}

-- the set has what the values name
abbrev pub HeldBy : (ℕ → Bool) → List Value → Type 0
HeldBy held values = (i : ℕ) → names values i ≡ true → held i ≡ true

-- ESP's type where the context is live refers to nothing
abbrev pub EspRefersNot : ImageParts → Type 0
EspRefersNot image = (pc : ℕ) (c : LiveContext) → strongest_at image pc ≡ Live c → may_refer (c.regs Esp) ≡ false

-- Objects with their shapes are there, too, and those that live and are held live there.
pub record Carries (live more : ℕ → Bool) (os ps : List ObjectShape) (held : ℕ → Bool) : Type 0 where
  pub there : (i : ℕ) (shape : ObjectShape) → slice_get os i ≡ Some shape → slice_get ps i ≡ Some shape
  pub kept : (i : ℕ) → live i ≡ true → held i ≡ true → more i ≡ true

-- the references of a frame whose first slot's value has the slot's type
pub slot-references : (l : Scope) (t : Ty) (ts : List Ty) (w : Value) (ws : List Value) → fits_in l w t ≡ true
    → frame_references l.image (t ∷ ts) (w ∷ ws) ≡ (if may_refer t then w ∷ frame_references l.image ts ws else frame_references l.image ts ws)
unfolding fits_among
slot-references l t ts (Ret a) ws h = absurd (grind arith)
slot-references l t ts w ws h = refl

module _ (image : ImageParts) (live more : ℕ → Bool) (os ps : List ObjectShape) (held : ℕ → Bool) (c : Carries live more os ps held) where
  abbrev l : Scope
  l = record { image = image; live = live; shapes = os }

  abbrev m : Scope
  m = record { image = image; live = more; shapes = ps }

  -- an object that passes a test of its shape passes it there
  reference_carried : (i : ℕ) (test : Option ObjectShape → Bool) → test None ≡ false → (live i && test (slice_get os i)) ≡ true → held i ≡ true
      → (more i && test (slice_get ps i)) ≡ true
  reference_carried i test none h g = let parts = and_parts (live i) (test (slice_get os i)) h in go (slice_get os i) refl parts.1 (c.kept i parts.0 g)
    where
      go : (o : Option ObjectShape) → slice_get os i ≡ o → test o ≡ true → more i ≡ true → (more i && test (slice_get ps i)) ≡ true
      go None e f g = absurd (cc)
      go (Some shape) e f g = rw (g, c.there i shape e, f) refl

  -- an object is there
  junk_carried : (i : ℕ) → is_some (slice_get os i) ≡ true → is_some (slice_get ps i) ≡ true
  junk_carried i h = go (slice_get os i) refl h
    where
      go : (o : Option ObjectShape) → slice_get os i ≡ o → is_some o ≡ true → is_some (slice_get ps i) ≡ true
      go None e f = absurd (cc)
      go (Some shape) e f = rw (c.there i shape e) refl

  -- a value keeps its type, where what it refers to by that type is held
  pub value-carried : (w : Value) (t : Ty) → fits_in l w t ≡ true → ((i : ℕ) → w ≡ Ref i → may_refer t ≡ true → held i ≡ true) → fits_in m w t ≡ true
  unfolding fits_among may_refer
  value-carried (Ref i) (ty.Ref d) h g = reference_carried i (λ o. is_instance (shown image).shapes o d) refl h (g i refl refl)
  value-carried (Ref i) (ty.Obj d) h g = reference_carried i (λ o. is_instance (shown image).shapes o d) refl h (g i refl refl)
  value-carried (Ref i) (ty.ArrRef k) h g = reference_carried i (λ o. is_array o k) refl h (g i refl refl)
  value-carried (Ref i) (ty.Arr k) h g = reference_carried i (λ o. is_array o k) refl h (g i refl refl)
  value-carried (Ref i) ty.Junk h g = junk_carried i h
  value-carried (Ref i) t h g = absurd (cc)
  value-carried (Number n) t h g = grind arith
  value-carried Null t h g = grind arith
  value-carried (Code a) t h g = grind arith
  value-carried (Ret a) t h g = absurd (grind arith)
  value-carried (Tab d) t h g = grind arith
  value-carried (Desc k) t h g = grind arith

  -- ---- frames and threads

  -- what the slot's value refers to is held, and what the others do
  slot-held : (t : Ty) (w : Value) (ws : List Value) → HeldBy held (if may_refer t then w ∷ ws else ws) → (i : ℕ) → w ≡ Ref i → may_refer t ≡ true → held i ≡ true
  slot-held t w ws g i is f = rw f at g i (names-first w ws i is)

  rest-held : (t : Ty) (w : Value) (ws : List Value) → HeldBy held (if may_refer t then w ∷ ws else ws) → HeldBy held ws
  rest-held t w ws g = go (may_refer t) g
    where
      go : (b : Bool) → HeldBy held (if b then w ∷ ws else ws) → HeldBy held ws
      go true g = λ i e. g i (names-rest w ws i e)
      go false g = g

  -- frames
  pub frames-carried : (t : Ty) (ts : List Ty) (ws : List Value) → FramesFit l t ts ws → HeldBy held (frame_references image ts ws) → FramesFit m t ts ws
  frames-carried t (u ∷ ts) [] h g = h
  frames-carried t (u ∷ ts) (w ∷ ws) h g =
      let e = slot-references l u ts w ws h.0 in
      let g' : HeldBy held (if may_refer u then w ∷ frame_references image ts ws else frame_references image ts ws) = rw e at g in
      (value-carried w u h.0 (slot-held u w (frame_references image ts ws) g'), frames-carried t ts ws h.1 (rest-held u w (frame_references image ts ws) g'))
  frames-carried t [] [] h g = h
  frames-carried t [] (Ret zero ∷ ws) h g = h
  frames-carried t [] (Ret (suc a) ∷ ws) (d, sig, here, function, below, frames) g =
      (d, sig, here, function, below, frames-carried sig.result d.slots ws frames (rw here at g))
  frames-carried t [] (w ∷ ws) h g = h

  -- what the flags tell, pairs and heads speak of shapes alone
  bound-carried : (v w : Value) (flag : Bool) → BoundTold os v w flag → BoundTold ps v w flag
  bound-carried v w flag h = record {
    number = h.number;
    array = h.array;
    kind = h.kind;
    size = h.size;
    is_number = h.is_number;
    is_array = h.is_array;
    is_long = c.there h.array _ h.is_long;
    tells = h.tells;
  }

  told-carried : (t : Thread) (k : FlagKind) → KindTold l t k → KindTold m t k
  told-carried t (kind.Bound i a) h = bound-carried _ _ _ h
  told-carried t (kind.IsA r d) h =
      record { object = h.object; class = h.class; is_object = h.is_object; is_of = c.there h.object _ h.is_of; tells = h.tells }
  told-carried t k h = h

  -- a thread
  pub thread_carried : EspRefersNot image → (t : Thread) (ws : List Value) → ThreadFits l t ws → HeldBy held (thread_references image t ws) → ThreadFits m t ws
  thread_carried esp t ws h g = record {
    context = h.context;
    sig = h.sig;
    here = h.here;
    function = h.function;
    regs = λ r. value-carried (t.regs r) (h.context.regs r) (h.regs r) (λ i is f.
        g i (names-left (register_references (strongest_at image t.place) t) _ i
        (rw h.here (registers-have h.context.regs t.regs i r (esp t.place h.context h.here) f is))));
    pairs = λ i a known. record { told = bound-carried _ _ _ (h.pairs i a known).told };
    heads = λ d r known. let e = h.heads d r known in
        record { class = e.class; object = e.object; is_table = e.is_table; is_object = e.is_object; is_of = c.there e.object _ e.is_of };
    conditions = h.conditions;
    told = told-carried t h.context.kind h.told;
    frames = frames-carried h.sig.result h.context.slots ws h.frames (λ i e.
        g i (names-right (register_references (strongest_at image t.place) t) (frame_references image (slots_at image t.place) ws) i (rw h.here e)));
    room = h.room;
  }

  -- a reply that is awaited
  pub awaits-carried : (t : Ty) (place : ℕ) (ws : List Value) → Awaits l t place ws → HeldBy held (frame_references image (slots_at image place) ws) → Awaits m t place ws
  awaits-carried t place ws h g = record {
    context = h.context;
    sig = h.sig;
    here = h.here;
    function = h.function;
    below = h.below;
    frames = frames-carried h.sig.result h.context.slots ws h.frames (rw h.here at g);
    room = h.room;
  }

  -- a stack
  pub stack_carried : EspRefersNot image → (stack : Stack) → StackFits l stack → HeldBy held (stack_references image stack) → StackFits m stack
  stack_carried esp EmptyStack h g = h
  stack_carried esp RunningStack h g = h
  stack_carried esp (YieldedStack place ws) h g = awaits-carried ty.Num place ws h g
  stack_carried esp (InterruptedStack t ws) h g = thread_carried esp t ws h g

  -- the statics
  pub statics-carried : (ws : List Value) → StaticsFit l ws → HeldBy held (static_references image.statics ws) → StaticsFit m ws
  statics-carried ws h g = record {
    count = h.count;
    fit = λ j t w e f. value-carried w (of_field t) (h.fit j t w e f) (λ i is refers.
        g i (statics-have image.statics ws j i t e (rw (field-refers t) at refers) (rw is at f)));
  }

  -- a value of an object whose references are held
  pub field-carried : (j : ℕ) (o : Object) (t : FieldTy) (w : Value) → fits_in l w (of_field t) ≡ true → value_type (shown image).shapes o.shape j ≡ Some t
      → slice_get o.values j ≡ Some w → HeldBy held (references_of (shown image).shapes o) → fits_in m w (of_field t) ≡ true
  field-carried j o t w h e f g = value-carried w (of_field t) h (λ i is refers.
      g i (object_has (shown image).shapes o j i t e (rw (field-refers t) at refers) (rw is at f)))

-- a state whose store is as it was, where what it holds is held, and so is what the objects hold that are spoken of there
pub typed-carried : (image : ImageParts) → EspRefersNot image → (live more held : ℕ → Bool) (s : State) → Carries live more (shapes_in s.store) (shapes_in s.store) held
    → TypedAmong image live s
    → HeldBy held (thread_references image s.thread s.values) → ((n : ℕ) (stack : Stack) → slice_get s.stacks n ≡ Some stack → HeldBy held (stack_references image stack))
    → HeldBy held (static_references image.statics s.statics)
    → ((d : ℕ) (row : DataRow) → data_row_in image d ≡ Some row → more d ≡ true)
    → ((i : ℕ) (o : Object) → more i ≡ true → slice_get s.store i ≡ Some o → (live i ≡ true) × HeldBy held (references_of (shown image).shapes o))
    → TypedAmong image more s
typed-carried image esp live more held s c t thread stacks statics arrays objects = record {
  thread = thread_carried image live more _ _ held c esp s.thread s.values t.thread thread;
  others = λ n stack e. stack_carried image live more _ _ held c esp stack (t.others n stack e) (stacks n stack e);
  one = t.one;
  only = t.only;
  kernel = t.kernel;
  count = t.count;
  statics = statics-carried image live more _ _ held c s.statics t.statics statics;
  store = record {
    shapes = refl;
    arrays = t.store.arrays;
    arrays_live = arrays;
    there = t.store.there;
    counts = t.store.counts;
    placed = t.store.placed;
    fit = λ i j o u w lives here e f. let both = objects i o lives here in
        field-carried image live more _ _ held c j o u w (t.store.fit i j o u w both.0 here e f) e f both.1;
  };
}
