-- States against what is known before an instruction.
use Rattle.std.proofs.Common.{◌&&◌, ◌||◌, ◌≡◌, ◌≤◌, ℕ, Bool, true, false, Some, arith, refl, subst, List, length, slice_get}
use Rattle.std.proofs.lemmas.Bool.Decides.{nat_tests}
use Rattle.ia32_code.specs.declared.instruction.Reg.{Reg}
use Rattle.ia32_code.specs.declared.instruction.Cond.{Cond}
use Rattle.object_layout.specs.Laws.{ClassLaws}
use Rattle.tal_types.specs.declared.types.Ty.{Ty}
use Rattle.tal_types.specs.declared.types.FlagKind.{FlagKind}
use Rattle.tal_types.specs.declared.types.FlagKind.TheVariants.{Lost}
use Rattle.tal_types.specs.declared.signatures.Sig.{Sig}
use Rattle.tal_types.specs.Contexts.{LiveContext, Live, LiveBelow, kind_below, same}
use Rattle.tal_types.specs.Laws.{TypeLaws}
use Rattle.tal_flow.specs.Edges.{allows}
use Rattle.tal_image.specs.Image.{ImageParts}
use Rattle.tal_image.specs.Shown.{shown}
use Rattle.tal_checker.specs.WellTyped.{strongest_at}
use Rattle.tal_checker.specs.Running.{signature_at}
use Rattle.typed_machine.specs.Values.{Value, ObjectShape}
use Rattle.typed_machine.specs.States.{State, Thread, Stack, RunningStack, Known, most_values, at_place}
use Rattle.typed_machine.specs.Effects.{is_known}
use Rattle.typed_machine.specs.Frames.{Scope, fits_in, FramesFit}
use Rattle.typed_machine.specs.Typing.{KindTold, IsPair, IsHead, StackFits, StaticsFit, StoreFits, KernelWaits, scope_of, TypedAmong}
use Rattle.typed_safety.proofs.Scopes.{rows}
use Rattle.typed_safety.proofs.Values.{fits-sub}
use Rattle.typed_safety.proofs.Frames.{frames-sub}

-- what is known of a thread and its values is so: types, pairs and heads of registers, what the flags tell, and the slots;
-- the function's result has the given type
pub record ThreadKnown (l : Scope) (result : Ty) (c : LiveContext) (t : Thread) (values : List Value) : Type 0 where
  pub regs : (r : Reg) → fits_in l (t.regs r) (c.regs r) ≡ true
  pub pairs : (i a : Reg) → c.pairs i a ≡ true → IsPair l.shapes (t.regs i) (t.regs a)
  pub heads : (h r : Reg) → c.heads h r ≡ true → IsHead l.shapes (t.regs h) (t.regs r)
  pub conditions : (a : Cond) → allows c.kind a ≡ true → is_known t.known a ≡ true
  pub told : KindTold l t c.kind
  pub frames : FramesFit l result c.slots values
  pub room : length values ≤ most_values

-- the stacks of the table fit, of which one runs
pub record TableFits (l : Scope) (current : ℕ) (stacks : List Stack) : Type 0 where
  pub others : (n : ℕ) (stack : Stack) → slice_get stacks n ≡ Some stack → StackFits l stack
  pub one : slice_get stacks current ≡ Some RunningStack
  pub only : (n : ℕ) → slice_get stacks n ≡ Some RunningStack → n ≡ current
  pub kernel : KernelWaits current (slice_get stacks 0)
  pub count : length stacks ≡ l.image.stacks

-- a state fits a context: its thread does, and stacks, statics and store are typed
pub record StateFits (l : Scope) (result : Ty) (c : LiveContext) (s : State) : Type 0 where
  pub thread : ThreadKnown l result c s.thread s.values
  pub table : TableFits l s.current s.stacks
  pub statics : StaticsFit l s.statics
  pub store : StoreFits l s.store

-- ---- typed states are those that fit the strongest context at their place

module _ (image : ImageParts) (live : ℕ → Bool) (s : State) where
  -- a typed state fits it
  pub typed-fits : (t : TypedAmong image live s) → StateFits (scope_of image live s) t.thread.sig.result t.thread.context s
  typed-fits t = record {
    thread = record {
      regs = t.thread.regs;
      pairs = t.thread.pairs;
      heads = t.thread.heads;
      conditions = t.thread.conditions;
      told = t.thread.told;
      frames = t.thread.frames;
      room = t.thread.room;
    };
    table = record { others = t.others; one = t.one; only = t.only; kernel = t.kernel; count = t.count };
    statics = t.statics;
    store = t.store;
  }

  -- a state that fits it over its own shapes is typed
  own-typed : (c : LiveContext) (sig : Sig) → strongest_at image s.thread.place ≡ Live c → signature_at image s.thread.place ≡ Some sig
      → StateFits (scope_of image live s) sig.result c s → TypedAmong image live s
  own-typed c sig here function h = record {
    thread = record {
      context = c;
      sig = sig;
      here = here;
      function = function;
      regs = h.thread.regs;
      pairs = h.thread.pairs;
      heads = h.thread.heads;
      conditions = h.thread.conditions;
      told = h.thread.told;
      frames = h.thread.frames;
      room = h.thread.room;
    };
    others = h.table.others;
    one = h.table.one;
    only = h.table.only;
    kernel = h.table.kernel;
    count = h.table.count;
    statics = h.statics;
    store = h.store;
  }

  -- a state that fits it is typed
  pub fits-typed : (os : List ObjectShape) (c : LiveContext) (sig : Sig) → strongest_at image s.thread.place ≡ Live c → signature_at image s.thread.place ≡ Some sig
      → StateFits (record { image = image; live = live; shapes = os }) sig.result c s → TypedAmong image live s
  fits-typed os c sig here function h =
      own-typed c sig here function (subst (λ xs. StateFits (record { image = image; live = live; shapes = xs }) sig.result c s) h.store.shapes h)

-- ---- contexts above

-- a higher kind allows no further condition
pub kind_below-allows : (j k : FlagKind) (a : Cond) → kind_below j k ≡ true → allows k a ≡ true → allows j a ≡ true
unfolding allows kind_below
kind_below-allows j k a e h = grind arith

-- what a kind tells, a higher one tells
kind_below-told : TypeLaws → (l : Scope) (t : Thread) (j k : FlagKind) → kind_below j k ≡ true → KindTold l t j → KindTold l t k
unfolding kind_below
kind_below-told types l t j k e h = grind (arith, nat_tests, types.same_or_not)

-- a kind above the lost one tells nothing
pub lost-told : (l : Scope) (t : Thread) (k : FlagKind) → kind_below Lost k ≡ true → KindTold l t k
unfolding kind_below
lost-told l t k e = grind arith

-- a state that fits a context fits each one above it
pub context_above : TypeLaws → (l : Scope) (result : Ty) → ClassLaws (rows l) → (c d : LiveContext) (s : State) → LiveBelow (rows l) c d
    → StateFits l result c s → StateFits l result d s
context_above types l result laws c d s e h = record {
  thread = record {
    regs = λ r. fits-sub (shown l.image) l.live l.shapes laws _ _ _ (h.thread.regs r) (e.regs r);
    pairs = λ i a known. h.thread.pairs i a (e.pairs i a known);
    heads = λ t r known. h.thread.heads t r (e.heads t r known);
    conditions = λ a allowed. h.thread.conditions a (kind_below-allows c.kind d.kind a e.kind allowed);
    told = kind_below-told types l s.thread c.kind d.kind e.kind h.thread.told;
    frames = frames-sub l result laws c.slots d.slots s.values e.slots h.thread.frames;
    room = h.thread.room;
  };
  table = h.table;
  statics = h.statics;
  store = h.store;
}

-- a kind tells the same whatever the place is, and whichever conditions are known
pub told-kept : (l : Scope) (t : Thread) (known : Known) (place : ℕ) (k : FlagKind) → KindTold l t k → KindTold l (record t { known = known; place = place }) k
told-kept l t known place k h = grind arith

-- a state fits at each place what it fits at one
pub place-fits : (l : Scope) (result : Ty) (c : LiveContext) (s : State) (to : ℕ) → StateFits l result c s → StateFits l result c (at_place to s)
place-fits l result c s to h = record {
  thread = record {
    regs = h.thread.regs;
    pairs = h.thread.pairs;
    heads = h.thread.heads;
    conditions = h.thread.conditions;
    told = told-kept l s.thread s.thread.known to c.kind h.thread.told;
    frames = h.thread.frames;
    room = h.thread.room;
  };
  table = h.table;
  statics = h.statics;
  store = h.store;
}

-- a state fits another context where its thread does
pub thread_fits : (l : Scope) (result : Ty) (c d : LiveContext) (s : State) → StateFits l result c s → ThreadKnown l result d s.thread s.values → StateFits l result d s
thread_fits l result c d s h known = record { thread = known; table = h.table; statics = h.statics; store = h.store }

-- what holds of two registers and of those that are related holds where the two are related, too
pub also_related : TypeLaws → (P : Reg → Reg → Type 0) (related : Reg → Reg → Bool) (r q : Reg) → P r q → ((i a : Reg) → related i a ≡ true → P i a)
    → (i a : Reg) → (same i r && same a q) || related i a ≡ true → P i a
also_related types P related r q is known i a = go (same i r) refl (same a q) refl
  where
    go : (x : Bool) → same i r ≡ x → (y : Bool) → same a q ≡ y → (x && y) || related i a ≡ true → P i a
    go true e true f h = rw (types.same_told i r e, types.same_told a q f) is
    go true e false f h = known i a h
    go false e y f h = known i a h
