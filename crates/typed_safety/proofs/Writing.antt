-- A state that fits still fits when an operand gets a value of a type that may be stored there.
use Rattle.std.proofs.Common.{◌≡◌, ◌≤◌, ◌||◌, ◌⊎◌, inl, inr, ℕ, zero, suc, Bool, true, false, if◌then◌else◌, Option, Some, None, arith, refl, sym, ◌∙◌, ap, subst, List, [], ◌∷◌, length, slice_get, slice_set, ⊎_elim}
use Rattle.std.specs.Option.{option_and_then, option_map_or}
use Rattle.std.proofs.lemmas.List.{length-set}
use Rattle.std.proofs.lemmas.Option.{slice_get-map}
use Rattle.ia32_code.specs.declared.instruction.Reg.{Reg}
use Rattle.ia32_code.specs.declared.instruction.Cond.{Cond}
use Rattle.ia32_code.specs.declared.instruction.Operand.{Operand}
use Rattle.ia32_code.specs.declared.instruction.Operand.TheVariants.{R, M, I}
use Rattle.object_layout.specs.declared.rows.FieldTy.{FieldTy}
use Rattle.tal_types.specs.declared.types.Ty.{Ty}
use Rattle.tal_types.specs.declared.types.FlagKind.{FlagKind}
use Rattle.tal_types.specs.declared.types.FlagKind.TheVariants as kind
use Rattle.tal_types.specs.Types.{of_field, sub}
use Rattle.tal_types.specs.Contexts.{LiveContext, same}
use Rattle.tal_types.specs.Shown.{ShownImage}
use Rattle.tal_flow.specs.declared.places.Place.{Place}
use Rattle.tal_flow.specs.declared.places.Place.TheVariants.{Whole, Slot}
use Rattle.tal_flow.specs.Places.{is_writable, takes, spares_esp, writable, storable, operand_place}
use Rattle.tal_flow.specs.Afterwards.{kind_without, without, write, with_slots, store_place, store}
use Rattle.tal_flow.specs.Edges.{allows}
use Rattle.tal_image.specs.declared.parts.DataRow.{DataRow}
use Rattle.tal_image.specs.Shown.{shown}
use Rattle.typed_machine.specs.Values.{Value}
use Rattle.typed_machine.specs.Stores.{Object, Store, value_type, shapes_in, set_value, with_value}
use Rattle.typed_machine.specs.States.{State, Thread, with_register, with_values, most_values}
use Rattle.typed_machine.specs.Operands.{Spot, AtStatic, AtSlot, AtValue, may_hold, type_there, write_spot, write_operand}
use Rattle.typed_machine.specs.Frames.{Scope, fits_in, FramesFit}
use Rattle.typed_machine.specs.Typing.{KindTold, IsArray, StaticsFit, StoreFits}
use Rattle.typed_safety.specs.Laws.{ImageLaws}
use Rattle.typed_safety.proofs.Scopes.{rows, resolved, place_of, spot_in}
use Rattle.typed_safety.proofs.Values.{fits-sub, fits-all}
use Rattle.typed_safety.proofs.Frames.{frames-set}
use Rattle.typed_safety.proofs.Fitted.{ThreadKnown, StateFits}
use Rattle.typed_safety.proofs.Spots.{value_type_at, SpotFits, SpotFound, spot-found}

-- ---- registers

-- a thread whose register r has a value
abbrev pub set_in : Reg → Value → Thread → Thread
set_in r w t = record t { regs = λ q. (if same q r then w else t.regs q) }

-- a register's new kind allows no further condition
pub kind_without-allows : (r : Reg) (k : FlagKind) (a : Cond) → allows (kind_without r k) a ≡ true → allows k a ≡ true
unfolding allows kind_without
kind_without-allows r k a h = grind arith

-- what a kind tells of other registers is still so
pub kind_without-told : (l : Scope) (t : Thread) (r : Reg) (w : Value) (k : FlagKind) → KindTold l t k → KindTold l (set_in r w t) (kind_without r k)
unfolding kind_without
kind_without-told l t r w kind.Lost h = tt
kind_without-told l t r w kind.Eq h = tt
kind_without-told l t r w kind.Num h = tt
kind_without-told l t r w (kind.NullTest q) h = go (same q r) refl
  where
    go : (b : Bool) → same q r ≡ b → KindTold l (set_in r w t) (if b then kind.Eq else kind.NullTest q)
    go true e = tt
    go false e = rw e h
kind_without-told l t r w (kind.Bound i a) h = go (same i r) refl (same a r) refl
  where
    go : (b : Bool) → same i r ≡ b → (d : Bool) → same a r ≡ d → KindTold l (set_in r w t) (if b || d then kind.Num else kind.Bound i a)
    go true e d f = tt
    go false e true f = tt
    go false e false f = rw (e, f) h
kind_without-told l t r w (kind.IsA q d) h = go (same q r) refl
  where
    go : (b : Bool) → same q r ≡ b → KindTold l (set_in r w t) (if b then kind.Eq else kind.IsA q d)
    go true e = tt
    go false e = rw e h

-- registers that are still related, r among neither
without-parts : (r i a : Reg) (pairs : Reg → Reg → Bool) → without r pairs i a ≡ true → (same i r ≡ false) × (same a r ≡ false) × (pairs i a ≡ true)
without-parts r i a pairs h = (grind arith, grind arith, grind arith)

module _ (l : Scope) (result : Ty) (c : LiveContext) where
  -- a register gets a value of the type
  pub register-known : (t : Thread) (values : List Value) (r : Reg) (w : Value) (u : Ty) → ThreadKnown l result c t values → fits_in l w u ≡ true
      → ThreadKnown l result (write r u c) (set_in r w t) values
  unfolding write
  register-known t values r w u h f = record {
    regs = λ q. typed q (same q r) refl;
    pairs = λ i a known. let parts = without-parts r i a c.pairs known in rw (parts.0, parts.1) (h.pairs i a parts.2);
    heads = λ i a known. let parts = without-parts r i a c.heads known in rw (parts.0, parts.1) (h.heads i a parts.2);
    conditions = λ a allowed. h.conditions a (kind_without-allows r c.kind a allowed);
    told = kind_without-told l t r w c.kind h.told;
    frames = h.frames;
    room = h.room;
  }
    where
      typed : (q : Reg) (b : Bool) → same q r ≡ b → fits_in l (if same q r then w else t.regs q) (if same q r then u else c.regs q) ≡ true
      typed q true e = rw e f
      typed q false e = rw e (h.regs q)

  -- the same for a state
  pub register-fits : (s : State) (r : Reg) (w : Value) (u : Ty) → StateFits l result c s → fits_in l w u ≡ true → StateFits l result (write r u c) (with_register r w s)
  register-fits s r w u h f = record { thread = register-known s.thread s.values r w u h.thread f; table = h.table; statics = h.statics; store = h.store }

  -- ---- values of the stack

  -- the running stack gets values that fit other slots
  pub values-fit : (s : State) (ts : List Ty) (vs : List Value) → StateFits l result c s → FramesFit l result ts vs → length vs ≤ most_values
      → StateFits l result (with_slots ts c) (with_values vs s)
  values-fit s ts vs h frames room = record {
    thread = record {
      regs = h.thread.regs;
      pairs = h.thread.pairs;
      heads = h.thread.heads;
      conditions = h.thread.conditions;
      told = h.thread.told;
      frames = frames;
      room = room;
    };
    table = h.table;
    statics = h.statics;
    store = h.store;
  }

-- ---- statics

-- what is read after one value was replaced: that value at its place, or what was there
set-read : (xs : List Value) (j k : ℕ) (w v : Value) → slice_get (slice_set xs j w) k ≡ Some v → ((k ≡ j) × (v ≡ w)) ⊎ (slice_get xs k ≡ Some v)
set-read [] j k w v h = inr h
set-read (x ∷ xs) zero zero w v h = inl (refl, cc)
set-read (x ∷ xs) zero (suc k) w v h = inr h
set-read (x ∷ xs) (suc j) zero w v h = inr h
set-read (x ∷ xs) (suc j) (suc k) w v h = ⊎_elim (λ (e : (k ≡ j) × (v ≡ w)). inl (ap suc e.0, e.1)) (λ (e : slice_get xs k ≡ Some v). inr e) (set-read xs j k w v h)

-- a static gets a value of its type
statics-set : (l : Scope) (statics : List Value) (j : ℕ) (f : FieldTy) (w : Value) → StaticsFit l statics → slice_get l.image.statics j ≡ Some f → fits_in l w (of_field f) ≡ true
    → StaticsFit l (slice_set statics j w)
statics-set l statics j f w h e g = record {
  count = length-set statics j w ∙ h.count;
  fit = λ k t v there read. ⊎_elim
      (λ (is : (k ≡ j) × (v ≡ w)). let same : Some t ≡ Some f = sym there ∙ (ap (slice_get l.image.statics) is.0 ∙ e) in let alike : t ≡ f = cc in rw (is.1, alike) g)
      (λ (old : slice_get statics k ≡ Some v). h.fit k t v there old)
      (set-read statics j k w v read);
}

-- ---- the store

-- an object after one of its values may have been replaced, value j of object i by w
record Rewritten (store : Store) (i j : ℕ) (w : Value) (k : ℕ) (o : Object) : Type 0 where
  before : Object
  there : slice_get store k ≡ Some before
  shape : o.shape ≡ before.shape
  place : o.place ≡ before.place
  count : length o.values ≡ length before.values
  values : (m : ℕ) (v : Value) → slice_get o.values m ≡ Some v → ((k ≡ i) × (m ≡ j) × (v ≡ w)) ⊎ (slice_get before.values m ≡ Some v)

-- the shapes stay
pub shapes-set : (store : Store) (i j : ℕ) (w : Value) → shapes_in (set_value store i j w) ≡ shapes_in store
shapes-set [] i j w = refl
shapes-set (o ∷ os) zero j w = refl
shapes-set (o ∷ os) (suc i) j w = rw (shapes-set os i j w) refl

-- an object that was not replaced
unchanged : (store : Store) (i j : ℕ) (w : Value) (k : ℕ) (o : Object) → slice_get store k ≡ Some o → Rewritten store i j w k o
unchanged store i j w k o h = record { before = o; there = h; shape = refl; place = refl; count = refl; values = λ m v e. inr e }

-- the object whose value is replaced
replaced : (os : Store) (o : Object) (j : ℕ) (w : Value) → Rewritten (o ∷ os) zero j w zero (with_value j w o)
replaced os o j w = record {
  before = o;
  there = refl;
  shape = refl;
  place = refl;
  count = length-set o.values j w;
  values = λ m v e. ⊎_elim (λ (is : (m ≡ j) × (v ≡ w)). inl (refl, is.0, is.1)) (λ (old : slice_get o.values m ≡ Some v). inr old) (set-read o.values j m w v e);
}

-- the same behind another object
behind : (os : Store) (p : Object) (i j : ℕ) (w : Value) (k : ℕ) (o : Object) → Rewritten os i j w k o → Rewritten (p ∷ os) (suc i) j w (suc k) o
behind os p i j w k o h = record {
  before = h.before;
  there = h.there;
  shape = h.shape;
  place = h.place;
  count = h.count;
  values = λ m v e. ⊎_elim (λ (is : (k ≡ i) × (m ≡ j) × (v ≡ w)). inl (ap suc is.0, is.1, is.2)) (λ (old : slice_get h.before.values m ≡ Some v). inr old) (h.values m v e);
}

-- an object of the store after a value was replaced
store-read : (store : Store) (i j : ℕ) (w : Value) (k : ℕ) (o : Object) → slice_get (set_value store i j w) k ≡ Some o → Rewritten store i j w k o
store-read [] i j w k o h = unchanged [] i j w k o h
store-read (p ∷ os) zero j w zero o h = let same : with_value j w p ≡ o = cc in subst (λ x. Rewritten (p ∷ os) zero j w zero x) same (replaced os p j w)
store-read (p ∷ os) zero j w (suc k) o h = unchanged (p ∷ os) zero j w (suc k) o h
store-read (p ∷ os) (suc i) j w zero o h = unchanged (p ∷ os) (suc i) j w zero o h
store-read (p ∷ os) (suc i) j w (suc k) o h = behind os p i j w k o (store-read os i j w k o h)

-- a data array stands where it stood
array-stands : (store : Store) (i j : ℕ) (w : Value) (d : ℕ) (row : DataRow) → IsArray store d row → IsArray (set_value store i j w) d row
array-stands [] i j w d row h = h
array-stands (p ∷ os) zero j w zero row h =
    let same : p ≡ h.object = let e = h.here in cc in
    record { object = with_value j w p; here = refl; shape = ap (λ (o : Object). o.shape) same ∙ h.shape; place = ap (λ (o : Object). o.place) same ∙ h.place }
array-stands (p ∷ os) zero j w (suc d) row h = record { object = h.object; here = h.here; shape = h.shape; place = h.place }
array-stands (p ∷ os) (suc i) j w zero row h = record { object = h.object; here = h.here; shape = h.shape; place = h.place }
array-stands (p ∷ os) (suc i) j w (suc d) row h =
    let rest = array-stands os i j w d row (record { object = h.object; here = h.here; shape = h.shape; place = h.place }) in
    record { object = rest.object; here = rest.here; shape = rest.shape; place = rest.place }

module _ (l : Scope) (store : Store) (h : StoreFits l store) (i j : ℕ) (w : Value) (f : FieldTy) where
  -- an object has the type that values of its shape have there
  typed-there : (k m : ℕ) (o : Object) → slice_get store k ≡ Some o → value_type_at l k m ≡ value_type (rows l) o.shape m
  typed-there k m o e = rw (h.shapes, slice_get-map (λ (x : Object). x.shape) store k, e) refl

  -- a value of an object is replaced by one that has its type
  pub store-set : value_type_at l i j ≡ Some f → fits_in l w (of_field f) ≡ true → StoreFits l (set_value store i j w)
  store-set e g = record {
    shapes = h.shapes ∙ sym (shapes-set store i j w);
    arrays = λ d row there. array-stands store i j w d row (h.arrays d row there);
    arrays_live = h.arrays_live;
    there = λ k o read. let r = store-read store i j w k o read in rw r.shape (h.there k r.before r.there);
    counts = λ k o read. let r = store-read store i j w k o read in rw (r.shape, r.count) (h.counts k r.before r.there);
    placed = λ k o read. let r = store-read store i j w k o read in rw r.place (h.placed k r.before r.there);
    fit = λ k m o t v live read is value. typed k m o t v live (store-read store i j w k o read) is value;
  }
    where
      typed : (k m : ℕ) (o : Object) (t : FieldTy) (v : Value) → l.live k ≡ true → Rewritten store i j w k o → value_type (rows l) o.shape m ≡ Some t → slice_get o.values m ≡ Some v
          → fits_in l v (of_field t) ≡ true
      typed k m o t v live r is value = ⊎_elim
          (λ (new : (k ≡ i) × (m ≡ j) × (v ≡ w)).
          let old : value_type_at l k m ≡ Some t = typed-there k m r.before r.there ∙ (ap (λ x. value_type (rows l) x m) (sym r.shape) ∙ is) in
          let same : Some t ≡ Some f = sym old ∙ (ap (λ x. value_type_at l x m) new.0 ∙ (ap (value_type_at l i) new.1 ∙ e)) in
          let alike : t ≡ f = cc in
          rw (new.2, alike) g)
          (λ (old : slice_get r.before.values m ≡ Some v). h.fit k m r.before t v live r.there (ap (λ x. value_type (rows l) x m) (sym r.shape) ∙ is) old)
          (r.values m v value)

-- ---- places and operands

-- there is a state, and it fits
abbrev pub SomeFits : Scope → Ty → LiveContext → Option State → Type 0
SomeFits l result c None = ⊥
SomeFits l result c (Some s) = StateFits l result c s

module _ (l : Scope) (result : Ty) (c : LiveContext) (s : State) (h : StateFits l result c s) (laws : ImageLaws l.image) where
  -- a value that has a type may stand where that is below the type there
  fitting_may_hold : (w : Value) (t : Ty) (f : FieldTy) → fits_in l w t ≡ true → sub (rows l) t (of_field f) ≡ true → may_hold (shown l.image) s (Some f) w ≡ true
  fitting_may_hold w t f g e = rw (← h.store.shapes) (fits-all (shown l.image) l.live l.shapes w (of_field f) (fits-sub (shown l.image) l.live l.shapes laws.classes w t (of_field f) g e))

  -- a value of a type that is below the type there has that
  fits-there : (w : Value) (t : Ty) (f : FieldTy) → fits_in l w t ≡ true → sub (rows l) t (of_field f) ≡ true → fits_in l w (of_field f) ≡ true
  fits-there w t f g e = fits-sub (shown l.image) l.live l.shapes laws.classes w t (of_field f) g e

  -- a static gets a value
  static_written : (j : ℕ) (f : FieldTy) (w : Value) → slice_get l.image.statics j ≡ Some f → fits_in l w (of_field f) ≡ true
      → StateFits l result c (record s { statics = slice_set s.statics j w })
  static_written j f w e g = record { thread = h.thread; table = h.table; statics = statics-set l s.statics j f w h.statics e g; store = h.store }

  -- an object gets a value
  store-written : (i j : ℕ) (f : FieldTy) (w : Value) → value_type_at l i j ≡ Some f → fits_in l w (of_field f) ≡ true
      → StateFits l result c (record s { store = set_value s.store i j w })
  store-written i j f w e g = record { thread = h.thread; table = h.table; statics = h.statics; store = store-set l s.store h.store i j w f e g }

  -- a slot gets a value
  slot-written : (i : ℕ) (u t : Ty) (w : Value) → slice_get c.slots i ≡ Some u → fits_in l w t ≡ true
      → StateFits l result (with_slots (slice_set c.slots i t) c) (with_values (slice_set s.values i w) s)
  slot-written i u t w e g =
      values-fit l result c s _ _ h (frames-set l result c.slots s.values i u t w h.thread.frames e g) (rw (length-set s.values i w) h.thread.room)

  -- a place that may be written takes a value of a type that it takes
  place-written : (base : Option Reg) (p : Place) (q : Spot) (w : Value) (t : Ty) → SpotFits l c s base p q → is_writable p ≡ true → takes (rows l) t p ≡ true
      → fits_in l w t ≡ true → SomeFits l result (store_place (Some p) t c) (write_spot (shown l.image) s q w)
  unfolding write_spot shown
  place-written base (Whole u) (AtStatic j) w t e a b g =
      let below = rw e.2 at b in rw (e.1, fitting_may_hold w t e.0 g below) (static_written j e.0 w e.1 (fits-there w t e.0 g below))
  place-written base (Whole u) (AtValue i j) w t e a b g =
      let below = rw e.3 at b in
      let there : type_there (shown l.image) s i j ≡ Some e.0 = rw (← h.store.shapes) e.2 in
      rw (there, fitting_may_hold w t e.0 g below) (store-written i j e.0 w e.2 (fits-there w t e.0 g below))
  place-written base (Slot i) (AtSlot j) w t e a b g = rw (← e.1) (slot-written i e.0 t w e.2 g)
  place-written base p q w t e a b g = absurd (grind arith)

  -- an operand that may be written takes a value of a type that may be stored there
  pub operand-written : (d : Operand) (w : Value) (t : Ty) → spares_esp d ≡ true → writable (resolved l c s d) ≡ true
      → storable (rows l) t (resolved l c s d) ≡ true → fits_in l w t ≡ true
      → SomeFits l result (store (resolved l c s d) t c) (write_operand (shown l.image) s d w)
  unfolding spares_esp writable storable operand_place store write_operand
  operand-written (R r) w t a b e g = rw a (register-fits l result c s r w t h g)
  operand-written (I n) w t a b e g = absurd (grind arith)
  operand-written (M m) w t a b e g =
      go (place_of l c m) (spot_in l s m) (spot-found l result c s laws.classes h m) b e
    where
      go : (p : Option Place) (q : Option Spot) → SpotFound l c s m.base p q → option_map_or is_writable p false ≡ true → option_map_or (takes (rows l) t) p true ≡ true
          → SomeFits l result (store_place p t c) (option_and_then (λ spot. write_spot (shown l.image) s spot w) q)
      go None q x y z = absurd (grind arith)
      go (Some p) None x y z = absurd x
      go (Some p) (Some q) x y z = place-written m.base p q w t x y z g

-- a value that is written leaves the flags
pub written-flags : (v : ShownImage) (s t : State) (d : Operand) (w : Value) → write_operand v s d w ≡ Some t → t.thread.flags ≡ s.thread.flags
unfolding write_operand write_spot
written-flags v s t d w e = grind arith
