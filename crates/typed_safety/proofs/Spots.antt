-- Where a context sees a place, the values of a state that fits find a spot.
use Rattle.std.proofs.Common.{◌≡◌, ◌≤◌, ◌<◌, ◌==◌, ◌&&◌, ℕ, Bool, true, false, nat_lt, nat_le, if◌then◌else◌, Option, Some, None, is_some, arith, refl, sym, ◌∙◌, ap, length, slice_get}
use Rattle.std.specs.Option.{option_map, option_and_then}
use Rattle.std.proofs.lemmas.Bool.{and_parts}
use Rattle.std.proofs.lemmas.Bool.Decides.{nat_tests}
use Rattle.std.proofs.lemmas.Option.{slice_get-map, slice_get_within}
use Rattle.ia32_code.specs.declared.instruction.Reg.{Reg}
use Rattle.ia32_code.specs.declared.instruction.Reg.TheVariants.{Esp}
use Rattle.ia32_code.specs.declared.instruction.Mem.{Mem}
use Rattle.object_layout.specs.declared.rows.FieldTy.{FieldTy}
use Rattle.object_layout.specs.Areas.{statics_start, word_index}
use Rattle.object_layout.specs.Classes.{Below, Fields, Element, Methods, fun_row, signatures_of, signatures, field_at, slot_at}
use Rattle.object_layout.specs.Laws.{ClassLaws}
use Rattle.tal_types.specs.declared.types.Ty.{Ty}
use Rattle.tal_types.specs.declared.types.Ty.TheVariants as ty
use Rattle.tal_types.specs.Types.{of_field}
use Rattle.tal_types.specs.Contexts.{LiveContext, same}
use Rattle.tal_flow.specs.declared.places.Place.{Place}
use Rattle.tal_flow.specs.declared.places.Place.TheVariants.{Whole, Slot, Length, Head, Method, Display}
use Rattle.tal_flow.specs.Places.{field_place, static_place, slot_place, object_place, array_place, element_place, display_place, table_place, based, stack_place, located}
use Rattle.tal_image.specs.Shown.{shown}
use Rattle.typed_machine.specs.Values.{Value, Ref, Tab, ObjectShape, InstanceOf, ArrayOf, is_instance, is_array, fits_among}
use Rattle.typed_machine.specs.Stores.{value_type}
use Rattle.typed_machine.specs.States.{State}
use Rattle.typed_machine.specs.Operands.{Spot, AtStatic, AtSlot, AtValue, AtLength, AtHead, AtMethod, AtDisplay, slot_count, spot_if, static_spot, slot_spot, object_spot, element_spot, table_spot, based_spot, stack_spot, located_spot, spot_of}
use Rattle.typed_machine.specs.Frames.{Scope, fits_in}
use Rattle.typed_machine.specs.Typing.{IsPair, BoundTold, StaticsFit}
use Rattle.typed_safety.proofs.Scopes.{rows, place_of, spot_in}
use Rattle.typed_safety.proofs.Frames.{slot-deep}
use Rattle.typed_safety.proofs.Fitted.{StateFits}

-- the type of value j of object i
abbrev pub value_type_at : Scope → ℕ → ℕ → Option FieldTy
value_type_at l i j = option_and_then (λ shape. value_type (rows l) shape j) (slice_get l.shapes i)

-- an array that lives is in the register
pub record HoldsArray (l : Scope) (s : State) (base : Option Reg) (object : ℕ) : Type 0 where
  pub register : Reg
  pub kind : ℕ
  pub size : ℕ
  pub is_base : base ≡ Some register
  pub holds : s.thread.regs register ≡ Ref object
  pub is_long : slice_get l.shapes object ≡ Some (ArrayOf kind size)
  pub lives : l.live object ≡ true

-- the place, of an operand with this base, is seen where the values find the spot
abbrev pub SpotFits : Scope → LiveContext → State → Option Reg → Place → Spot → Type 0
SpotFits l c s base (Whole t) (AtStatic j) = (f : FieldTy) × (slice_get l.image.statics j ≡ Some f) × (t ≡ of_field f)
SpotFits l c s base (Whole t) (AtValue i j) = (f : FieldTy) × (l.live i ≡ true) × (value_type_at l i j ≡ Some f) × (t ≡ of_field f)
SpotFits l c s base (Slot i) (AtSlot j) = (t : Ty) × (i ≡ j) × (slice_get c.slots i ≡ Some t)
SpotFits l c s base Length (AtLength i) = HoldsArray l s base i
SpotFits l c s base (Head r k) (AtHead i) = (s.thread.regs r ≡ Ref i) × (is_instance (rows l) (slice_get l.shapes i) k ≡ true) × (l.live i ≡ true)
SpotFits l c s base (Method g) (AtMethod d m) = (f : ℕ) × (slice_get (Methods (rows l) d) m ≡ Some f) × (g ≡ (fun_row (rows l) f).sig)
SpotFits l c s base (Display t k) (AtDisplay d e) = (k ≡ e) × (k ≤ 7) × (s.thread.regs t ≡ Tab d) × (d < length (rows l).classes)
SpotFits l c s base place spot = ⊥

-- where there is a place, there is such a spot
abbrev pub SpotFound : Scope → LiveContext → State → Option Reg → Option Place → Option Spot → Type 0
SpotFound l c s base None spot = Unit {0}
SpotFound l c s base (Some place) None = ⊥
SpotFound l c s base (Some place) (Some spot) = SpotFits l c s base place spot

module _ (l : Scope) (c : LiveContext) (s : State) (base : Option Reg) where
  -- a static
  static_found : StaticsFit l s.statics → (disp : ℕ) → SpotFound l c s base (static_place (shown l.image).statics disp) (static_spot s disp)
  unfolding static_spot shown
  static_found h disp = go (word_index statics_start disp)
    where
      at : (j : ℕ) (f : Option FieldTy) → slice_get l.image.statics j ≡ f → SpotFound l c s base (field_place f) (if nat_lt j (length s.statics) then Some (AtStatic j) else None)
      at j None e = tt
      at j (Some f) e =
          let few = slice_get_within l.image.statics j f e in
          let there : nat_lt j (length s.statics) ≡ true = rw h.count (grind (arith, nat_tests)) in
          rw there (f, e, refl)

      go : (o : Option ℕ) → SpotFound l c s base (field_place (option_and_then (slice_get l.image.statics) o)) (spot_if (λ j. nat_lt j (length s.statics)) AtStatic o)
      go None = tt
      go (Some j) = at j (slice_get l.image.statics j) refl

  -- a slot
  slot-found : (result : Ty) → StateFits l result c s → (disp : ℕ) → SpotFound l c s base (slot_place c disp) (slot_spot s disp)
  unfolding slot_spot
  slot-found result h disp = go (word_index 0 disp)
    where
      at : (i : ℕ) (t : Option Ty) → slice_get c.slots i ≡ t
          → SpotFound l c s base (if is_some t then Some (Slot i) else None) (if nat_lt i (slot_count s.values) then Some (AtSlot i) else None)
      at i None e = tt
      at i (Some t) e = rw (slot-deep l result c.slots s.values i t h.thread.frames e) (t, refl, e)

      go : (o : Option ℕ) → SpotFound l c s base (option_and_then (λ i. if is_some (slice_get c.slots i) then Some (Slot i) else None) o) (spot_if (λ i. nat_lt i (slot_count s.values)) AtSlot o)
      go None = tt
      go (Some i) = at i (slice_get c.slots i) refl

  -- value j of an object of class d
  value-found : (i j d : ℕ) (f : FieldTy) → l.live i ≡ true → slice_get l.shapes i ≡ Some (InstanceOf d) → slice_get (Fields (rows l) d) j ≡ Some f
      → SpotFits l c s base (Whole (of_field f)) (AtValue i j)
  unfolding value_type
  value-found i j d f live shape h = (f, live, rw shape h, refl)

  -- the field at a byte of an object of class d, whose own class is below class e
  field-found : ClassLaws (rows l) → (i d e disp : ℕ) → l.live i ≡ true → slice_get l.shapes i ≡ Some (InstanceOf d) → Below (rows l) d e ≡ true
      → SpotFound l c s base (field_place (field_at (rows l) e disp)) (if is_some (field_at (rows l) d disp) then option_map (AtValue i) (word_index 4 disp) else None)
  unfolding field_at
  field-found laws i d e disp live shape below = go (field_at (rows l) e disp) refl
    where
      typed : (o : Option ℕ) (f : FieldTy) → option_and_then (slice_get (Fields (rows l) d)) o ≡ Some f → SpotFound l c s base (Some (Whole (of_field f))) (option_map (AtValue i) o)
      typed None f h = absurd (cc)
      typed (Some j) f h = value-found i j d f live shape h

      go : (f : Option FieldTy) → field_at (rows l) e disp ≡ f
          → SpotFound l c s base (field_place f) (if is_some (field_at (rows l) d disp) then option_map (AtValue i) (word_index 4 disp) else None)
      go None h = tt
      go (Some f) h = let there = laws.field_kept d e disp f below h in rw there (typed (word_index 4 disp) f there)

  -- the base is an object of a class below e
  object_found : ClassLaws (rows l) → (r : Reg) (i e disp : ℕ) → s.thread.regs r ≡ Ref i → l.live i ≡ true
      → (shape : Option ObjectShape) → slice_get l.shapes i ≡ shape → is_instance (rows l) shape e ≡ true
      → SpotFound l c s base (object_place (rows l) r e disp) (option_and_then (λ x. object_spot (rows l) i x disp) shape)
  unfolding object_spot
  object_found laws r i e disp holds live None shape h = absurd (grind arith)
  object_found laws r i e disp holds live (Some (ArrayOf k n)) shape h = absurd (grind arith)
  object_found laws r i e disp holds live (Some (InstanceOf d)) shape h = go (disp == 0)
    where
      go : (b : Bool) → SpotFound l c s base
          (if b then Some (Head r e) else field_place (field_at (rows l) e disp))
          (if b then Some (AtHead i) else (if is_some (field_at (rows l) d disp) then option_map (AtValue i) (word_index 4 disp) else None))
      go true = (holds, rw shape h, live)
      go false = field-found laws i d e disp live shape h

  -- the base is an array, without an index
  array-found : (r : Reg) (i k disp : ℕ) → base ≡ Some r → s.thread.regs r ≡ Ref i → l.live i ≡ true
      → (shape : Option ObjectShape) → slice_get l.shapes i ≡ shape → is_array shape k ≡ true
      → SpotFound l c s base (array_place disp) (option_and_then (λ x. object_spot (rows l) i x disp) shape)
  unfolding object_spot
  array-found r i k disp is holds live None shape h = absurd (grind arith)
  array-found r i k disp is holds live (Some (InstanceOf d)) shape h = absurd (grind arith)
  array-found r i k disp is holds live (Some (ArrayOf m n)) shape h = go (disp == 4)
    where
      go : (b : Bool) → SpotFound l c s base (if b then Some Length else None) (if b then Some (AtLength i) else None)
      go true = record { register = r; kind = m; size = n; is_base = is; holds = holds; is_long = shape; lives = live }
      go false = tt

  -- element j of an array
  element_there : (i j k n : ℕ) (t : Option FieldTy) → l.live i ≡ true → slice_get l.shapes i ≡ Some (ArrayOf k n) → nat_lt j n ≡ true → Element (rows l) k ≡ t
      → SpotFound l c s base (field_place t) (Some (AtValue i j))
  unfolding value_type
  element_there i j k n None live shape few e = tt
  element_there i j k n (Some f) live shape few e = (f, live, rw (shape, few) e, refl)

  -- the base is an array, and the index is below its length
  element_found : (r x : Reg) (i k scale disp : ℕ) → s.thread.regs r ≡ Ref i → l.live i ≡ true
      → (shape : Option ObjectShape) → slice_get l.shapes i ≡ shape → is_array shape k ≡ true
      → (c.pairs x r ≡ true → IsPair l.shapes (s.thread.regs x) (s.thread.regs r))
      → SpotFound l c s base (element_place (rows l) c r k x scale disp) (option_and_then (λ y. element_spot i y (s.thread.regs x) scale disp) shape)
  unfolding element_spot
  element_found r x i k scale disp holds live None shape h pair = absurd (grind arith)
  element_found r x i k scale disp holds live (Some (InstanceOf d)) shape h pair = absurd (grind arith)
  element_found r x i k scale disp holds live (Some (ArrayOf m n)) shape h pair = go (c.pairs x r) refl ((scale == 2) && (disp == 8)) refl
    where
      below : (b : BoundTold l.shapes (s.thread.regs x) (s.thread.regs r) true) → nat_lt b.number n ≡ true
      below b =
          let array : Ref i ≡ Ref b.array = sym holds ∙ b.is_array in
          let object : i ≡ b.array = cc in
          let long : Some (ArrayOf m n) ≡ Some (ArrayOf b.kind b.size) = sym shape ∙ (ap (λ y. slice_get l.shapes y) object ∙ b.is_long) in
          let size : n ≡ b.size = cc in
          rw size (sym b.tells)

      go : (p : Bool) → c.pairs x r ≡ p → (q : Bool) → ((scale == 2) && (disp == 8)) ≡ q
          → SpotFound l c s base (if p && q then field_place (Element (rows l) k) else None) (element_spot i (ArrayOf m n) (s.thread.regs x) scale disp)
      go false e q f = tt
      go true e false f = tt
      go true e true f =
          let b = (pair e).told in
          let kind : m ≡ k = grind (arith, nat_tests) in
          rw (b.is_number, below b, f) (element_there i b.number m n _ live shape (below b) (ap (λ y. Element (rows l) y) kind))

  -- the base is a class's table
  table-found : ClassLaws (rows l) → (r : Reg) (d e disp : ℕ) → s.thread.regs r ≡ Tab d → Below (rows l) d e ≡ true
      → SpotFound l c s base (table_place (rows l) r e disp) (table_spot (rows l) d disp)
  unfolding table_spot slot_at signatures signatures_of
  table-found laws r d e disp holds below = go (nat_le 44 disp)
    where
      method : (g m : ℕ) (f : Option ℕ) → slice_get (Methods (rows l) d) m ≡ f → option_map (λ f. (fun_row (rows l) f).sig) f ≡ Some g
          → SpotFound l c s base (Some (Method g)) (if nat_lt m (length (Methods (rows l) d)) then Some (AtMethod d m) else None)
      method g m None a b = absurd (cc)
      method g m (Some f) a b =
          let within = slice_get_within (Methods (rows l) d) m f a in
          let there : nat_lt m (length (Methods (rows l) d)) ≡ true = grind (arith, nat_tests) in
          rw there (f, a, cc)

      slot : (g : ℕ) (o : Option ℕ) → option_and_then (slice_get (signatures (rows l) d)) o ≡ Some g
          → SpotFound l c s base (Some (Method g)) (spot_if (λ m. nat_lt m (length (Methods (rows l) d))) (AtMethod d) o)
      slot g None h = absurd (cc)
      slot g (Some m) h = method g m _ refl (sym (slice_get-map (λ f. (fun_row (rows l) f).sig) (Methods (rows l) d) m) ∙ h)

      methods : (g : Option ℕ) → slot_at (rows l) e disp ≡ g
          → SpotFound l c s base (option_map Method g) (spot_if (λ m. nat_lt m (length (Methods (rows l) d))) (AtMethod d) (word_index 44 disp))
      methods None h = tt
      methods (Some g) h = slot g (word_index 44 disp) (laws.slot_kept d e disp g below h)

      level : (k : ℕ) (b : Bool) → nat_le k 7 ≡ b → SpotFound l c s base (if b then Some (Display r k) else None) (if b then Some (AtDisplay d k) else None)
      level k true h = (refl, grind (arith, nat_tests), holds, (laws.is_there d e below).0)
      level k false h = tt

      display : (o : Option ℕ) → SpotFound l c s base (option_and_then (λ k. if nat_le k 7 then Some (Display r k) else None) o) (spot_if (λ k. nat_le k 7) (AtDisplay d) o)
      display None = tt
      display (Some k) = level k (nat_le k 7) refl

      go : (b : Bool) → SpotFound l c s base
          (if b then option_map Method (slot_at (rows l) e disp) else display_place r disp)
          (if b then spot_if (λ m. nat_lt m (length (Methods (rows l) d))) (AtMethod d) (word_index 44 disp) else spot_if (λ k. nat_le k 7) (AtDisplay d) (word_index 12 disp))
      go true = methods (slot_at (rows l) e disp) refl
      go false = display (word_index 12 disp)

  module _ (result : Ty) (laws : ClassLaws (rows l)) (h : StateFits l result c s) (r : Reg) (is : base ≡ Some r) where
    -- the base is an object
    object_based : (e scale disp : ℕ) (w : Value) → s.thread.regs r ≡ w → fits_in l w (ty.Obj e) ≡ true
        → SpotFound l c s base (object_place (rows l) r e disp) (based_spot (rows l) s w None scale disp)
    unfolding fits_among
    object_based e scale disp (Ref i) holds f =
        let parts = and_parts (l.live i) (is_instance (rows l) (slice_get l.shapes i) e) f in
        rw (← h.store.shapes) (object_found laws r i e disp holds parts.0 (slice_get l.shapes i) refl parts.1)
    object_based e scale disp w holds f = absurd (grind arith)

    -- the base is an array
    array-based : (k scale disp : ℕ) (w : Value) → s.thread.regs r ≡ w → fits_in l w (ty.Arr k) ≡ true
        → SpotFound l c s base (array_place disp) (based_spot (rows l) s w None scale disp)
    unfolding fits_among
    array-based k scale disp (Ref i) holds f =
        let parts = and_parts (l.live i) (is_array (slice_get l.shapes i) k) f in
        rw (← h.store.shapes) (array-found r i k disp is holds parts.0 (slice_get l.shapes i) refl parts.1)
    array-based k scale disp w holds f = absurd (grind arith)

    -- the base is an array, and there is an index
    element_based : (k : ℕ) (x : Reg) (scale disp : ℕ) (w : Value) → s.thread.regs r ≡ w → fits_in l w (ty.Arr k) ≡ true
        → SpotFound l c s base (element_place (rows l) c r k x scale disp) (based_spot (rows l) s w (Some x) scale disp)
    unfolding fits_among
    element_based k x scale disp (Ref i) holds f =
        let parts = and_parts (l.live i) (is_array (slice_get l.shapes i) k) f in
        rw (← h.store.shapes) (element_found r x i k scale disp holds parts.0 (slice_get l.shapes i) refl parts.1 (h.thread.pairs x r))
    element_based k x scale disp w holds f = absurd (grind arith)

    -- the base is a table
    table-based : (e scale disp : ℕ) (w : Value) → s.thread.regs r ≡ w → fits_in l w (ty.Tab e) ≡ true
        → SpotFound l c s base (table_place (rows l) r e disp) (based_spot (rows l) s w None scale disp)
    unfolding fits_among
    table-based e scale disp (Tab d) holds f = table-found laws r d e disp holds f
    table-based e scale disp w holds f = absurd (grind arith)

    -- the base has a type
    based-found : (t : Ty) (x : Option Reg) (scale disp : ℕ) → fits_in l (s.thread.regs r) t ≡ true
        → SpotFound l c s base (based (rows l) c r t x scale disp) (based_spot (rows l) s (s.thread.regs r) x scale disp)
    based-found (ty.Obj e) None scale disp f = object_based e scale disp _ refl f
    based-found (ty.Arr k) None scale disp f = array-based k scale disp _ refl f
    based-found (ty.Arr k) (Some x) scale disp f = element_based k x scale disp _ refl f
    based-found (ty.Tab e) None scale disp f = table-based e scale disp _ refl f
    based-found t x scale disp f = tt

-- where a memory operand has a place in the context, it points to a spot of the state
pub spot-found : (l : Scope) (result : Ty) (c : LiveContext) (s : State) → ClassLaws (rows l) → StateFits l result c s → (m : Mem)
    → SpotFound l c s m.base (place_of l c m) (spot_in l s m)
unfolding spot_of
spot-found l result c s laws h m = go m.base m.index
  where
    -- the base is ESP, or it is not
    either : (r : Reg) (x : Option Reg) (b : Bool) → same r Esp ≡ b
        → SpotFound l c s (Some r) (if b then stack_place c x m.disp else based (rows l) c r (c.regs r) x m.scale m.disp)
        (if b then stack_spot s x m.disp else based_spot (rows l) s (s.thread.regs r) x m.scale m.disp)
    either r None true e = slot-found l c s (Some r) result h m.disp
    either r (Some x) true e = tt
    either r x false e = based-found l c s (Some r) result laws h r refl (c.regs r) x m.scale m.disp (h.thread.regs r)

    go : (base x : Option Reg) → SpotFound l c s base
        (located (rows l) (shown l.image).statics c base x m.scale m.disp) (located_spot (rows l) s base x m.scale m.disp)
    go None None = static_found l c s None h.statics m.disp
    go None (Some x) = tt
    go (Some r) x = either r x (same r Esp) refl
