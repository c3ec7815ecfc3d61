-- What stands at a readable place of a state that fits has the place's type.
use Rattle.std.proofs.Common.{◌≡◌, ◌<◌, ℕ, true, false, Option, Some, None, is_some, arith, refl, sym, ◌∙◌, ap, length, slice_get, get_or}
use Rattle.std.specs.Option.{option_map, option_and_then, option_map_or}
use Rattle.std.proofs.lemmas.Bool.Decides.{nat_tests}
use Rattle.std.proofs.lemmas.Option.{slice_get-map, slice_get_within, slice_get-get_or, get_or_from_slice_get}
use Rattle.ia32_code.specs.declared.instruction.Reg.{Reg}
use Rattle.ia32_code.specs.declared.instruction.Reg.TheVariants.{Esp}
use Rattle.ia32_code.specs.declared.instruction.Operand.{Operand}
use Rattle.ia32_code.specs.declared.instruction.Operand.TheVariants.{R, M, I}
use Rattle.object_layout.specs.declared.rows.FieldTy.{FieldTy}
use Rattle.object_layout.specs.Classes.{ShapesView, Fields, Methods, fun_row}
use Rattle.tal_types.specs.declared.types.Ty.{Ty}
use Rattle.tal_types.specs.declared.types.Ty.TheVariants as ty
use Rattle.tal_types.specs.declared.views.Mark.{Mark}
use Rattle.tal_types.specs.Types.{of_field}
use Rattle.tal_types.specs.Contexts.{LiveContext, same}
use Rattle.tal_flow.specs.declared.places.Place.{Place}
use Rattle.tal_flow.specs.declared.places.Place.TheVariants.{Whole, Slot, Length, Head, Method}
use Rattle.tal_flow.specs.Places.{place_type, is_readable, mark_type, immediate_type, operand_type, spares_esp, found, readable, operand_place}
use Rattle.tal_image.specs.Shown.{shown}
use Rattle.typed_machine.specs.Values.{Number, Null, ObjectShape, InstanceOf, ArrayOf, is_instance, fits_among}
use Rattle.typed_machine.specs.Stores.{Object, Store, value_type, value_count, value_at}
use Rattle.typed_machine.specs.States.{State, placed_shapes}
use Rattle.typed_machine.specs.Operands.{Spot, AtStatic, AtSlot, AtValue, AtLength, AtHead, AtMethod, length_value, head_value, method_value, read_spot, marked_value, immediate_value, operand_value}
use Rattle.typed_machine.specs.Frames.{Scope, fits_in}
use Rattle.typed_machine.specs.Typing.{StoreFits}
use Rattle.typed_safety.specs.Laws.{ImageLaws, HasArrays}
use Rattle.typed_safety.proofs.Scopes.{rows, resolved, type_of, value_of, place_of, spot_in}
use Rattle.typed_safety.proofs.Frames.{ValueFits, slot-value}
use Rattle.typed_safety.proofs.Fitted.{StateFits}
use Rattle.typed_safety.proofs.Spots.{value_type_at, HoldsArray, SpotFits, SpotFound, spot-found}

-- a value whose type there is has a number below the count
value-counted : (s : ShapesView) (shape : ObjectShape) (j : ℕ) (f : FieldTy) → value_type s shape j ≡ Some f → j < value_count s shape
unfolding value_type value_count
value-counted s (InstanceOf c) j f h = slice_get_within (Fields s c) j f h
value-counted s (ArrayOf k n) j f h = grind (arith, nat_tests)

-- the object that has a value of a type
pub object_there : (l : Scope) (store : Store) → StoreFits l store → (i j : ℕ) (f : FieldTy) → value_type_at l i j ≡ Some f
    → (o : Object) × (slice_get store i ≡ Some o) × (value_type (rows l) o.shape j ≡ Some f)
object_there l store h i j f e =
    go (slice_get store i) refl (sym (slice_get-map (λ (o : Object). o.shape) store i) ∙ ap (λ os. slice_get os i) (sym h.shapes))
  where
    go : (o : Option Object) → slice_get store i ≡ o → option_map (λ (x : Object). x.shape) o ≡ slice_get l.shapes i
        → (o : Object) × (slice_get store i ≡ Some o) × (value_type (rows l) o.shape j ≡ Some f)
    go None a b = absurd (let x = rw (← b) at e in cc)
    go (Some o) a b = (o, a, rw (← b) at e)

module _ (l : Scope) (result : Ty) (c : LiveContext) (s : State) (h : StateFits l result c s) where
  -- a value in the store
  value-there : (i j : ℕ) (f : FieldTy) → l.live i ≡ true → value_type_at l i j ≡ Some f → ValueFits l (value_at s.store i j) (of_field f)
  unfolding value_at
  value-there i j f live e =
      let o = object_there l s.store h.store i j f e in
      let few : j < length o.0.values = rw (h.store.counts i o.0 o.1) (value-counted (rows l) o.0.shape j f o.2) in
      let there = slice_get-get_or o.0.values j Null few in
      rw (o.1, there) (h.store.fit i j o.0 f _ live o.1 o.2 there)

  -- a static
  static_there : (j : ℕ) (f : FieldTy) → slice_get l.image.statics j ≡ Some f → ValueFits l (slice_get s.statics j) (of_field f)
  static_there j f e =
      let few = slice_get_within l.image.statics j f e in
      let there = slice_get-get_or s.statics j Null (omega (arith, h.statics.count)) in
      rw there (h.statics.fit j f _ e there)

  -- a length
  length-there : (base : Option Reg) (i : ℕ) → HoldsArray l s base i → ValueFits l (option_and_then length_value (slice_get (placed_shapes s) i)) ty.Num
  unfolding fits_among
  length-there base i a = rw (← h.store.shapes, a.is_long) refl

  -- the table of an object
  head-there : (i k : ℕ) → is_instance (rows l) (slice_get l.shapes i) k ≡ true → ValueFits l (option_and_then head_value (slice_get (placed_shapes s) i)) (ty.Tab k)
  unfolding fits_among
  head-there i k e = rw (← h.store.shapes) (go (slice_get l.shapes i) e)
    where
      go : (o : Option ObjectShape) → is_instance (rows l) o k ≡ true → ValueFits l (option_and_then head_value o) (ty.Tab k)
      go None e = absurd (grind arith)
      go (Some (ArrayOf m n)) e = absurd (grind arith)
      go (Some (InstanceOf d)) e = e

  -- a slot's value
  slot-there : (i : ℕ) (t : Ty) → slice_get c.slots i ≡ Some t → ValueFits l (slice_get s.values i) (get_or c.slots i ty.Junk)
  slot-there i t e = rw (get_or_from_slice_get c.slots i t ty.Junk e) (slot-value l result c.slots s.values i t h.thread.frames e)

  -- a method
  method-there : ImageLaws l.image → (d m f : ℕ) → slice_get (Methods (rows l) d) m ≡ Some f
      → ValueFits l (method_value (rows l) d m) (ty.Code (fun_row (rows l) f).sig)
  unfolding fits_among
  method-there laws d m f e = rw (e, laws.methods d m f e) (grind (arith, nat_tests))

  -- a readable place has a value of its type
  pub place-read : ImageLaws l.image → (base : Option Reg) (p : Place) (q : Spot) → SpotFits l c s base p q → is_readable p ≡ true → ValueFits l (read_spot (rows l) s q) (place_type c p)
  unfolding read_spot
  place-read laws base (Whole t) (AtStatic j) e r = rw e.2 (static_there j e.0 e.1)
  place-read laws base (Whole t) (AtValue i j) e r = rw e.3 (value-there i j e.0 e.1 e.2)
  place-read laws base (Slot i) (AtSlot j) e r = rw (← e.1) (slot-there i e.0 e.2)
  place-read laws base Length (AtLength i) e r = length-there base i e
  place-read laws base (Head b k) (AtHead i) e r = head-there i k e.1
  place-read laws base (Method g) (AtMethod d m) e r = rw e.2 (method-there laws d m e.0 e.1)
  place-read laws base p q e r = absurd (grind arith)

  -- the data arrays stand and live
  pub has-arrays : HasArrays l.image l.live s.store
  has-arrays = record { stand = h.store.arrays; alive = h.store.arrays_live }

  -- an immediate has its type, marked or not
  immediate-read : ImageLaws l.image → (n : ℕ) → fits_in l (immediate_value (shown l.image) s.thread.place n) (immediate_type (shown l.image) s.thread.place n) ≡ true
  unfolding immediate_value immediate_type fits_among
  immediate-read laws n = go ((shown l.image).mark_at s.thread.place) refl
    where
      go : (o : Option Mark) → (shown l.image).mark_at s.thread.place ≡ o → fits_in l (option_map_or (marked_value n) o (Number n)) (option_map_or (mark_type (shown l.image) n) o ty.Num) ≡ true
      go None e = refl
      go (Some mark) e = rw h.store.shapes (laws.marks s.thread.place n mark l.live s.store e has-arrays)

  -- an operand that is found and may be read has a value of its type
  pub operand-read : ImageLaws l.image → (x : Operand) → spares_esp x ≡ true → found (resolved l c s x) ≡ true
      → readable (resolved l c s x) ≡ true → ValueFits l (value_of l s x) (type_of l c s x)
  unfolding spares_esp found readable operand_place operand_value operand_type
  operand-read laws (R r) a b d = let fits = h.thread.regs r in let other : same r Esp ≡ false = grind arith in rw other fits
  operand-read laws (I n) a b d = immediate-read laws n
  operand-read laws (M m) a b d =
      go (place_of l c m) (spot_in l s m) (spot-found l result c s laws.classes h m) b d
    where
      go : (p : Option Place) (q : Option Spot) → SpotFound l c s m.base p q → is_some p ≡ true → option_map_or is_readable p true ≡ true
          → ValueFits l (option_and_then (read_spot (rows l) s) q) (option_map_or (place_type c) p ty.Junk)
      go None q e f g = absurd (grind arith)
      go (Some p) None e f g = absurd e
      go (Some p) (Some q) e f g = place-read laws m.base p q e g
