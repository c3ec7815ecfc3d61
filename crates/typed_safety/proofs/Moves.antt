-- Moves: the value goes to its destination, and the table of an object is known as such.
use Rattle.std.proofs.Common.{◌≡◌, subst, ℕ, Bool, true, false, not, if◌then◌else◌, Option, Some, None, slice_get, arith, refl}
use Rattle.std.specs.Option.{option_map, option_and_then}
use Rattle.ia32_code.specs.declared.instruction.Reg.{Reg}
use Rattle.ia32_code.specs.declared.instruction.Reg.TheVariants.{Esp}
use Rattle.ia32_code.specs.declared.instruction.Operand.{Operand}
use Rattle.ia32_code.specs.declared.instruction.Operand.TheVariants.{R, M, I}
use Rattle.ia32_code.specs.declared.instruction.Inst.{Inst}
use Rattle.tal_types.specs.declared.types.Ty.{Ty}
use Rattle.tal_types.specs.Contexts.{LiveContext, same}
use Rattle.tal_types.specs.Laws.{TypeLaws}
use Rattle.tal_flow.specs.declared.forms.Form.TheVariants.{Move}
use Rattle.tal_flow.specs.declared.places.Place.{Place}
use Rattle.tal_flow.specs.declared.places.Place.TheVariants.{Head}
use Rattle.tal_flow.specs.Places.{operand_place}
use Rattle.tal_flow.specs.Afterwards.{write, store, add_head, note_head, after_form}
use Rattle.tal_flow.specs.Rules.{operand_rule}
use Rattle.tal_image.specs.Shown.{shown}
use Rattle.typed_machine.specs.Values.{Value, Ref, Tab, ObjectShape, InstanceOf, ArrayOf, is_instance}
use Rattle.typed_machine.specs.States.{State, placed_shapes, with_register}
use Rattle.typed_machine.specs.Operands.{Spot, AtHead, head_value, read_spot, operand_value, provided, write_operand}
use Rattle.typed_machine.specs.Effects.{goes_on, moves, form_effect}
use Rattle.typed_machine.specs.Frames.{Scope}
use Rattle.typed_machine.specs.Typing.{IsHead}
use Rattle.typed_safety.specs.Laws.{ImageLaws}
use Rattle.typed_safety.proofs.Scopes.{rows, resolved, type_of, value_of, place_of, spot_in}
use Rattle.typed_safety.proofs.Frames.{ValueFits}
use Rattle.typed_safety.proofs.Fitted.{StateFits, thread_fits, also_related}
use Rattle.typed_safety.proofs.Spots.{SpotFits, SpotFound, spot-found}
use Rattle.typed_safety.proofs.Reading.{operand-read}
use Rattle.typed_safety.proofs.Writing.{SomeFits, operand-written}
use Rattle.typed_safety.proofs.Operations.{Leads, FormLeads, written-leads}

module _ (types : TypeLaws) (l : Scope) (result : Ty) where
  -- a register holds the table of another's object
  add_head-fits : (c : LiveContext) (s : State) (t r : Reg) → StateFits l result c s → IsHead l.shapes (s.thread.regs t) (s.thread.regs r) → StateFits l result (add_head t r c) s
  unfolding add_head
  add_head-fits c s t r h is = thread_fits l result c _ s h (record {
    regs = h.thread.regs;
    pairs = h.thread.pairs;
    heads = also_related types (λ i a. IsHead l.shapes (s.thread.regs i) (s.thread.regs a)) c.heads t r is h.thread.heads;
    conditions = h.thread.conditions;
    told = h.thread.told;
    frames = h.thread.frames;
    room = h.thread.room;
  })

module _ (l : Scope) (result : Ty) (c : LiveContext) (s : State) (h : StateFits l result c s) (laws : ImageLaws l.image) where
  -- what is read at the head of an object is its table
  head-read : (b : Reg) (i k : ℕ) (w : Value) → s.thread.regs b ≡ Ref i → is_instance (rows l) (slice_get l.shapes i) k ≡ true
      → option_and_then head_value (slice_get (placed_shapes s) i) ≡ Some w → IsHead l.shapes w (s.thread.regs b)
  head-read b i k w holds is read = go (slice_get l.shapes i) refl is (rw (← h.store.shapes) at read)
    where
      go : (o : Option ObjectShape) → slice_get l.shapes i ≡ o → is_instance (rows l) o k ≡ true → option_and_then head_value o ≡ Some w → IsHead l.shapes w (s.thread.regs b)
      go None e f g = absurd (grind arith)
      go (Some (ArrayOf m n)) e f g = absurd (grind arith)
      go (Some (InstanceOf d)) e f g = let table : w ≡ Tab d = cc in record { class = d; object = i; is_table = table; is_object = holds; is_of = e }

  -- a table that was read is known as such, where its object is still in its register
  place-noted : (base : Option Reg) (r : Reg) (w : Value) (t : Ty) (p : Place) (q : Spot) → SpotFits l c s base p q → read_spot (rows l) s q ≡ Some w
      → StateFits l result (write r t c) (with_register r w s) → StateFits l result (note_head (R r) (Some p) (write r t c)) (with_register r w s)
  unfolding note_head read_spot
  place-noted base r w t (Head b k) (AtHead i) e read g = go (same b r) refl
    where
      go : (x : Bool) → same b r ≡ x → StateFits l result (if x then write r t c else add_head r b (write r t c)) (with_register r w s)
      go true f = g
      go false f = add_head-fits laws.types l result (write r t c) (with_register r w s) r b g (rw (laws.types.same_reflexive r, f) (head-read b i k w e.0 e.1 read))
  place-noted base r w t (Head b k) q e read g = absurd e
  place-noted base r w t p q e read g = g

  -- the same for a move
  noted : (d x : Operand) (w : Value) (t : State) (u : Ty) → value_of l s x ≡ Some w → write_operand (shown l.image) s d w ≡ Some t
      → StateFits l result (store (resolved l c s d) u c) t
      → StateFits l result (note_head d (operand_place (shown l.image) c x) (store (resolved l c s d) u c)) t
  unfolding operand_place operand_value write_operand store note_head
  noted (R r) (M m) w t u e f g =
      let is : with_register r w s ≡ t = written f in
      subst (λ z. StateFits l result (note_head (R r) (place_of l c m) (write r u c)) z) is
      (go (place_of l c m) (spot_in l s m) (spot-found l result c s laws.classes h m) e (rw is g))
    where
      written : provided (not (same r Esp)) (with_register r w s) ≡ Some t → with_register r w s ≡ t
      written f = grind arith

      go : (p : Option Place) (q : Option Spot) → SpotFound l c s m.base p q → option_and_then (read_spot (rows l) s) q ≡ Some w
          → StateFits l result (write r u c) (with_register r w s) → StateFits l result (note_head (R r) p (write r u c)) (with_register r w s)
      go None q x y z = z
      go (Some p) None x y z = absurd x
      go (Some p) (Some q) x y z = place-noted m.base r w u p q x y z
  noted (R r) (R q) w t u e f g = g
  noted (R r) (I n) w t u e f g = g
  noted (M m) x w t u e f g = g
  noted (I n) x w t u e f g = g

  -- MOV
  pub move-leads : (i : Inst) (len next : ℕ) (d x : Operand) → FormLeads l result c s i len next (Move d x)
  unfolding form_effect moves after_form operand_rule
  move-leads i len next d x e =
      moved (value_of l s x) refl (operand-read l result c s h laws x (grind arith) (grind arith) (grind arith))
    where
      u : Ty
      u = type_of l c s x

      stored : (w : Value) → value_of l s x ≡ Some w → (o : Option State) → write_operand (shown l.image) s d w ≡ o
          → SomeFits l result (store (resolved l c s d) u c) o
          → SomeFits l result (note_head d (operand_place (shown l.image) c x) (store (resolved l c s d) u c)) o
      stored w f None g k = k
      stored w f (Some t) g k = noted d x w t u f g k

      moved : (o : Option Value) → value_of l s x ≡ o → ValueFits l o u
          → Leads l result (note_head d (operand_place (shown l.image) c x) (store (resolved l c s d) u c)) next
          (option_map (goes_on next) (option_and_then (write_operand (shown l.image) s d) o))
      moved None f g = absurd g
      moved (Some w) f g = written-leads l result _ next (write_operand (shown l.image) s d w)
          (stored w f (write_operand (shown l.image) s d w) refl (operand-written l result c s h laws d w u (grind arith) (grind arith) (grind arith) g))
