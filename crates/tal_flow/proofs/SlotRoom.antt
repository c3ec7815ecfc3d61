use Rattle.std.proofs.Common.{◌≡◌, ◌≢◌, ℕ, zero, suc, ◌<◌, Bool, true, false, if◌then◌else◌, Option, Some, None, List, [], ◌∷◌, length, slice_get, is_some, arith}
use Rattle.std.specs.Option.{option_map, option_and_then}
use Rattle.ia32_code.specs.declared.instruction.Reg.{Reg}
use Rattle.ia32_code.specs.declared.instruction.Reg.TheVariants.{Esp}
use Rattle.ia32_code.specs.declared.instruction.Operand.{Operand}
use Rattle.ia32_code.specs.declared.instruction.Operand.TheVariants.{R, M, I}
use Rattle.object_layout.specs.declared.rows.FieldTy.{FieldTy}
use Rattle.object_layout.specs.Areas.{word_index}
use Rattle.object_layout.specs.Classes.{ShapesView}
use Rattle.tal_types.specs.declared.types.Ty.{Ty}
use Rattle.tal_types.specs.Contexts.{LiveContext, same}
use Rattle.tal_types.specs.Shown.{ShownImage}
use Rattle.tal_flow.specs.declared.places.Place.TheVariants.{Slot, Method}
use Rattle.tal_flow.specs.Places.{field_place, slot_place, display_place, based, stack_place, located, operand_place}

-- A slot that is a place is one of the frame's.

-- a slot that is there has a number below the number of slots
there-within : (xs : List Ty) (i : ℕ) → is_some (slice_get xs i) ≡ true → i < length xs
there-within [] i e = absurd (grind arith)
there-within (x ∷ xs) zero e = omega arith
there-within (x ∷ xs) (suc i) e = let h = there-within xs i e in omega arith

-- a place of a slot is one of the frame's slots
slot_place-room : (c : LiveContext) (n i : ℕ) → slot_place c n ≡ Some (Slot i) → i < length c.slots
slot_place-room c n i e = go (word_index 0 n) e
  where
    go : (o : Option ℕ) → option_and_then (λ i. if is_some (slice_get c.slots i) then Some (Slot i) else None) o ≡ Some (Slot i) → i < length c.slots
    go None f = absurd (grind arith)
    go (Some j) f = there-within c.slots i (grind arith)

-- a field's place is no slot
field_place-no_slot : (f : Option FieldTy) (i : ℕ) → field_place f ≢ Some (Slot i)
field_place-no_slot None i e = absurd (grind arith)
field_place-no_slot (Some t) i e = absurd (grind arith)

-- a method's place is no slot
method-no_slot : (g : Option ℕ) (i : ℕ) → option_map Method g ≢ Some (Slot i)
method-no_slot None i e = absurd (grind arith)
method-no_slot (Some g) i e = absurd (grind arith)

-- a display's place is no slot
display-no_slot : (r : Reg) (n i : ℕ) → display_place r n ≢ Some (Slot i)
display-no_slot r n i e = grind arith

-- a place at a base other than ESP is no slot
based-no_slot : (s : ShapesView) (c : LiveContext) (r : Reg) (t : Ty) (x : Option Reg) (k n i : ℕ) → based s c r t x k n ≢ Some (Slot i)
based-no_slot s c r t x k n i e = grind (arith, field_place-no_slot, method-no_slot, display-no_slot)

-- a slot that an operand means is one of the frame's
located-room : (s : ShapesView) (statics : List FieldTy) (c : LiveContext) (r x : Option Reg) (k n i : ℕ) → located s statics c r x k n ≡ Some (Slot i) → i < length c.slots
located-room s statics c None None k n i e = absurd (field_place-no_slot _ i e)
located-room s statics c None (Some x) k n i e = absurd (grind arith)
located-room s statics c (Some r) x k n i e = go (same r Esp) x e
  where
    go : (b : Bool) (x : Option Reg) → (if b then stack_place c x n else based s c r (c.regs r) x k n) ≡ Some (Slot i) → i < length c.slots
    go true None f = slot_place-room c n i f
    go true (Some y) f = absurd (grind arith)
    go false x f = absurd (based-no_slot s c r (c.regs r) x k n i f)

-- and so is that of an operand
pub place-room : (v : ShownImage) (c : LiveContext) (x : Operand) (i : ℕ) → operand_place v c x ≡ Some (Slot i) → i < length c.slots
unfolding operand_place
place-room v c (R r) i e = absurd (grind arith)
place-room v c (M m) i e = located-room v.shapes v.statics c m.base m.index m.scale m.disp i e
place-room v c (I n) i e = absurd (grind arith)
