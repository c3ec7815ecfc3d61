use Rattle.std.specs.Prelude.{◌≡◌, ℕ, ◌==◌, Bool, true, false, ◌||◌}
use Rattle.object_layout.specs.declared.rows.FieldTy.{FieldTy}
use Rattle.object_layout.specs.declared.rows.FieldTy.TheVariants.{Num as NumField, Ref as RefField, ArrRef as ArrRefField, Fun as FunField}
use Rattle.object_layout.specs.Classes.{ShapesView, Below}
use Rattle.tal_types.specs.declared.types.Ty.{Ty}
use Rattle.tal_types.specs.declared.types.Ty.TheVariants.{Num, Ref, Obj, ArrRef, Arr, Fun, Code, Tab, Desc, Junk}

-- Types and their order.

-- the type of what a field, a static or an element holds
unfoldable pub of_field : FieldTy → Ty
of_field NumField = Num
of_field (RefField c) = Ref c
of_field (ArrRefField k) = ArrRef k
of_field (FunField g) = Fun g

-- class c is d, or has d as an ancestor
unfoldable pub within : ShapesView → ℕ → ℕ → Bool
within s c d = (c == d) || Below s c d

-- whether the first type is below the second: whatever has it has the second, too. Types are below
-- themselves and Junk; what is surely there is below what may be null; and a class is below its ancestors
unfoldable pub sub : ShapesView → Ty → Ty → Bool
sub s t Junk = true
sub s Num Num = true
sub s (Obj c) (Obj d) = within s c d
sub s (Obj c) (Ref d) = within s c d
sub s (Ref c) (Ref d) = within s c d
sub s (Tab c) (Tab d) = within s c d
sub s (Arr k) (Arr l) = k == l
sub s (Arr k) (ArrRef l) = k == l
sub s (ArrRef k) (ArrRef l) = k == l
sub s (Desc k) (Desc l) = k == l
sub s (Code g) (Code h) = g == h
sub s (Code g) (Fun h) = g == h
sub s (Fun g) (Fun h) = g == h
sub s _ _ = false

-- the first type is below the second
abbrev pub SubType : ShapesView → Ty → Ty → Type 0
SubType s t u = sub s t u ≡ true
