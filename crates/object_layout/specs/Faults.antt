use Rattle.std.specs.Prelude.{◌≡◌, ℕ, zero, suc, ◌==◌, Bool, true, false, not, ◌&&◌, ◌||◌, nat_lt, nat_le, List, [], ◌∷◌, length, Option, None, Some, if◌then◌else◌}
use Rattle.std.specs.Option.{option_or, option_map_or}
use Rattle.std.specs.List.{list_all}
use Rattle.object_layout.specs.declared.rows.FieldTy.{FieldTy}
use Rattle.object_layout.specs.declared.rows.FieldTy.TheVariants.{Num, Ref, ArrRef, Fun}
use Rattle.object_layout.specs.declared.faults.ShapeFault.{ShapeFault}
use Rattle.object_layout.specs.declared.faults.ShapeFault.TheVariants.{BadParent, TooDeep, TooMany, BadIndex, BadMethod}
use Rattle.object_layout.specs.Classes.{ShapesView, parent, own_fields, Methods, Fields, Depth, signatures, Element}

-- Which rows are a table: no row has a fault. The faults of a row are tried in the order of `ShapeFault`.

-- the parent, where there is one, is an earlier class
unfoldable pub has_earlier_parent : ShapesView → ℕ → Bool
has_earlier_parent s c = option_map_or (λ p. nat_lt p c) (parent s c) true

-- more than 256 fields or 53 methods, or the 1025th class
unfoldable pub is_too_many : ShapesView → ℕ → Bool
is_too_many s c = nat_lt 256 (length (Fields s c)) || (nat_lt 53 (length (Methods s c)) || nat_le 1024 c)

-- the class, kind or signature that a type names is there
unfoldable pub is_type : ShapesView → FieldTy → Bool
is_type s Num = true
is_type s (Ref c) = nat_lt c (length s.classes)
is_type s (ArrRef k) = nat_lt k (length s.kinds)
is_type s (Fun g) = nat_lt g s.sigs

-- all that the row names is there
unfoldable pub has_indexes : ShapesView → ℕ → Bool
has_indexes s c = list_all (is_type s) (own_fields s c) && list_all (λ f. nat_lt f (length s.funs)) (Methods s c)

-- the second list begins with the first
unfoldable pub is_front : List ℕ → List ℕ → Bool
is_front [] ys = true
is_front (x ∷ xs) [] = false
is_front (x ∷ xs) (y ∷ ys) = (x == y) && is_front xs ys

-- the parent's method slots are there, with their signatures
unfoldable pub keeps_methods : ShapesView → ℕ → Bool
keeps_methods s c = option_map_or (λ p. is_front (signatures s p) (signatures s c)) (parent s c) true

-- the first fault of class row c
unfoldable pub class_fault : ShapesView → ℕ → Option ShapeFault
class_fault s c =
    if not (has_earlier_parent s c) then Some (BadParent c)
    else if nat_lt 7 (Depth s c) then Some (TooDeep c)
    else if is_too_many s c then Some (TooMany c)
    else if not (has_indexes s c) then Some (BadIndex c)
    else if not (keeps_methods s c) then Some (BadMethod c)
    else None

-- the first fault of kind row k
unfoldable pub kind_fault : ShapesView → ℕ → Option ShapeFault
kind_fault s k =
    if nat_le 256 k then Some (TooMany k)
    else if not (option_map_or (is_type s) (Element s k) true) then Some (BadIndex k)
    else None

-- the first fault of the rows 0 to n - 1
unfoldable pub first_below : ℕ → (ℕ → Option ShapeFault) → Option ShapeFault
first_below zero fault = None
first_below (suc n) fault = option_or (first_below n fault) (fault n)

-- the first fault of the first bad row, classes before kinds
unfoldable pub first_fault : ShapesView → Option ShapeFault
first_fault s = option_or (first_below (length s.classes) (class_fault s)) (first_below (length s.kinds) (kind_fault s))

-- no row has a fault
pub record IsTable (s : ShapesView) : Type 0 where
  pub sound : first_fault s ≡ None
