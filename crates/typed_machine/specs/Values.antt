-- Values of the typed machine, their words, and which types they have.
use Rattle.std.specs.Prelude.{ℕ, ◌==◌, ◌&&◌, Bool, true, false, List, Option, Some, None, slice_get, slice_index, is_some}
use Rattle.std.specs.Option.{option_map_or}
use Rattle.object_layout.specs.Areas.{table_address, descriptor_address}
use Rattle.object_layout.specs.Classes.{ShapesView, Below, Element}
use Rattle.tal_types.specs.declared.types.Ty.{Ty}
use Rattle.tal_types.specs.declared.types.Ty.TheVariants as ty
use Rattle.tal_types.specs.Shown.{ShownImage}

-- a number; null; the object of this number in the store; the address of a function; the place that a return goes to; the
-- table of a class; the descriptor of an array kind
pub data Value : Type 0 where
  Number : ℕ → Value
  Null : Value
  Ref : ℕ → Value
  Code : ℕ → Value
  Ret : ℕ → Value
  Tab : ℕ → Value
  Desc : ℕ → Value

-- what an object is: one of a class, or an array of a kind with so many elements
pub data ObjectShape : Type 0 where
  InstanceOf : ℕ → ObjectShape
  ArrayOf : ℕ → ℕ → ObjectShape

-- the word of a value, over the places of the store's objects
unfoldable pub Word : List ℕ → Value → ℕ
Word places (Number w) = w
Word places Null = 0
Word places (Ref i) = slice_index places i
Word places (Code a) = a
Word places (Ret a) = a
Word places (Tab c) = table_address c
Word places (Desc k) = descriptor_address k

-- ---- which types a value has

-- an object of a class below c
abbrev pub is_instance : ShapesView → Option ObjectShape → ℕ → Bool
is_instance s None c = false
is_instance s (Some (InstanceOf d)) c = Below s d c
is_instance s (Some (ArrayOf k n)) c = false

-- an array of kind k
abbrev pub is_array : Option ObjectShape → ℕ → Bool
is_array None k = false
is_array (Some (InstanceOf d)) k = false
is_array (Some (ArrayOf l n)) k = l == k

-- a function of signature g begins at the address
abbrev pub begins : ShownImage → ℕ → ℕ → Bool
begins v address g = option_map_or (λ h. h == g) (v.function_at address) false

-- The value has the type, over the shapes of the store's objects. Where the type is one of references, the object is among
-- those that live. A place to return to has no type.
unfoldable pub fits_among : ShownImage → (ℕ → Bool) → List ObjectShape → Value → Ty → Bool
fits_among v live os (Number w) ty.Num = true
fits_among v live os (Number w) ty.Junk = true
fits_among v live os (Number w) t = false
fits_among v live os Null (ty.Ref c) = true
fits_among v live os Null (ty.ArrRef k) = true
fits_among v live os Null (ty.Fun g) = true
fits_among v live os Null ty.Junk = true
fits_among v live os Null t = false
fits_among v live os (Ref i) (ty.Ref c) = live i && is_instance v.shapes (slice_get os i) c
fits_among v live os (Ref i) (ty.Obj c) = live i && is_instance v.shapes (slice_get os i) c
fits_among v live os (Ref i) (ty.ArrRef k) = live i && is_array (slice_get os i) k
fits_among v live os (Ref i) (ty.Arr k) = live i && is_array (slice_get os i) k
fits_among v live os (Ref i) ty.Junk = is_some (slice_get os i)
fits_among v live os (Ref i) t = false
fits_among v live os (Code a) (ty.Fun g) = begins v a g
fits_among v live os (Code a) (ty.Code g) = begins v a g
fits_among v live os (Code a) ty.Junk = true
fits_among v live os (Code a) t = false
fits_among v live os (Ret a) t = false
fits_among v live os (Tab d) (ty.Tab c) = Below v.shapes d c
fits_among v live os (Tab d) ty.Junk = true
fits_among v live os (Tab d) t = false
fits_among v live os (Desc l) (ty.Desc k) = (l == k) && is_some (Element v.shapes k)
fits_among v live os (Desc l) ty.Junk = true
fits_among v live os (Desc l) t = false

-- every object
abbrev pub all_objects : ℕ → Bool
all_objects i = true

-- the value has the type
abbrev pub Fits : ShownImage → List ObjectShape → Value → Ty → Bool
Fits v os w t = fits_among v all_objects os w t
