-- The store: its objects by their numbers, the data arrays first. It only grows, and an object's place never changes.
use Rattle.std.specs.Prelude.{ℕ, zero, suc, ◌+◌, ◌-◌, ◌*◌, nat_lt, List, [], ◌∷◌, ◌++◌, length, map, replicate, Option, None, slice_get, slice_set, if◌then◌else◌}
use Rattle.std.specs.Option.{option_and_then, option_map_or}
use Rattle.object_layout.specs.declared.rows.FieldTy.{FieldTy}
use Rattle.object_layout.specs.declared.rows.FieldTy.TheVariants as field
use Rattle.object_layout.specs.declared.rows.Shape.{Shape}
use Rattle.object_layout.specs.declared.rows.Shape.TheVariants.{Class, Kind}
use Rattle.object_layout.specs.Areas.{statics_start}
use Rattle.object_layout.specs.Classes.{ShapesView, Fields, Element, Need}
use Rattle.tal_image.specs.declared.parts.ArrayPart.{ArrayPart}
use Rattle.tal_image.specs.Image.{ImageParts}
use Rattle.tal_image.specs.Conditions.{array_places}
use Rattle.tal_image.specs.Shown.{shapes_of}
use Rattle.typed_machine.specs.Values.{Value, Number, Null, ObjectShape, InstanceOf, ArrayOf}

-- an object: its shape, its place, and the values of its fields or elements
pub record Object : Type 0 where
  pub shape : ObjectShape
  pub place : ℕ
  pub values : List Value

abbrev pub Store : Type 0
Store = List Object

-- the shapes and the places of the objects
abbrev pub shapes_in : Store → List ObjectShape
shapes_in store = map (λ (o : Object). o.shape) store

abbrev pub places_in : Store → List ℕ
places_in store = map (λ (o : Object). o.place) store

-- the class or the kind of an object, and the number of its elements, 0 of one of a class
abbrev pub shape_in : ObjectShape → Shape
shape_in (InstanceOf c) = Class c
shape_in (ArrayOf k n) = Kind k

abbrev pub elements_in : ObjectShape → ℕ
elements_in (InstanceOf c) = 0
elements_in (ArrayOf k n) = n

-- the words of an object's block in the heap
abbrev pub need : ShapesView → ObjectShape → ℕ
need s shape = Need s (shape_in shape) (elements_in shape)

-- the type of value j of an object: of a field, or of an element
unfoldable pub value_type : ShapesView → ObjectShape → ℕ → Option FieldTy
value_type s (InstanceOf c) j = slice_get (Fields s c) j
value_type s (ArrayOf k n) j = if nat_lt j n then Element s k else None

-- how many values an object has
unfoldable pub value_count : ShapesView → ObjectShape → ℕ
value_count s (InstanceOf c) = length (Fields s c)
value_count s (ArrayOf k n) = n

-- value j of object i
unfoldable pub value_at : Store → ℕ → ℕ → Option Value
value_at store i j = option_and_then (λ (o : Object). slice_get o.values j) (slice_get store i)

-- the object with another value j
abbrev pub with_value : ℕ → Value → Object → Object
with_value j w o = record o { values = slice_set o.values j w }

-- the store whose object i has another value j
abbrev pub set_value : Store → ℕ → ℕ → Value → Store
set_value [] i j w = []
set_value (o ∷ os) zero j w = with_value j w o ∷ os
set_value (o ∷ os) (suc i) j w = o ∷ set_value os i j w

-- what a static, a field or an element starts as
unfoldable pub zero_of : FieldTy → Value
zero_of field.Num = Number 0
zero_of (field.Ref c) = Null
zero_of (field.ArrRef k) = Null
zero_of (field.Fun g) = Null

-- ---- the data arrays as they are at first

-- the elements of a data array: the numbers that the image gives, and 0 or null behind them
abbrev pub first_elements : ShapesView → ArrayPart → List Value
first_elements s a = map Number a.numbers ++ replicate (a.size - length a.numbers) (option_map_or zero_of (Element s a.kind) Null)

-- the data arrays at these places
abbrev pub data_objects : ShapesView → List ArrayPart → List ℕ → Store
data_objects s [] places = []
data_objects s (a ∷ arrays) [] = []
data_objects s (a ∷ arrays) (place ∷ places) =
    record { shape = ArrayOf a.kind a.size; place = place; values = first_elements s a } ∷ data_objects s arrays places

-- the store before the first turn: the data arrays, which follow the last static without a gap
unfoldable pub first_store : ImageParts → Store
first_store image = data_objects (shapes_of image) image.arrays (array_places (statics_start + 4 * length image.statics) image.arrays)
