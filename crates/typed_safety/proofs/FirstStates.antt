-- The first state of a well typed image is typed.
use Rattle.std.proofs.Common.{◌≡◌, ◌⊎◌, inl, inr, ◌∙◌, sym, ap, subst, ◌≤◌, ◌<◌, ◌+◌, ◌-◌, ◌*◌, ◌^◌, ◌==◌, ℕ, zero, suc, true, false, nat_lt, if◌then◌else◌, Option, Some, None, arith, refl, List, [], ◌∷◌, ◌++◌, length, map, replicate, slice_get, ⊎_elim, length-append}
use Rattle.std.specs.Option.{option_map, option_and_then, option_map_or}
use Rattle.std.proofs.lemmas.Bool.Decides.{nat_tests}
use Rattle.std.proofs.lemmas.List.{length-map, length-replicate}
use Rattle.std.proofs.lemmas.Option.{slice_get-map, slice_get_within}
use Rattle.object_layout.specs.declared.rows.FieldTy.{FieldTy}
use Rattle.object_layout.specs.declared.rows.FieldTy.TheVariants as field
use Rattle.object_layout.specs.declared.rows.KindRow.{KindRow}
use Rattle.object_layout.specs.Areas.{statics_start, heap_start}
use Rattle.object_layout.specs.Classes.{ShapesView, Element, IsShape}
use Rattle.tal_types.specs.Types.{of_field}
use Rattle.tal_image.specs.declared.parts.ArrayPart.{ArrayPart}
use Rattle.tal_image.specs.declared.parts.DataRow.{DataRow}
use Rattle.tal_image.specs.declared.parts.Tables.{Tables}
use Rattle.tal_image.specs.Image.{ImageParts, type_tag}
use Rattle.tal_image.specs.Conditions.{array_places, with_array, numbers_given}
use Rattle.tal_image.specs.Formed.{EachAfter, ArrayFits, Formed, tables}
use Rattle.tal_image.specs.Shown.{shown, shapes_of, data_row_in}
use Rattle.tal_checker.specs.Running.{RunsOn}
use Rattle.typed_machine.specs.Values.{Value, Number, Null, ArrayOf, fits_among, all_objects}
use Rattle.typed_machine.specs.Stores.{Object, shape_in, value_type, value_count, zero_of, first_elements, data_objects, first_store}
use Rattle.typed_machine.specs.States.{Stack, EmptyStack, RunningStack, first_stacks, first_state}
use Rattle.typed_machine.specs.Frames.{Scope, fits_in}
use Rattle.typed_machine.specs.Typing.{StackFits, StaticsFit, StoreFits, IsArray, TypedAmong, Typed, scope_of}
use Rattle.typed_safety.proofs.FormedImages.{each-row}
use Rattle.typed_safety.proofs.Resuming.{starts-fit}

-- ---- stacks and statics

-- each of several copies is the one
pub copy-read : {A : Type 0} (n i : ℕ) (x y : A) → slice_get (replicate n x) i ≡ Some y → x ≡ y
copy-read zero i x y e = absurd (cc)
copy-read (suc n) zero x y e = cc
copy-read (suc n) (suc i) x y e = copy-read n i x y e

-- no stack has started but the first
stacks-fit : (l : Scope) (count n : ℕ) (stack : Stack) → slice_get (first_stacks count) n ≡ Some stack → StackFits l stack
stacks-fit l count zero stack e = let same : RunningStack ≡ stack = cc in subst (StackFits l) same tt
stacks-fit l count (suc n) stack e = subst (StackFits l) (copy-read (count - 1) n EmptyStack stack e) tt

-- the first alone runs
first-runs : (count n : ℕ) → slice_get (first_stacks count) n ≡ Some RunningStack → n ≡ 0
first-runs count zero e = refl
first-runs count (suc n) e = absurd (let same = copy-read (count - 1) n EmptyStack RunningStack e in cc)

-- what a value starts as has its type
pub zero-fits : (l : Scope) (t : FieldTy) → fits_in l (zero_of t) (of_field t) ≡ true
unfolding zero_of fits_among of_field
zero-fits l t = grind arith

-- the type of a number
number-field : (t : FieldTy) → (type_tag (of_field t) == 0) ≡ true → t ≡ field.Num
unfolding type_tag of_field
number-field field.Num h = refl
number-field t h = absurd (grind (arith, nat_tests))

-- a number has it
number-fits : (l : Scope) (n : ℕ) → fits_in l (Number n) (of_field field.Num) ≡ true
unfolding of_field fits_among
number-fits l n = refl

-- the statics
first-statics : (l : Scope) → StaticsFit l (map zero_of l.image.statics)
first-statics l = record {
  count = length-map l.image.statics zero_of;
  fit = λ j t w is read. let value : Some (zero_of t) ≡ Some w = ap (option_map zero_of) (sym is) ∙ (sym (slice_get-map zero_of l.image.statics j) ∙ read) in
      let same : zero_of t ≡ w = cc in subst (λ x. fits_in l x (of_field t) ≡ true) same (zero-fits l t);
}

-- ---- the data arrays

-- a data array as it is at first, at a place
abbrev pub laid_out : ShapesView → ArrayPart → ℕ → Object
laid_out s a place = record { shape = ArrayOf a.kind a.size; place = place; values = first_elements s a }

-- an object of the first store is a data array at its place
record Laid (s : ShapesView) (arrays : List ArrayPart) (places : List ℕ) (d : ℕ) (o : Object) : Type 0 where
  part : ArrayPart
  place : ℕ
  is_part : slice_get arrays d ≡ Some part
  is_place : slice_get places d ≡ Some place
  is_object : laid_out s part place ≡ o

laid-read : (s : ShapesView) (arrays : List ArrayPart) (places : List ℕ) (d : ℕ) (o : Object) → slice_get (data_objects s arrays places) d ≡ Some o → Laid s arrays places d o
laid-read s [] places d o e = absurd (cc)
laid-read s (a ∷ arrays) [] d o e = absurd (cc)
laid-read s (a ∷ arrays) (p ∷ places) zero o e = record { part = a; place = p; is_part = refl; is_place = refl; is_object = cc }
laid-read s (a ∷ arrays) (p ∷ places) (suc d) o e =
    let r = laid-read s arrays places d o e in record { part = r.part; place = r.place; is_part = r.is_part; is_place = r.is_place; is_object = r.is_object }

-- each data array is there
laid-there : (s : ShapesView) (arrays : List ArrayPart) (places : List ℕ) (d : ℕ) (a : ArrayPart) (place : ℕ) → slice_get arrays d ≡ Some a → slice_get places d ≡ Some place
    → slice_get (data_objects s arrays places) d ≡ Some (laid_out s a place)
laid-there s [] places d a place e f = absurd (cc)
laid-there s (b ∷ arrays) [] d a place e f = absurd (cc)
laid-there s (b ∷ arrays) (p ∷ places) zero a place e f = let part : b ≡ a = cc in let same : p ≡ place = cc in rw (part, same) refl
laid-there s (b ∷ arrays) (p ∷ places) (suc d) a place e f = laid-there s arrays places d a place e f

-- conditions 21 and 22: the places of data arrays, which are below the heap
pub places-low : (t : Tables) (kinds : List KindRow) (used : ℕ) (arrays : List ArrayPart) (d place : ℕ) → EachAfter with_array (λ later used a. ArrayFits t kinds used a) used arrays
    → slice_get (array_places (statics_start + 4 * used) arrays) d ≡ Some place → (0 < place) × (place < heap_start)
unfolding array_places
places-low t kinds used [] d place h e = absurd (cc)
places-low t kinds used (a ∷ arrays) zero place h e =
    let fits = h.0.condition_22 in
    let same : statics_start + 4 * used ≡ place = cc in
    rw (← same) (omega arith, grind (arith, nat_tests))
places-low t kinds used (a ∷ arrays) (suc d) place h e =
    let next : statics_start + 4 * used + 4 * (2 + a.size) ≡ statics_start + 4 * (used + 2 + a.size) = omega arith in
    places-low t kinds (used + 2 + a.size) arrays d place h.1 (subst (λ n. slice_get (array_places n arrays) d ≡ Some place) next e)

-- what is below the heap is a word
below-word : (n : ℕ) → n < heap_start → n < 2 ^ 32
below-word n h = omega (arith, h)

-- an element at first is a number that the image gives, or what elements start as
element_read : (ns : List ℕ) (m j : ℕ) (z w : Value) → slice_get (map Number ns ++ replicate m z) j ≡ Some w → ((0 < length ns) × ((n : ℕ) × (w ≡ Number n))) ⊎ (z ≡ w)
element_read [] m j z w e = inr (copy-read m j z w e)
element_read (n ∷ ns) m zero z w e = inl (omega arith, (n, cc))
element_read (n ∷ ns) m (suc j) z w e = ⊎_elim
    (λ (x : (0 < length ns) × ((k : ℕ) × (w ≡ Number k))). inl (omega arith, x.1))
    (λ (x : z ≡ w). inr x)
    (element_read ns m j z w e)

-- a test of two numbers
below-test : (a b : ℕ) → nat_lt a b ≡ true → a < b
below-test a b h = grind (arith, nat_tests)

-- the scope of a first store
abbrev first_scope : ImageParts → Scope
first_scope image = scope_of image all_objects (first_state image)

module _ (image : ImageParts) (formed : Formed image) where
  -- where the data arrays stand
  abbrev places : List ℕ
  places = array_places (statics_start + 4 * length image.statics) image.arrays

  -- a data array of the image meets its conditions
  part-fits : (d : ℕ) (a : ArrayPart) → slice_get image.arrays d ≡ Some a → (later : ℕ) × (used : ℕ) × ArrayFits (tables image) image.kinds used a
  part-fits d a e = each-row with_array (λ later used b. ArrayFits (tables image) image.kinds used b) (length image.statics) image.arrays d a formed.arrays e

  -- its kind is there
  kind-there : (d : ℕ) (a : ArrayPart) → slice_get image.arrays d ≡ Some a → a.kind < length (shapes_of image).kinds
  unfolding shapes_of
  kind-there d a e = below-test a.kind (length image.kinds) (part-fits d a e).2.condition_21

  -- so many numbers are given as elements are numbers
  few-numbers : (d : ℕ) (a : ArrayPart) → slice_get image.arrays d ≡ Some a → length a.numbers ≤ a.size
  unfolding numbers_given
  few-numbers d a e = let fits = (part-fits d a e).2.count in grind arith

  -- where numbers are given, elements are numbers
  numbers-given : (d : ℕ) (a : ArrayPart) (t : FieldTy) → slice_get image.arrays d ≡ Some a → 0 < length a.numbers → Element (shapes_of image) a.kind ≡ Some t → t ≡ field.Num
  unfolding numbers_given Element shapes_of
  numbers-given d a t e some is = go (slice_get image.kinds a.kind) is (part-fits d a e).2.count
    where
      go : (o : Option KindRow) → option_map (λ (row : KindRow). row.element) o ≡ Some t
          → length a.numbers ≡ (if option_map_or (λ (row : KindRow). type_tag (of_field row.element) == 0) o false then a.size else 0) → t ≡ field.Num
      go None f g = absurd (cc)
      go (Some row) f g =
          let same : row.element ≡ t = cc in
          let tag : (type_tag (of_field row.element) == 0) ≡ true = grind (arith) in
          number-field t (rw same at tag)

  -- the values of a data array fit
  elements-fit : (l : Scope) (d : ℕ) (a : ArrayPart) (j : ℕ) (t : FieldTy) (w : Value) → slice_get image.arrays d ≡ Some a
      → value_type (shapes_of image) (ArrayOf a.kind a.size) j ≡ Some t → slice_get (first_elements (shapes_of image) a) j ≡ Some w → fits_in l w (of_field t) ≡ true
  unfolding value_type
  elements-fit l d a j t w e is read = ⊎_elim
      (λ (x : (0 < length a.numbers) × ((n : ℕ) × (w ≡ Number n))). rw (x.1.1, numbers-given d a t e x.0 element) (number-fits l x.1.0))
      (λ (x : option_map_or zero_of (Element (shapes_of image) a.kind) Null ≡ w).
      let value : option_map_or zero_of (Element (shapes_of image) a.kind) Null ≡ zero_of t = rw element refl in
      subst (λ v. fits_in l v (of_field t) ≡ true) (sym value ∙ x) (zero-fits l t))
      (element_read a.numbers (a.size - length a.numbers) j (option_map_or zero_of (Element (shapes_of image) a.kind) Null) w read)
    where
      element : Element (shapes_of image) a.kind ≡ Some t
      element = grind arith

  -- as many values as a data array has elements
  elements-count : (d : ℕ) (a : ArrayPart) → slice_get image.arrays d ≡ Some a → length (first_elements (shapes_of image) a) ≡ a.size
  elements-count d a e =
      let z = option_map_or zero_of (Element (shapes_of image) a.kind) Null in
      let whole = length-append (map Number a.numbers) (replicate (a.size - length a.numbers) z) in
      let numbers = length-map a.numbers Number in
      let rest = length-replicate (a.size - length a.numbers) z in
      let few = few-numbers d a e in
      omega arith

  -- a data array by its row
  array-first : (d : ℕ) (row : DataRow) → data_row_in image d ≡ Some row → IsArray (data_objects (shapes_of image) image.arrays places) d row
  unfolding data_row_in
  array-first d row e = go (slice_get image.arrays d) refl (slice_get places d) refl e
    where
      go : (o : Option ArrayPart) → slice_get image.arrays d ≡ o → (p : Option ℕ) → slice_get places d ≡ p
          → option_and_then (λ (a : ArrayPart). option_map (λ place. record { place = place; kind = a.kind; length = a.size }) p) o ≡ Some row
          → IsArray (data_objects (shapes_of image) image.arrays places) d row
      go None f p g h = absurd (cc)
      go (Some a) f None g h = absurd (cc)
      go (Some a) f (Some place) g h =
          let is : record { place = place; kind = a.kind; length = a.size } ≡ row = cc in
          subst (IsArray (data_objects (shapes_of image) image.arrays places) d) is
          (record { object = laid_out (shapes_of image) a place; here = laid-there (shapes_of image) image.arrays places d a place f g; shape = refl; place = refl })

  -- the data arrays
  first-arrays : StoreFits (first_scope image) (first_state image).store
  unfolding first_state first_store shown value_count
  first-arrays = record {
    shapes = refl;
    arrays = array-first;
    arrays_live = λ d row e. refl;
    there = λ i o e. let r = read i o e in subst (λ (x : Object). IsShape (shapes_of image) (shape_in x.shape)) r.is_object (kind-there i r.part r.is_part);
    counts = λ i o e. let r = read i o e in subst (λ (x : Object). length x.values ≡ value_count (shapes_of image) x.shape) r.is_object (elements-count i r.part r.is_part);
    placed = λ i o e. let r = read i o e in let low = places-low (tables image) image.kinds (length image.statics) image.arrays i r.place formed.arrays r.is_place in
        subst (λ (x : Object). (0 < x.place) × (x.place < 2 ^ 32)) r.is_object (low.0, below-word r.place low.1);
    fit = λ i j o t w alive e is value. let r = read i o e in
        elements-fit (first_scope image) i r.part j t w r.is_part
        (ap (λ (x : Object). value_type (shapes_of image) x.shape j) r.is_object ∙ is)
        (ap (λ (x : Object). slice_get x.values j) r.is_object ∙ value);
  }
    where
      read : (i : ℕ) (o : Object) → slice_get (data_objects (shapes_of image) image.arrays places) i ≡ Some o → Laid (shapes_of image) image.arrays places i o
      read i o e = laid-read (shapes_of image) image.arrays places i o e

  -- the first state
  first-among : RunsOn image → TypedAmong image all_objects (first_state image)
  unfolding first_state
  first-among runs = record {
    thread = starts-fit (first_scope image) runs 0 some;
    others = stacks-fit (first_scope image) image.stacks;
    one = refl;
    only = first-runs image.stacks;
    kernel = tt;
    count = let copies = length-replicate (image.stacks - 1) EmptyStack in let few = some in omega arith;
    statics = first-statics (first_scope image);
    store = first-arrays;
  }
    where
      some : 0 < image.stacks
      some = let h = formed.condition_2 in grind (arith, nat_tests)

  -- it has no object of the heap
  pub first-typed : RunsOn image → Typed image (first_state image)
  unfolding first_state first_store
  first-typed runs = record {
    among = first-among runs;
    heap = record {
      lie = λ i o h. absurd (none i o h.behind h.here);
      apart = λ i j o p differ h k. absurd (none i o h.behind h.here);
    };
  }
    where
      none : (i : ℕ) (o : Object) → length image.arrays ≤ i → slice_get (data_objects (shapes_of image) image.arrays places) i ≡ Some o → ⊥
      none i o behind e =
          let r = laid-read (shapes_of image) image.arrays places i o e in
          let low = slice_get_within image.arrays i r.part r.is_part in
          omega (arith, behind, low)
