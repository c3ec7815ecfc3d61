-- What is used of a typed state, of its roots and of the words that stand for it.
use Rattle.std.proofs.Common.{◌≡◌, ℕ, ◌+◌, ◌*◌, ◌^◌, ◌<◌, ◌≤◌, ◌↔◌, Bool, true, false, IsTrue, nat_lt, nat_le, Option, Some, None, List, [], ◌∷◌, length, map, slice_get, slice_index, zero, suc, arith, refl, sym, ◌∙◌, ap, subst}
use Rattle.std.proofs.lemmas.Bool.{false≢true}
use Rattle.std.proofs.lemmas.Bool.Decides.{nat_tests}
use Rattle.std.proofs.lemmas.Option.{slice_get_within}
use Rattle.std.specs.Option.{option_map, option_and_then}
use Rattle.object_layout.specs.declared.rows.FieldTy.{FieldTy}
use Rattle.object_layout.specs.declared.rows.FieldTy.TheVariants as field
use Rattle.object_layout.specs.declared.rows.Shape.{Shape}
use Rattle.object_layout.specs.declared.rows.KindRow.{KindRow}
use Rattle.object_layout.specs.Areas.{heap_start, statics_start}
use Rattle.object_layout.specs.Classes.{ShapesView, IsShape, is_reference}
use Rattle.object_layout.specs.Laws.{ClassLaws}
use Rattle.mark_sweep.specs.Objects.{IsObject, IsReference, holds_reference, shape_named, shape_word}
use Rattle.tal_types.specs.declared.types.Ty.{Ty}
use Rattle.tal_types.specs.declared.types.Ty.TheVariants as ty
use Rattle.tal_types.specs.Types.{of_field}
use Rattle.tal_types.specs.Shown.{ShownImage}
use Rattle.tal_image.specs.declared.parts.ArrayPart.{ArrayPart}
use Rattle.tal_image.specs.declared.parts.DataRow.{DataRow}
use Rattle.tal_image.specs.declared.parts.Tables.{Tables}
use Rattle.tal_image.specs.Conditions.{array_places, with_array}
use Rattle.tal_image.specs.Image.{ImageParts}
use Rattle.tal_image.specs.Shown.{shown, shapes_of, data_row_in}
use Rattle.tal_image.specs.Formed.{Formed, EachAfter, tables}
use Rattle.tal_image.specs.Formed.{ArrayFits}
use Rattle.tal_checker.specs.Frames.{may_refer}
use Rattle.typed_machine.specs.Values.{Value, Number, Null, Ref, Word, ObjectShape, InstanceOf, ArrayOf, is_instance, is_array, fits_among, all_objects}
use Rattle.typed_machine.specs.Stores.{Object, Store, shape_in, shapes_in, places_in, value_type, value_count}
use Rattle.typed_machine.specs.States.{State}
use Rattle.typed_machine.specs.Typing.{IsArray, StoreFits, TypedAmong, scope_of}
use Rattle.typed_machine.specs.Reaching.{Reach, names, references_of}
use Rattle.reached_objects.specs.ReachedFrom.{ReachedFrom}
use Rattle.typed_heap.specs.Standing.{ObjectStands, refers_within, RootsRefer, RootsStand}
use Rattle.typed_heap.proofs.Lists.{At, at-index}
use Rattle.typed_heap.proofs.ShapeWords.{Refers, type_some}

-- what lower crates tell
pub record Told : Type 0 where
  pub lie_within : (s : ShapesView) (words : List ℕ) (i k : ℕ) → IsObject s words i → IsTrue (holds_reference s (shape_named (slice_index words (i + 2))) (slice_index words (i + 3)) k) → IsReference s words i k
  pub come_back : (s : ShapesView) (shape : Shape) → length s.classes ≤ 1024 → IsShape s shape → shape_named (shape_word shape) ≡ shape
  pub classes : (image : ImageParts) → Formed image → ClassLaws (shapes_of image)
  pub least : (s : ShapesView) (store : Store) (values : List Value) (i : ℕ) → (Reach s store values i ≡ true) ↔ ReachedFrom s store values i

-- what is used of a store: its objects are of the image's shapes, references in them are null or objects, and the first
-- objects, so many as there are data arrays, stand below the heap
pub record StoreTold (s : ShapesView) (arrays : ℕ) (store : Store) : Type 0 where
  pub few : length s.classes ≤ 1024
  pub there : (i : ℕ) (o : Object) → slice_get store i ≡ Some o → IsShape s (shape_in o.shape)
  pub counts : (i : ℕ) (o : Object) → slice_get store i ≡ Some o → length o.values ≡ value_count s o.shape
  pub refer : (i j : ℕ) (o : Object) (v : Value) → slice_get store i ≡ Some o → Refers s o.shape j → slice_get o.values j ≡ Some v → refers_within (length store) v ≡ true
  pub inside : (i j k : ℕ) (o : Object) → slice_get store i ≡ Some o → slice_get o.values j ≡ Some (Ref k) → k < length store
  pub low : (i : ℕ) (o : Object) → i < arrays → slice_get store i ≡ Some o → o.place < heap_start

-- and with roots
pub record Facts (s : ShapesView) (arrays : ℕ) (store : Store) (roots : List Value) (words list : List ℕ) : Type 0 where
  pub told : StoreTold s arrays store
  pub rooted : (k : ℕ) (v : Value) → slice_get roots k ≡ Some v → refers_within (length store) v ≡ true
  pub arrays_named : (i j : ℕ) (o : Object) → i < arrays → slice_get store i ≡ Some o → names (references_of s o) j ≡ true → names roots j ≡ true
  pub stands : (i : ℕ) (o : Object) → ReachedFrom s store roots i → arrays ≤ i → slice_get store i ≡ Some o → ObjectStands s (places_in store) words o
  pub lists : list ≡ map (Word (places_in store)) roots

-- ---- typed values

-- as many shapes as objects
shapes-long : (store : Store) → length (shapes_in store) ≡ length store
shapes-long [] = refl
shapes-long (o ∷ store) = ap suc (shapes-long store)

instance-there : (s : ShapesView) (o : Option ObjectShape) (c : ℕ) → is_instance s o c ≡ true → (x : ObjectShape) × (o ≡ Some x)
instance-there s None c e = absurd (false≢true e)
instance-there s (Some x) c e = (x, refl)

array-there : (o : Option ObjectShape) (k : ℕ) → is_array o k ≡ true → (x : ObjectShape) × (o ≡ Some x)
array-there None k e = absurd (false≢true e)
array-there (Some x) k e = (x, refl)

some-within : (store : Store) (i : ℕ) → (x : ObjectShape) × (slice_get (shapes_in store) i ≡ Some x) → i < length store
some-within store i (x, e) = let l = slice_get_within (shapes_in store) i x e in let n = shapes-long store in omega arith

-- a reference with the type of a field is an object
pub reference_within : (v : ShownImage) (store : Store) (i : ℕ) (t : FieldTy) → fits_among v all_objects (shapes_in store) (Ref i) (of_field t) ≡ true → i < length store
unfolding fits_among of_field
reference_within v store i field.Num h = absurd (false≢true h)
reference_within v store i (field.Fun g) h = absurd (false≢true h)
reference_within v store i (field.Ref c) h = some-within store i (instance-there v.shapes (slice_get (shapes_in store) i) c h)
reference_within v store i (field.ArrRef k) h = some-within store i (array-there (slice_get (shapes_in store) i) k h)

below-true : (i n : ℕ) → i < n → nat_lt i n ≡ true
below-true i n l = grind (arith, nat_tests)

-- so is one with a type of references
pub reference_there : (v : ShownImage) (store : Store) (i : ℕ) (t : Ty) → may_refer t ≡ true → fits_among v all_objects (shapes_in store) (Ref i) t ≡ true → nat_lt i (length store) ≡ true
unfolding fits_among may_refer
reference_there v store i (ty.Ref c) m h = below-true i (length store) (some-within store i (instance-there v.shapes (slice_get (shapes_in store) i) c h))
reference_there v store i (ty.Obj c) m h = below-true i (length store) (some-within store i (instance-there v.shapes (slice_get (shapes_in store) i) c h))
reference_there v store i (ty.ArrRef k) m h = below-true i (length store) (some-within store i (array-there (slice_get (shapes_in store) i) k h))
reference_there v store i (ty.Arr k) m h = below-true i (length store) (some-within store i (array-there (slice_get (shapes_in store) i) k h))
reference_there v store i t m h = absurd (false≢true m)

-- a value with the type of a reference field is null or an object
pub value-refers : (v : ShownImage) (store : Store) (w : Value) (t : FieldTy) → is_reference t ≡ true → fits_among v all_objects (shapes_in store) w (of_field t) ≡ true → refers_within (length store) w ≡ true
unfolding fits_among of_field is_reference
value-refers v store (Ref i) t e h = below-true i (length store) (reference_within v store i t h)
value-refers v store Null t e h = refl
value-refers v store w field.Num e h = absurd (false≢true e)
value-refers v store w (field.Fun g) e h = absurd (false≢true e)
value-refers v store w (field.Ref c) e h = absurd (false≢true h)
value-refers v store w (field.ArrRef k) e h = absurd (false≢true h)

-- ---- data arrays

-- conditions 21 and 22: data arrays stand below the heap
arrays-low : (t : Tables) (kinds : List KindRow) (used : ℕ) (arrays : List ArrayPart) (d place : ℕ) → EachAfter with_array (λ later used a. ArrayFits t kinds used a) used arrays
    → slice_get (array_places (statics_start + 4 * used) arrays) d ≡ Some place → place < heap_start
unfolding array_places
arrays-low t kinds used [] d place h e = cc
arrays-low t kinds used (a ∷ arrays) zero place h e =
    let fits = h.0.condition_22 in
    let same : statics_start + 4 * used ≡ place = cc in
    rw (← same) (grind (arith, nat_tests))
arrays-low t kinds used (a ∷ arrays) (suc d) place h e =
    let next : statics_start + 4 * used + 4 * (2 + a.size) ≡ statics_start + 4 * (used + 2 + a.size) = omega arith in
    arrays-low t kinds (used + 2 + a.size) arrays d place h.1 (subst (λ n. slice_get (array_places n arrays) d ≡ Some place) next e)

-- as many places as arrays
places-long : (a : ℕ) (arrays : List ArrayPart) → length (array_places a arrays) ≡ length arrays
unfolding array_places
places-long a [] = refl
places-long a (p ∷ arrays) = ap suc (places-long (a + 4 * (2 + p.size)) arrays)

-- ---- a typed state

module _ (told : Told) (image : ImageParts) (s : State) (formed : Formed image) (typed : TypedAmong image all_objects s) where
  abbrev fits : StoreFits (scope_of image all_objects s) s.store
  fits = typed.store

  -- a data array stands below the heap
  array-low : (i : ℕ) (o : Object) → i < length image.arrays → slice_get s.store i ≡ Some o → o.place < heap_start
  unfolding data_row_in
  array-low i o l e =
      let part = at-index image.arrays i l in
      let n = places-long (statics_start + 4 * length image.statics) image.arrays in
      let place = at-index (array_places (statics_start + 4 * length image.statics) image.arrays) i (omega arith) in
      let row : DataRow = record { place = place.item; kind = part.item.kind; length = part.item.size } in
      let is = fits.arrays i row (rw (part.is, place.is) refl) in
      let same : is.object ≡ o = the-same is.object is.here in
      let low = arrays-low (tables image) image.kinds (length image.statics) image.arrays i place.item formed.arrays place.is in
      subst (λ p. p < heap_start) (sym (ap (λ (x : Object). x.place) (sym same) ∙ is.place)) low
    where
      the-same : (p : Object) → slice_get s.store i ≡ Some p → p ≡ o
      the-same p h = cc

  -- it has few classes
  few : length (shown image).shapes.classes ≤ 1024
  unfolding shown
  few = (told.classes image formed).few_classes

  -- what is used of its store
  pub store-told : StoreTold (shown image).shapes (length image.arrays) s.store
  store-told = record {
    few = few;
    there = fits.there;
    counts = fits.counts;
    refer = λ i j o v e r h. value-refers (shown image) s.store v r.type r.refers (fits.fit i j o r.type v refl e r.typed h);
    inside = inside;
    low = array-low;
  }
    where
      inside : (i j k : ℕ) (o : Object) → slice_get s.store i ≡ Some o → slice_get o.values j ≡ Some (Ref k) → k < length s.store
      inside i j k o e h =
          let l = slice_get_within o.values j (Ref k) h in
          let n = fits.counts i o e in
          let t = type_some (shown image).shapes o.shape j (fits.there i o e) (omega arith) in
          reference_within (shown image) s.store k t.0 (fits.fit i j o t.0 (Ref k) refl e t.1 h)

-- and with roots that stand
pub facts : Told → (image : ImageParts) (s : State) (roots : List Value) (words list : List ℕ) → RootsStand image s roots words list → Facts (shown image).shapes (length image.arrays) s.store roots words list
facts told image s roots words list r = record {
  told = store-told told image s r.formed r.typed;
  rooted = r.refer.there;
  arrays_named = r.refer.arrays;
  stands = λ i o h l e. r.stands i o ((told.least (shown image).shapes s.store roots i).1 h) l e;
  lists = r.lists;
}
