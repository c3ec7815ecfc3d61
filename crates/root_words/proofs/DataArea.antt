-- The marked words of the data area are those of the references in statics and data arrays.
use Rattle.std.specs.List.{flat_map}
use Rattle.std.specs.Option.{option_map_or}
use Rattle.std.proofs.Common.{◌≡◌, ◌<◌, ◌≤◌, ◌+◌, ◌-◌, ◌*◌, ◌/◌, ℕ, zero, suc, nat_lt, Bool, true, false, List, [], ◌∷◌, ◌++◌, map, length, take, drop, replicate, Some, slice_get, refl, sym, ◌∙◌, ap, subst, arith}
use Rattle.std.proofs.lemmas.List.{map-append, drop-drop}
use Rattle.std.proofs.lemmas.List.Concat.{flat_map-cons}
use Rattle.std.proofs.lemmas.Bool.Decides.{nat_tests}
use Rattle.object_layout.specs.declared.rows.FieldTy.{FieldTy}
use Rattle.object_layout.specs.Areas.{statics_start}
use Rattle.object_layout.specs.Classes.{ShapesView, Element, is_reference}
use Rattle.tal_image.specs.declared.parts.ArrayPart.{ArrayPart}
use Rattle.tal_image.specs.declared.parts.DataRow.{DataRow}
use Rattle.tal_image.specs.Image.{ImageParts}
use Rattle.tal_image.specs.Conditions.{array_room, array_places}
use Rattle.tal_image.specs.Shown.{shown, data_row_in}
use Rattle.typed_machine.specs.Values.{Value, Word, Desc, Number, ObjectShape, ArrayOf}
use Rattle.typed_machine.specs.Stores.{Object, Store, value_type, value_count}
use Rattle.typed_machine.specs.States.{State, places_of}
use Rattle.typed_machine.specs.Words.{head_values, object_values}
use Rattle.typed_machine.specs.Typing.{TypedAmong}
use Rattle.typed_machine.specs.Reaching.{references_from, references_of, static_references, data_references}
use Rattle.root_words.specs.DataArea.{array_marks, data_marks, marked_words}
use Rattle.root_words.specs.Standing.{WordsHold}
use Rattle.root_words.proofs.Words.{Front, front, front-head, front-tail, front-none, words-if-before}

-- ---- statics

statics-marked : (places : List ℕ) (types : List FieldTy) (values : List Value) (words : List ℕ) (marks : List Bool) → length values ≡ length types
    → Front words places values
    → marked_words (map is_reference types ++ marks) words ≡ map (Word places) (static_references types values) ++ marked_words marks (drop (length types) words)
statics-marked places [] [] words marks n h = refl
statics-marked places [] (v ∷ values) words marks n h = absurd (omega arith)
statics-marked places (t ∷ types) [] words marks n h = absurd (omega arith)
statics-marked places (t ∷ types) (v ∷ values) [] marks n h = absurd (front-none places v values h)
statics-marked places (t ∷ types) (v ∷ values) (w ∷ words) marks n h =
    rw (front-head w words places v values h, statics-marked places types values words marks (omega arith) (front-tail w words places v values h))
    (words-if-before places (is_reference t) v (static_references types values) (marked_words marks (drop (length types) words)))

-- ---- a data array

-- elements of which all are references, or none is
elements-marked : (places : List ℕ) (s : ShapesView) (shape : ObjectShape) (j : ℕ) (refers : Bool) (values : List Value) (words : List ℕ) (marks : List Bool)
    → ((i : ℕ) → i < length values → option_map_or is_reference (value_type s shape (j + i)) false ≡ refers) → Front words places values
    → marked_words (replicate (length values) refers ++ marks) words
    ≡ map (Word places) (references_from s shape j values) ++ marked_words marks (drop (length values) words)
elements-marked places s shape j refers [] words marks b h = refl
elements-marked places s shape j refers (v ∷ values) [] marks b h = absurd (front-none places v values h)
elements-marked places s shape j refers (v ∷ values) (w ∷ words) marks b h =
    let here : option_map_or is_reference (value_type s shape j) false ≡ refers = let e : j + 0 ≡ j = omega arith in subst (λ m. option_map_or is_reference (value_type s shape m) false ≡ refers) e (b 0 (omega arith)) in
    let more = elements-marked places s shape (j + 1) refers values words marks
    (λ i l. let e : j + suc i ≡ j + 1 + i = omega arith in subst (λ m. option_map_or is_reference (value_type s shape m) false ≡ refers) e (b (suc i) (omega (arith, l)))) (front-tail w words places v values h) in
    rw (front-head w words places v values h, more, here)
    (words-if-before places refers v (references_from s shape (j + 1) values) (marked_words marks (drop (length values) words)))

-- the type of an array's elements
elements-typed : (s : ShapesView) (kind size i : ℕ) → i < size → value_type s (ArrayOf kind size) (0 + i) ≡ Element s kind
unfolding value_type
elements-typed s kind size i l = let e : 0 + i ≡ i = omega arith in let inside : nat_lt i size ≡ true = grind (arith, nat_tests) in rw (e, inside) refl

array-marked : (places : List ℕ) (s : ShapesView) (a : ArrayPart) (values : List Value) (words : List ℕ) (marks : List Bool) → length values ≡ a.size
    → Front words places (Desc a.kind ∷ Number a.size ∷ values)
    → marked_words (array_marks s a ++ marks) words
    ≡ map (Word places) (references_from s (ArrayOf a.kind a.size) 0 values) ++ marked_words marks (drop (suc (suc a.size)) words)
array-marked places s a values [] marks n h = absurd (front-none places (Desc a.kind) (Number a.size ∷ values) h)
array-marked places s a values (w ∷ []) marks n h =
    absurd (front-none places (Number a.size) values (front-tail w [] places (Desc a.kind) (Number a.size ∷ values) h))
array-marked places s a values (w ∷ x ∷ words) marks n h =
    let behind = front-tail x words places (Number a.size) values (front-tail w (x ∷ words) places (Desc a.kind) (Number a.size ∷ values) h) in
    let more = elements-marked places s (ArrayOf a.kind a.size) 0 (option_map_or is_reference (Element s a.kind) false) values words marks
    (λ i l. ap (λ t. option_map_or is_reference t false) (elements-typed s a.kind a.size i (omega (arith, l, n)))) behind in
    rw n at more

-- the values of a data array's object
values-are : (o : Object) (a : ArrayPart) → o.shape ≡ ArrayOf a.kind a.size → object_values o ≡ Desc a.kind ∷ Number a.size ∷ o.values
unfolding object_values head_values
values-are o a e = rw e refl

-- the same as an object of the store
object_marked : (places : List ℕ) (s : ShapesView) (a : ArrayPart) (o : Object) (words : List ℕ) (marks : List Bool) → o.shape ≡ ArrayOf a.kind a.size
    → length o.values ≡ a.size → Front words places (object_values o)
    → marked_words (array_marks s a ++ marks) words ≡ map (Word places) (references_of s o) ++ marked_words marks (drop (suc (suc a.size)) words)
object_marked places s a o words marks e n h =
    array-marked places s a o.values words marks n (rw (values-are o a e) at h)
    ∙ ap (λ shape. map (Word places) (references_from s shape 0 o.values) ++ marked_words marks (drop (suc (suc a.size)) words)) (sym e)

-- ---- all of them

-- an object is a data array, and the words that hold it begin so far behind the first array's
record IsLaid (places : List ℕ) (first start : ℕ) (words : List ℕ) (a : ArrayPart) (place : ℕ) (o : Object) : Type 0 where
  shape : o.shape ≡ ArrayOf a.kind a.size
  count : length o.values ≡ a.size
  held : WordsHold words places (first + (place - start) / 4) (object_values o)

-- the objects of the store are these data arrays, one behind another
abbrev AreLaid : List ℕ → ℕ → ℕ → List ℕ → List ArrayPart → Store → Type 0
AreLaid places first start words arrays store =
    (d : ℕ) (a : ArrayPart) (place : ℕ) → slice_get arrays d ≡ Some a → slice_get (array_places start arrays) d ≡ Some place
    → (o : Object) × (slice_get store d ≡ Some o) × IsLaid places first start words a place o

-- no array stands below the first
places-low : (start : ℕ) (arrays : List ArrayPart) (d place : ℕ) → slice_get (array_places start arrays) d ≡ Some place → start ≤ place
unfolding array_places
places-low start [] d place e = absurd cc
places-low start (a ∷ arrays) zero place e = let is : start ≡ place = cc in omega arith
places-low start (a ∷ arrays) (suc d) place e = let more = places-low (start + 4 * array_room a) arrays d place e in omega (arith, more)

laid-behind : (places : List ℕ) (first start : ℕ) (words : List ℕ) (a : ArrayPart) (arrays : List ArrayPart) (o : Object) (store : Store)
    → AreLaid places first start words (a ∷ arrays) (o ∷ store) → AreLaid places (first + array_room a) (start + 4 * array_room a) words arrays store
unfolding array_places
laid-behind places first start words a arrays o store h d b place e f =
    let found = h (suc d) b place e f in
    let low = places-low (start + 4 * array_room a) arrays d place f in
    let at : first + (place - start) / 4 ≡ first + array_room a + (place - (start + 4 * array_room a)) / 4 = omega (arith, low) in
    (found.0, found.1, record { shape = found.2.shape; count = found.2.count; held = subst (λ n. WordsHold words places n (object_values found.0)) at found.2.held })

arrays-marked : (places : List ℕ) (s : ShapesView) (first start : ℕ) (words : List ℕ) (arrays : List ArrayPart) (store : Store) → AreLaid places first start words arrays store
    → marked_words (flat_map (array_marks s) arrays) (drop first words) ≡ map (Word places) (flat_map (references_of s) (take (length arrays) store))
unfolding array_places
arrays-marked places s first start words [] store h = refl
arrays-marked places s first start words (a ∷ arrays) [] h = let found = h 0 a start refl refl in absurd cc
arrays-marked places s first start words (a ∷ arrays) (o ∷ store) h =
    let found = h 0 a start refl refl in
    let is : found.0 ≡ o = let e = found.1 in cc in
    let laid : IsLaid places first start words a start o = subst (λ p. IsLaid places first start words a start p) is found.2 in
    let at : first + (start - start) / 4 ≡ first = omega arith in
    let holds : Front (drop first words) places (object_values o) = front words places first (object_values o) (subst (λ n. WordsHold words places n (object_values o)) at laid.held) in
    let one = object_marked places s a o (drop first words) (flat_map (array_marks s) arrays) laid.shape laid.count holds in
    let behind : drop (suc (suc a.size)) (drop first words) ≡ drop (first + array_room a) words =
    let e : suc (suc a.size) ≡ array_room a = omega arith in rw e (drop-drop (array_room a) first words) in
    let more = arrays-marked places s (first + array_room a) (start + 4 * array_room a) words arrays store (laid-behind places first start words a arrays o store h) in
    ap (λ marks. marked_words marks (drop first words)) (flat_map-cons (array_marks s) a arrays)
    ∙ (one ∙ (rw (behind, more) (sym (map-append (Word places) (references_of s o) (flat_map (references_of s) (take (length arrays) store)))))
    ∙ ap (map (Word places)) (sym (flat_map-cons (references_of s) o (take (length arrays) store))))

-- ---- the data area

row-is : (image : ImageParts) (d : ℕ) (a : ArrayPart) (place : ℕ) → slice_get image.arrays d ≡ Some a
    → slice_get (array_places (statics_start + 4 * length image.statics) image.arrays) d ≡ Some place
    → data_row_in image d ≡ Some (record { place = place; kind = a.kind; length = a.size })
unfolding data_row_in
row-is image d a place e f = rw (e, f) refl

module _ {image : ImageParts} {live : ℕ → Bool} {s : State} (area : List ℕ) (typed : TypedAmong image live s)
    (statics : WordsHold area (places_of s) 0 s.statics)
    (arrays : (d : ℕ) (row : DataRow) (o : Object) → data_row_in image d ≡ Some row → slice_get s.store d ≡ Some o
    → WordsHold area (places_of s) ((o.place - statics_start) / 4) (object_values o)) where
  laid : AreLaid (places_of s) (length image.statics) (statics_start + 4 * length image.statics) area image.arrays s.store
  unfolding value_count
  laid d a place e f =
      let row = row-is image d a place e f in
      let is = typed.store.arrays d _ row in
      let low = places-low (statics_start + 4 * length image.statics) image.arrays d place f in
      let at : (is.object.place - statics_start) / 4 ≡ length image.statics + (place - (statics_start + 4 * length image.statics)) / 4 = omega (arith, low, is.place) in (
        is.object,
        is.here,
        record {
          shape = is.shape;
          count = typed.store.counts d is.object is.here ∙ rw is.shape refl;
          held = subst (λ n. WordsHold area (places_of s) n (object_values is.object)) at (arrays d _ is.object row is.here);
        },
      )

  -- the marked words of the data area are those of its references
  pub data_listed : marked_words (data_marks image) area ≡ map (Word (places_of s)) (data_references image s)
  unfolding data_marks
  data_listed =
      let v = (shown image).shapes in
      let first : Front area (places_of s) s.statics = front area (places_of s) 0 s.statics statics in
      statics-marked (places_of s) image.statics s.statics area (flat_map (array_marks v) image.arrays) typed.statics.count first
      ∙ (ap (λ ws. map (Word (places_of s)) (static_references image.statics s.statics) ++ ws)
      (arrays-marked (places_of s) v (length image.statics) (statics_start + 4 * length image.statics) area image.arrays s.store laid)
      ∙ sym (map-append (Word (places_of s)) (static_references image.statics s.statics) (flat_map (references_of v) (take (length image.arrays) s.store))))
