-- The data arrays as they are at first: their words, and where they lie.
use Rattle.std.proofs.Common.{◌≡◌, ℕ, zero, suc, ◌+◌, ◌-◌, ◌*◌, ◌<◌, ◌≤◌, List, [], ◌∷◌, ◌++◌, length, map, replicate, Option, Some, None, slice_get, refl, sym, ap, subst, ◌∙◌, arith, length-append}
use Rattle.std.specs.List.{flat_map}
use Rattle.std.specs.Option.{option_map, option_map_or}
use Rattle.std.proofs.lemmas.Option.{slice_get-map}
use Rattle.std.proofs.lemmas.List.{length-replicate, length-map}
use Rattle.std.proofs.lemmas.Bool.Decides.{nat_tests}
use Rattle.object_layout.specs.declared.rows.FieldTy.{FieldTy}
use Rattle.object_layout.specs.declared.rows.FieldTy.TheVariants as field
use Rattle.object_layout.specs.Areas.{descriptor_address}
use Rattle.object_layout.specs.Classes.{ShapesView, Element}
use Rattle.tal_image.specs.declared.parts.ArrayPart.{ArrayPart}
use Rattle.tal_image.specs.declared.parts.Tables.{Tables}
use Rattle.object_layout.specs.declared.rows.KindRow.{KindRow}
use Rattle.tal_image.specs.Conditions.{array_places, array_room, with_array, numbers_given, most_words}
use Rattle.tal_image.specs.Formed.{EachAfter, ArrayFits}
use Rattle.tal_image.specs.Shown.{array_words}
use Rattle.typed_machine.specs.Values.{Value, Number, Null, ArrayOf, Word}
use Rattle.typed_machine.specs.Stores.{Object, zero_of, first_elements, data_objects}
use Rattle.typed_machine.specs.Words.{head_values, object_values}
use Rattle.word_machine.specs.Standing.{end_of}
use Rattle.word_machine.proofs.Lists.{front-read, behind-read}

-- ---- one array

-- what a static, a field or an element starts as has the word 0
pub zero_word : (places : List ℕ) (t : FieldTy) → Word places (zero_of t) ≡ 0
unfolding Word zero_of
zero_word places field.Num = refl
zero_word places (field.Ref c) = refl
zero_word places (field.ArrRef k) = refl
zero_word places (field.Fun g) = refl

zero_element_word : (places : List ℕ) (t : Option FieldTy) → Word places (option_map_or zero_of t Null) ≡ 0
unfolding Word
zero_element_word places None = refl
zero_element_word places (Some t) = zero_word places t

numbers_words : (places numbers : List ℕ) (more : List Value) → map (Word places) (map Number numbers ++ more) ≡ numbers ++ map (Word places) more
unfolding Word
numbers_words places [] more = refl
numbers_words places (n ∷ numbers) more = ap (λ (ws : List ℕ). n ∷ ws) (numbers_words places numbers more)

same_words : (places : List ℕ) (n : ℕ) (v : Value) (w : ℕ) → Word places v ≡ w → map (Word places) (replicate n v) ≡ replicate n w
same_words places zero v w e = refl
same_words places (suc n) v w e = rw (e, same_words places n v w e) refl

-- the words of a data array are those of its object's values
array_is : (s : ShapesView) (places : List ℕ) (a : ArrayPart) (place : ℕ)
    → map (Word places) (object_values (record { shape = ArrayOf a.kind a.size; place = place; values = first_elements s a })) ≡ array_words a
unfolding object_values head_values array_words Word
array_is s places a place = ap (λ (ws : List ℕ). descriptor_address a.kind ∷ a.size ∷ ws)
    (numbers_words places a.numbers _ ∙ ap (λ (ws : List ℕ). a.numbers ++ ws) (same_words places (a.size - length a.numbers) _ 0 (zero_element_word places (Element s a.kind))))

-- ---- the arrays

-- no array has more numbers than elements
abbrev pub Roomy : List ArrayPart → Type 0
Roomy [] = Unit {0}
Roomy (a ∷ arrays) = (length a.numbers ≤ a.size) × Roomy arrays

numbers_fit : (kinds : List KindRow) (k n : ℕ) → numbers_given kinds k n ≤ n
unfolding numbers_given
numbers_fit kinds k n = grind (arith, nat_tests)

pub roomy : (t : Tables) (kinds : List KindRow) (used : ℕ) (arrays : List ArrayPart) → EachAfter with_array (λ later u a. ArrayFits t kinds u a) used arrays → Roomy arrays
roomy t kinds used [] h = tt
roomy t kinds used (a ∷ arrays) h = (omega (arith, h.0.count, numbers_fit kinds a.kind a.size), roomy t kinds (with_array used a) arrays h.1)

array_length : (a : ArrayPart) → length a.numbers ≤ a.size → length (array_words a) ≡ array_room a
unfolding array_words
array_length a h = omega (arith, length-append a.numbers (replicate (a.size - length a.numbers) 0), length-replicate {A = ℕ} (a.size - length a.numbers) 0)

-- the statics and the data arrays take at most 65536 words
pub data_fits : (t : Tables) (kinds : List KindRow) (used : ℕ) (arrays : List ArrayPart) → EachAfter with_array (λ later u a. ArrayFits t kinds u a) used arrays
    → used ≤ most_words → used + length (flat_map array_words arrays) ≤ most_words
data_fits t kinds used [] h low = omega arith
data_fits t kinds used (a ∷ arrays) h low =
    let fits : with_array used a ≤ most_words = grind (arith, nat_tests, h.0.condition_22) in
    let rest = data_fits t kinds (with_array used a) arrays h.1 fits in
    let long = array_length a (omega (arith, h.0.count, numbers_fit kinds a.kind a.size)) in
    omega (arith, rest, long, length-append (array_words a) (flat_map array_words arrays))

-- ---- their objects

-- the object of a data array at a place
abbrev array_object : ShapesView → ArrayPart → ℕ → Object
array_object s a place = record { shape = ArrayOf a.kind a.size; place = place; values = first_elements s a }

object_length : (s : ShapesView) (a : ArrayPart) (place : ℕ) → length a.numbers ≤ a.size → length (object_values (array_object s a place)) ≡ array_room a
object_length s a place h = sym (length-map (object_values (array_object s a place)) (Word [])) ∙ ap length (array_is s [] a place) ∙ array_length a h

-- where the object has a value, the array has its word
array_read : (s : ShapesView) (places : List ℕ) (a : ArrayPart) (place k : ℕ) (v : Value)
    → slice_get (object_values (array_object s a place)) k ≡ Some v → slice_get (array_words a) k ≡ Some (Word places v)
array_read s places a place k v h =
    rw (← array_is s places a place) (slice_get-map (Word places) (object_values (array_object s a place)) k ∙ ap (option_map (Word places)) h)

-- the words from number `first` on are those of the object's values
pub record IsKept (places : List ℕ) (start : ℕ) (words : List ℕ) (o : Object) (first : ℕ) : Type 0 where
  pub place : o.place ≡ start + 4 * first
  pub within : first + length (object_values o) ≤ length words
  pub each : (k : ℕ) (v : Value) → slice_get (object_values o) k ≡ Some v → slice_get words (first + k) ≡ Some (Word places v)

abbrev pub Kept : List ℕ → ℕ → List ℕ → Object → Type 0
Kept places start words o = (first : ℕ) × IsKept places start words o first

pub kept : (s : ShapesView) (places : List ℕ) (start : ℕ) (arrays : List ArrayPart) → Roomy arrays
    → (i : ℕ) (o : Object) → slice_get (data_objects s arrays (array_places start arrays)) i ≡ Some o → Kept places start (flat_map array_words arrays) o
unfolding array_places
kept s places start [] r i o h = absurd cc
kept s places start (a ∷ arrays) r zero o h =
    let same : array_object s a start ≡ o = cc in
    let zero : (k : ℕ) → 0 + k ≡ k = λ k. omega arith in
    subst (λ p. Kept places start (array_words a ++ flat_map array_words arrays) p) same (
      0,
      record {
        place = omega arith;
        within = omega (arith, object_length s a start r.0, array_length a r.0, length-append (array_words a) (flat_map array_words arrays));
        each = λ k v e. rw (zero k) (front-read (array_words a) (flat_map array_words arrays) k (Word places v) (array_read s places a start k v e));
      },
    )
kept s places start (a ∷ arrays) r (suc i) o h =
    let more = kept s places (start + 4 * array_room a) arrays r.1 i o h in (
      array_room a + more.0,
      record {
        place = omega (arith, more.1.place);
        within = omega (arith, more.1.within, array_length a r.0, length-append (array_words a) (flat_map array_words arrays));
        each = λ k v e.
            let at : array_room a + more.0 + k ≡ length (array_words a) + (more.0 + k) = omega (arith, array_length a r.0) in
            rw (at, behind-read (array_words a) (flat_map array_words arrays) (more.0 + k)) (more.1.each k v e);
      },
    )

-- one object ends before the next begins
pub apart : (s : ShapesView) (start : ℕ) (arrays : List ArrayPart) → Roomy arrays → (i j : ℕ) (o p : Object) → i < j
    → slice_get (data_objects s arrays (array_places start arrays)) i ≡ Some o → slice_get (data_objects s arrays (array_places start arrays)) j ≡ Some p
    → end_of o ≤ p.place
unfolding array_places
apart s start [] r i j o p lt e f = absurd cc
apart s start (a ∷ arrays) r i zero o p lt e f = absurd (omega arith)
apart s start (a ∷ arrays) r zero (suc j) o p lt e f =
    let same : array_object s a start ≡ o = cc in
    let next = (kept s [] (start + 4 * array_room a) arrays r.1 j p f).1.place in
    subst (λ q. end_of q ≤ p.place) same (omega (arith, next, object_length s a start r.0))
apart s start (a ∷ arrays) r (suc i) (suc j) o p lt e f = apart s (start + 4 * array_room a) arrays r.1 i j o p (omega arith) e f
