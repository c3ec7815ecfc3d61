-- Where the data arrays of an image lie, and their words.
use Rattle.std.proofs.Common.{ℕ, zero, suc, ◌≡◌, ◌<◌, ◌≤◌, ◌+◌, ◌-◌, ◌*◌, ◌⊎◌, inl, inr, ◌++◌, true, List, [], ◌∷◌, length, get_or, map, replicate, Some, None, slice_get, refl, ap, sym, ◌∙◌, All, arith}
use Rattle.std.specs.List.{flat_map, sum_by}
use Rattle.std.specs.Option.{option_map}
use Rattle.std.proofs.lemmas.Bool.{cases_lt}
use Rattle.std.proofs.lemmas.Bool.Decides.{nat_tests}
use Rattle.std.proofs.lemmas.List.{length-append, length-replicate, get_or_append_left, get_or-append_right, get_or-replicate, get_or_past, append-nil}
use Rattle.std.proofs.lemmas.List.Sums.{sum_by-cons}
use Rattle.std.proofs.lemmas.Option.{slice_get-get_or, slice_get_past, slice_get_within, slice_get-map, slice_get_read}
use Rattle.object_layout.specs.declared.rows.KindRow.{KindRow}
use Rattle.tal_image.specs.declared.parts.ArrayPart.{ArrayPart}
use Rattle.tal_image.specs.Image.{ImageParts}
use Rattle.object_layout.specs.Areas.{statics_start}
use Rattle.tal_image.specs.Conditions.{Tables, array_room, array_places, array_fits, with_array, numbers_given}
use Rattle.tal_image.specs.Formed.{EachAfter, ArrayFits}
use Rattle.tal_image.proofs.Reading.Lengths.{array_space}
use Rattle.tal_image.specs.Kept.{RisesBy, array_offsets, data_place}
use Rattle.tal_image.specs.Shown.{array_words, data_row_in}

-- each array has its word
pub length-array_offsets : (at : ℕ) (arrays : List ArrayPart) → length (array_offsets at arrays) ≡ length arrays
unfolding array_offsets
length-array_offsets at [] = refl
length-array_offsets at (a ∷ arrays) = ap suc (length-array_offsets (at + array_room a) arrays)

-- none begins before the first
offsets_after : (at : ℕ) (arrays : List ArrayPart) (i d : ℕ) → i < length arrays → at ≤ get_or (array_offsets at arrays) i d
unfolding array_offsets
offsets_after at [] i d within = absurd (omega arith)
offsets_after at (a ∷ arrays) zero d within = omega arith
offsets_after at (a ∷ arrays) (suc i) d within = let rest = offsets_after (at + array_room a) arrays i d (omega arith) in omega arith

-- none begins behind all of them
pub offsets_within : (at : ℕ) (arrays : List ArrayPart) (i d : ℕ) → i < length arrays → get_or (array_offsets at arrays) i d ≤ at + sum_by array_room arrays
unfolding array_offsets
offsets_within at [] i d within = absurd (omega arith)
offsets_within at (a ∷ arrays) zero d within = omega arith
offsets_within at (a ∷ arrays) (suc i) d within =
    let whole = sum_by-cons array_room a arrays in
    let rest = offsets_within (at + array_room a) arrays i d (omega arith) in
    omega arith

-- they begin at rising words
pub offsets_rise : (at : ℕ) (arrays : List ArrayPart) → RisesBy (λ (n : ℕ). n) (array_offsets at arrays)
unfolding array_offsets
offsets_rise at [] i j d before within = absurd (omega arith)
offsets_rise at (a ∷ arrays) i zero d before within = absurd (omega arith)
offsets_rise at (a ∷ arrays) zero (suc j) d before within =
    let many = length-array_offsets (at + array_room a) arrays in
    let rest = offsets_after (at + array_room a) arrays j d (omega arith) in
    omega arith
offsets_rise at (a ∷ arrays) (suc i) (suc j) d before within = offsets_rise (at + array_room a) arrays i j d (omega arith) (omega arith)

-- where the words after so many statics begin
first_place : (statics : ℕ) → statics_start + 4 * statics ≡ data_place statics 0
first_place statics = omega arith

-- the address of each array is that of its first word
places-offsets : (statics at : ℕ) (arrays : List ArrayPart) → array_places (data_place statics at) arrays ≡ map (data_place statics) (array_offsets at arrays)
unfolding array_places array_offsets
places-offsets statics at [] = refl
places-offsets statics at (a ∷ arrays) =
    let next : data_place statics at + 4 * array_room a ≡ data_place statics (at + array_room a) = omega arith in
    ap (λ l. data_place statics at ∷ l) (rw next (places-offsets statics (at + array_room a) arrays))

-- the address of each array is that of its first word behind the statics
pub places-behind : (statics : ℕ) (arrays : List ArrayPart) → array_places (statics_start + 4 * statics) arrays ≡ map (data_place statics) (array_offsets 0 arrays)
places-behind statics arrays = ap (λ b. array_places b arrays) (first_place statics) ∙ places-offsets statics 0 arrays

-- each array begins among the words for which all of them have room
pub offsets-few : (statics bound : ℕ) (arrays : List ArrayPart) → statics + sum_by array_room arrays ≤ bound → All (λ offset. statics + offset ≤ bound) (array_offsets 0 arrays)
offsets-few statics bound arrays few k d within =
    let there : k < length arrays = rw length-array_offsets at within in
    let last = offsets_within 0 arrays k d there in
    omega arith

-- the words of all arrays, one array after another
pub array_space-sum : (arrays : List ArrayPart) → array_space arrays ≡ sum_by array_room arrays
unfolding array_space
array_space-sum [] = omega arith
array_space-sum (a ∷ arrays) =
    let whole = sum_by-cons array_room a arrays in
    let rest = array_space-sum arrays in
    omega arith

-- an array that meets its condition leaves room for itself
room : (used n : ℕ) → array_fits used n ≡ true → used + 2 + n ≤ 65536
room used n holds = grind (arith, nat_tests)

-- the arrays take at most 65536 words with the statics
pub arrays_fit : (t : Tables) (kinds : List KindRow) (used : ℕ) (arrays : List ArrayPart) → used ≤ 65536 → EachAfter with_array (λ later used a. ArrayFits t kinds used a) used arrays → used + sum_by array_room arrays ≤ 65536
arrays_fit t kinds used [] few each = omega arith
arrays_fit t kinds used (a ∷ arrays) few each =
    let whole = sum_by-cons array_room a arrays in
    let here = room used a.size each.0.condition_22 in
    let rest = arrays_fit t kinds (with_array used a) arrays here each.1 in
    omega arith

-- the file gives no more numbers than the array has
given : (kinds : List KindRow) (k n : ℕ) → numbers_given kinds k n ≤ n
unfolding numbers_given
given kinds k n = grind (arith, nat_tests)

-- no array has more numbers than elements
pub few_numbers : (t : Tables) (kinds : List KindRow) (used : ℕ) (arrays : List ArrayPart) → EachAfter with_array (λ later used a. ArrayFits t kinds used a) used arrays → All (λ a. length a.numbers ≤ a.size) arrays
few_numbers t kinds used [] each k d within = absurd (omega arith)
few_numbers t kinds used (a ∷ arrays) each zero d within = let some = given kinds a.kind a.size in omega (arith, each.0.count)
few_numbers t kinds used (a ∷ arrays) each (suc k) d within = few_numbers t kinds (with_array used a) arrays each.1 k d (omega arith)

-- the array kinds are there
pub kinds_there : (t : Tables) (kinds : List KindRow) (used : ℕ) (arrays : List ArrayPart) → EachAfter with_array (λ later used a. ArrayFits t kinds used a) used arrays → All (λ a. a.kind < t.kinds) arrays
kinds_there t kinds used [] each k d within = absurd (omega arith)
kinds_there t kinds used (a ∷ arrays) each zero d within = let there = each.0.condition_21 in grind (arith, nat_tests)
kinds_there t kinds used (a ∷ arrays) each (suc k) d within = kinds_there t kinds (with_array used a) arrays each.1 k d (omega arith)

-- numbers, and 0 after them up to a length
length-padded : (ns : List ℕ) (m : ℕ) → length ns ≤ m → length (ns ++ replicate (m - length ns) 0) ≡ m
length-padded ns m few =
    let all = length-append ns (replicate (m - length ns) 0) in
    let zeros : length (replicate {A = ℕ} (m - length ns) 0) ≡ m - length ns = length-replicate (m - length ns) 0 in
    omega arith

-- a word of the padded numbers
pub padded-within : (ns : List ℕ) (m k : ℕ) → length ns ≤ m → k < m → slice_get (ns ++ replicate (m - length ns) 0) k ≡ Some (get_or ns k 0)
padded-within ns m k few within =
    let long = length-padded ns m few in
    slice_get-get_or (ns ++ replicate (m - length ns) 0) k 0 (omega arith) ∙ ap Some (by_part (cases_lt k (length ns)))
  where
    by_part : (k < length ns) ⊎ (length ns ≤ k) → get_or (ns ++ replicate (m - length ns) 0) k 0 ≡ get_or ns k 0
    by_part (inl before) = get_or_append_left ns (replicate (m - length ns) 0) 0 k before
    by_part (inr behind) = get_or-append_right ns (replicate (m - length ns) 0) (length ns) k 0 refl behind ∙ get_or-replicate (m - length ns) (k - length ns) 0 0 (omega arith) ∙ sym (get_or_past ns k 0 behind)

-- there is none past them
pub padded-past : (ns : List ℕ) (m k : ℕ) → length ns ≤ m → m ≤ k → slice_get (ns ++ replicate (m - length ns) 0) k ≡ None
padded-past ns m k few past =
    let long = length-padded ns m few in
    slice_get_past (ns ++ replicate (m - length ns) 0) k (omega arith)

-- a word of an array behind its first two
pub array_words-element : (a : ArrayPart) (word : ℕ) → 2 ≤ word → slice_get (array_words a) word ≡ slice_get (a.numbers ++ replicate (a.size - length a.numbers) 0) (word - 2)
unfolding array_words
array_words-element a zero behind = absurd (omega arith)
array_words-element a (suc zero) behind = absurd (omega arith)
array_words-element a (suc (suc k)) behind = ap (slice_get (a.numbers ++ replicate (a.size - length a.numbers) 0)) (omega arith)

-- an array has as many words as it takes room
length-array_words : (a : ArrayPart) → length a.numbers ≤ a.size → length (array_words a) ≡ array_room a
unfolding array_words
length-array_words a few = let long = length-padded a.numbers a.size few in omega arith

-- an item of two lists one after the other
slice_get-left : (xs ys : List ℕ) (k : ℕ) → k < length xs → slice_get (xs ++ ys) k ≡ slice_get xs k
slice_get-left [] ys k within = absurd (omega arith)
slice_get-left (x ∷ xs) ys zero within = refl
slice_get-left (x ∷ xs) ys (suc k) within = slice_get-left xs ys k (omega arith)

-- and of the second
slice_get-right : (xs ys : List ℕ) (k : ℕ) → slice_get (xs ++ ys) (length xs + k) ≡ slice_get ys k
slice_get-right [] ys k = ap (slice_get ys) (omega arith)
slice_get-right (x ∷ xs) ys k = let next : suc (length xs) + k ≡ suc (length xs + k) = omega arith in rw next (slice_get-right xs ys k)

-- a word of the arrays is one of the last that does not begin behind it
data_words-at : (arrays : List ArrayPart) (at i d : ℕ) (a : ArrayPart) → All (λ a. length a.numbers ≤ a.size) arrays → at ≤ i → slice_get arrays d ≡ Some a → get_or (array_offsets at arrays) d 0 ≤ i → ((k : ℕ) → d < k → k < length arrays → i < get_or (array_offsets at arrays) k 0) → slice_get (flat_map array_words arrays) (i - at) ≡ slice_get (array_words a) (i - get_or (array_offsets at arrays) d 0)
unfolding array_offsets
data_words-at [] at i d a few from there low high = absurd cc
data_words-at (b ∷ []) at i zero a few from there low high =
    let is : b ≡ a = cc in
    rw (append-nil (array_words b)) (ap (λ (x : ArrayPart). slice_get (array_words x) (i - at)) is)
data_words-at (b ∷ c ∷ arrays) at i zero a few from there low high =
    let is : b ≡ a = cc in
    let long = length-array_words b (few 0 b (omega arith)) in
    let next : i < at + array_room b = high 1 (omega arith) (omega arith) in
    slice_get-left (array_words b) (flat_map array_words (c ∷ arrays)) (i - at) (omega arith) ∙ ap (λ (x : ArrayPart). slice_get (array_words x) (i - at)) is
data_words-at (b ∷ arrays) at i (suc d) a few from there low high =
    let long = length-array_words b (few 0 b (omega arith)) in
    let within : d < length arrays = slice_get_within arrays d a there in
    let begins = offsets_after (at + array_room b) arrays d 0 within in
    let split : i - at ≡ length (array_words b) + (i - (at + array_room b)) = omega arith in
    rw split (slice_get-right (array_words b) (flat_map array_words arrays) (i - (at + array_room b))
    ∙ data_words-at arrays (at + array_room b) i d a (λ k e w. few (suc k) e (omega arith)) (omega arith) there low (λ k before w. high (suc k) (omega arith) (omega arith)))

-- the same from the first word on
pub data_words-from_first : (arrays : List ArrayPart) (i d : ℕ) (a : ArrayPart) → All (λ a. length a.numbers ≤ a.size) arrays → slice_get arrays d ≡ Some a → get_or (array_offsets 0 arrays) d 0 ≤ i → ((k : ℕ) → d < k → k < length arrays → i < get_or (array_offsets 0 arrays) k 0) → slice_get (flat_map array_words arrays) i ≡ slice_get (array_words a) (i - get_or (array_offsets 0 arrays) d 0)
data_words-from_first arrays i d a few there low high =
    let all : i ≡ i - 0 = omega arith in
    ap (slice_get (flat_map array_words arrays)) all ∙ data_words-at arrays 0 i d a few (omega arith) there low high

-- no array has a word before the first
pub data_words-none : (arrays : List ArrayPart) (i : ℕ) → ((k : ℕ) → k < length arrays → i < get_or (array_offsets 0 arrays) k 0) → slice_get (flat_map array_words arrays) i ≡ None
unfolding array_offsets
data_words-none [] i high = refl
data_words-none (a ∷ arrays) i high = absurd (let behind : i < 0 = high 0 (omega arith) in omega arith)

module _ (i : ImageParts) (d : ℕ) where
  -- the row of a data array
  pub data_row-at : (a : ArrayPart) (offset : ℕ) → slice_get i.arrays d ≡ Some a → offset ≡ get_or (array_offsets 0 i.arrays) d offset
      → data_row_in i d ≡ Some (record { place = data_place (length i.statics) offset; kind = a.kind; length = a.size })
  unfolding data_row_in
  data_row-at a offset there is =
      let statics = length i.statics in
      let within : d < length (array_offsets 0 i.arrays) = rw length-array_offsets (slice_get_within i.arrays d a there) in
      let place : slice_get (array_places (statics_start + 4 * statics) i.arrays) d ≡ Some (data_place statics offset) =
      ap (λ (l : List ℕ). slice_get l d) (places-behind statics i.arrays)
      ∙ slice_get-map (data_place statics) (array_offsets 0 i.arrays) d
      ∙ ap (option_map (data_place statics)) (slice_get_read (array_offsets 0 i.arrays) _ d offset refl within is) in
      rw (there, place) refl

  -- none where there is no such array
  pub data_row-nowhere : length i.arrays ≤ d → data_row_in i d ≡ None
  unfolding data_row_in
  data_row-nowhere past = rw (slice_get_past i.arrays d past) refl
