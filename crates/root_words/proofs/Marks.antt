-- The marks of the data area, one data array after another.
use Rattle.std.specs.List.{flat_map}
use Rattle.std.specs.Option.{option_map, option_and_then, option_map_or}
use Rattle.std.proofs.Common.{◌≡◌, ◌<◌, ◌≤◌, ◌+◌, ◌*◌, ℕ, zero, suc, Bool, false, List, [], ◌∷◌, ◌++◌, length, drop, replicate, append_assoc, append-nil, Option, None, Some, IsSome, slice_get, refl, sym, ◌∙◌, ap, arith}
use Rattle.std.proofs.Math.ListN.{drop_of_length-le}
use Rattle.std.proofs.lemmas.List.Concat.{flat_map-cons}
use Rattle.object_layout.specs.Areas.{statics_start}
use Rattle.object_layout.specs.Classes.{Element, is_reference}
use Rattle.tal_image.specs.declared.parts.ArrayPart.{ArrayPart}
use Rattle.tal_image.specs.declared.parts.DataRow.{DataRow}
use Rattle.tal_image.specs.Image.{ImageParts}
use Rattle.tal_image.specs.Conditions.{array_room, array_places}
use Rattle.tal_image.specs.Shown.{shown, data_row_in}
use Rattle.root_words.specs.DataArea.{array_marks, data_marks}
use Rattle.root_words.proofs.Steps.{next-at}

-- the array of a row
record IsRowOf (image : ImageParts) (d : ℕ) (row : DataRow) (a : ArrayPart) : Type 0 where
  here : slice_get image.arrays d ≡ Some a
  kind : row.kind ≡ a.kind
  size : row.length ≡ a.size

row-of : (image : ImageParts) (d : ℕ) (row : DataRow) → data_row_in image d ≡ Some row → (a : ArrayPart) × IsRowOf image d row a
unfolding data_row_in
row-of image d row e = go (slice_get image.arrays d) (slice_get (array_places (statics_start + 4 * length image.statics) image.arrays) d) refl e
  where
    go : (o : Option ArrayPart) (p : Option ℕ) → slice_get image.arrays d ≡ o
        → option_and_then (λ (a : ArrayPart). option_map (λ place. record { place = place; kind = a.kind; length = a.size }) p) o ≡ Some row
        → (a : ArrayPart) × IsRowOf image d row a
    go None p here e = absurd cc
    go (Some a) None here e = absurd cc
    go (Some a) (Some place) here e =
        let made : DataRow = record { place = place; kind = a.kind; length = a.size } in
        let is : made ≡ row = cc in
        (a, record { here = here; kind = ap (λ (r : DataRow). r.kind) (sym is); size = ap (λ (r : DataRow). r.length) (sym is) })

-- each array has a place
place-there : (start : ℕ) (arrays : List ArrayPart) (d : ℕ) → d < length arrays → (place : ℕ) × (slice_get (array_places start arrays) d ≡ Some place)
unfolding array_places
place-there start [] d l = absurd (omega (arith, l))
place-there start (a ∷ arrays) zero l = (start, refl)
place-there start (a ∷ arrays) (suc d) l = place-there (start + 4 * array_room a) arrays d (omega (arith, l))

array-there : (arrays : List ArrayPart) (d : ℕ) → d < length arrays → (a : ArrayPart) × (slice_get arrays d ≡ Some a)
array-there [] d l = absurd (omega (arith, l))
array-there (a ∷ arrays) zero l = (a, refl)
array-there (a ∷ arrays) (suc d) l = array-there arrays d (omega (arith, l))

-- and so a row
pub row-there : (image : ImageParts) (d : ℕ) → d < length image.arrays → IsSome (data_row_in image d)
unfolding data_row_in
row-there image d l =
    let a = array-there image.arrays d l in
    let place = place-there (statics_start + 4 * length image.statics) image.arrays d l in
    rw (a.1, place.1) refl

-- marks that lack those of the arrays from d on, once they have those of array d, lack those from the next on
pub marks-next : (image : ImageParts) (d : ℕ) (row : DataRow) (refers : Bool) (marks after : List Bool) → data_row_in image d ≡ Some row
    → refers ≡ option_map_or is_reference (Element (shown image).shapes row.kind) false → after ≡ marks ++ false ∷ false ∷ replicate row.length refers
    → marks ++ flat_map (array_marks (shown image).shapes) (drop d image.arrays) ≡ data_marks image
    → after ++ flat_map (array_marks (shown image).shapes) (drop (d + 1) image.arrays) ≡ data_marks image
marks-next image d row refers marks after e is pushed rest =
    let s = (shown image).shapes in
    let found = row-of image d row e in
    let a = found.0 in
    let next : flat_map (array_marks s) (drop d image.arrays) ≡ array_marks s a ++ flat_map (array_marks s) (drop (d + 1) image.arrays) =
    ap (flat_map (array_marks s)) (next-at image.arrays d a found.1.here) ∙ flat_map-cons (array_marks s) a (drop (d + 1) image.arrays) in
    let has : after ≡ marks ++ array_marks s a =
    pushed ∙ (ap (λ b. marks ++ false ∷ false ∷ replicate row.length b) is
    ∙ (ap (λ k. marks ++ false ∷ false ∷ replicate row.length (option_map_or is_reference (Element s k) false)) found.1.kind
    ∙ ap (λ n. marks ++ false ∷ false ∷ replicate n (option_map_or is_reference (Element s a.kind) false)) found.1.size)) in
    rw has (append_assoc marks (array_marks s a) (flat_map (array_marks s) (drop (d + 1) image.arrays)) ∙ (ap (λ more. marks ++ more) (sym next) ∙ rest))

-- behind the last array they lack none
pub marks-end : (image : ImageParts) (d : ℕ) (marks : List Bool) → length image.arrays ≤ d
    → marks ++ flat_map (array_marks (shown image).shapes) (drop d image.arrays) ≡ data_marks image → marks ≡ data_marks image
marks-end image d marks l rest =
    let none : flat_map (array_marks (shown image).shapes) (drop d image.arrays) ≡ [] = ap (flat_map (array_marks (shown image).shapes)) (drop_of_length-le image.arrays l) in
    sym (append-nil marks) ∙ (ap (λ more. marks ++ more) (sym none) ∙ rest)
