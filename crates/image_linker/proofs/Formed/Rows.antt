-- The rows of one table over all units, and the rows of the image.
use Rattle.std.specs.List.{flat_map}
use Rattle.std.proofs.Common.{◌≡◌, ℕ, zero, suc, ◌<◌, false, List, [], ◌∷◌, ◌++◌, length, map, get_or, Some, slice_get, inl, inr, refl, sym, ap, ◌∙◌, subst, arith}
use Rattle.std.specs.Option.{option_map}
use Rattle.std.proofs.lemmas.List.{map-append}
use Rattle.std.proofs.lemmas.Option.{slice_get-map, get_or_from_slice_get}
use Rattle.file_fields.specs.Parts.{Each}
use Rattle.unit_files.specs.Unit.{UnitParts}
use Rattle.image_linker.specs.RowMentions.{RowMention, first_mentions, names_in, number_among, meant_rows}
use Rattle.image_linker.specs.LinkedRows.{linked_number}
use Rattle.image_linker.proofs.Formed.Members.{In, in_flat, from_flat, in_get, get_in}
use Rattle.image_linker.proofs.Formed.Names.{Faultless, length-meant_rows, row_named, held, meant_row, number_within}

-- each row is as it must be where each element is
pub each_in : {A : Type 0} (Is : A → Type 0) (xs : List A) → ((x : A) → In x xs → Is x) → Each Is xs
each_in Is [] h = tt
each_in Is (x ∷ xs) h = (h x (inl refl), each_in Is xs (λ y i. h y (inr i)))

-- and the other way round
pub each_at : {A : Type 0} (Is : A → Type 0) (xs : List A) → Each Is xs → (x : A) → In x xs → Is x
each_at Is [] e x i = absurd i
each_at Is (y ∷ xs) e x (inl is) = subst Is is e.0
each_at Is (y ∷ xs) e x (inr i) = each_at Is xs e.1 x i

-- a place in a list has an element
pub there : {A : Type 0} (xs : List A) (k : ℕ) → k < length xs → (x : A) × (slice_get xs k ≡ Some x)
there [] k h = absurd (omega arith)
there (x ∷ xs) zero h = (x, refl)
there (x ∷ xs) (suc k) h = there xs k (omega arith)

-- the element at a place of a mapped list
pub from_map_get : {A B : Type 0} (f : A → B) (xs : List A) (k : ℕ) (y : B) → slice_get (map f xs) k ≡ Some y → (x : A) × (slice_get xs k ≡ Some x) × (f x ≡ y)
from_map_get f [] k y e = absurd cc
from_map_get f (x ∷ xs) zero y e = (x, refl, cc)
from_map_get f (x ∷ xs) (suc k) y e = from_map_get f xs k y e

-- an element of a mapped list is a mapped element
pub map_get : {A B : Type 0} (f : A → B) (xs : List A) (k : ℕ) (x : A) → slice_get xs k ≡ Some x → slice_get (map f xs) k ≡ Some (f x)
map_get f xs k x e = slice_get-map f xs k ∙ ap (option_map f) e

-- a mapped list of mapped lists
pub map_map : {A B C : Type 0} (f : B → C) (g : A → B) (xs : List A) → map f (map g xs) ≡ map (λ x. f (g x)) xs
map_map f g [] = refl
map_map f g (x ∷ xs) = ap (λ ys. f (g x) ∷ ys) (map_map f g xs)

-- the names of joined rows are joined names
names_joined : {A : Type 0} (mentions : UnitParts → List (RowMention A)) (names : UnitParts → List (List ℕ)) → ((u : UnitParts) → map (λ (r : RowMention A). r.name) (mentions u) ≡ names u)
    → (units : List UnitParts) → map (λ (r : RowMention A). r.name) (flat_map mentions units) ≡ flat_map names units
names_joined mentions names named [] = refl
names_joined {A} mentions names named (u ∷ units) =
    map-append (λ (r : RowMention A). r.name) (mentions u) (flat_map mentions units)
    ∙ ap (λ xs. xs ++ map (λ (r : RowMention A). r.name) (flat_map mentions units)) (named u) ∙ ap (λ xs. names u ++ xs) (names_joined mentions names named units)

module _ {A : Type 0} (units : List UnitParts) (mentions : UnitParts → List (RowMention A)) (names : UnitParts → List (List ℕ)) (named : (u : UnitParts) → map (λ (r : RowMention A). r.name) (mentions u) ≡ names u) where
  -- the names of the table
  pub table_named : names_in (flat_map mentions units) ≡ first_mentions (flat_map names units)
  unfolding names_in
  table_named = ap first_mentions (names_joined mentions names named units)

  -- the number of a unit's row is that of its name
  pub number_row : (u : UnitParts) (i : ℕ) (r : RowMention A) → slice_get (mentions u) i ≡ Some r
      → linked_number (first_mentions (flat_map names units)) (names u) i ≡ number_among (names_in (flat_map mentions units)) r.name
  number_row u i r e =
      let at_name = get_or_from_slice_get (map (λ (x : RowMention A). x.name) (mentions u)) i r.name [] (map_get (λ (x : RowMention A). x.name) (mentions u) i r e) in
      ap (λ ns. number_among (first_mentions (flat_map names units)) (get_or ns i [])) (sym (named u)) ∙ ap (number_among (first_mentions (flat_map names units))) at_name
      ∙ ap (λ ns. number_among ns r.name) (sym table_named)

  module _ (bytes : A → List ℕ) (f : Faultless bytes (flat_map mentions units)) where
    -- the number of a unit's row is there
    pub number_fits : (u : UnitParts) (i : ℕ) → In u units → i < length (mentions u) → linked_number (first_mentions (flat_map names units)) (names u) i < length (meant_rows (flat_map mentions units))
    number_fits u i h lt =
        let r = there (mentions u) i lt in
        let row : In r.0 (flat_map mentions units) = in_flat mentions r.0 u units h (in_get (mentions u) i r.0 r.1) in
        omega (arith, number_row u i r.0 r.1, number_within r.0.name (names_in (flat_map mentions units)) (row_named bytes (flat_map mentions units) f r.0 row), length-meant_rows bytes (flat_map mentions units) f)

    -- what stands there holds the same as the unit's row
    pub row_at : (u : UnitParts) (i : ℕ) (r : RowMention A) → In u units → slice_get (mentions u) i ≡ Some r
        → (x : A) × (slice_get (meant_rows (flat_map mentions units)) (linked_number (first_mentions (flat_map names units)) (names u) i) ≡ Some x) × (bytes r.row ≡ bytes x)
    row_at u i r h e =
        let x = held bytes (flat_map mentions units) f r (in_flat mentions r u units h (in_get (mentions u) i r e)) in
        (x.0, ap (slice_get (meant_rows (flat_map mentions units))) (number_row u i r e) ∙ x.1, x.2)

    -- each row of the image is a unit's that is not extern
    pub row_from : (k : ℕ) (x : A) → slice_get (meant_rows (flat_map mentions units)) k ≡ Some x
        → (u : UnitParts) × (i : ℕ) × (r : RowMention A) × In u units × (slice_get (mentions u) i ≡ Some r) × (r.ext ≡ false) × (r.row ≡ x)
        × (linked_number (first_mentions (flat_map names units)) (names u) i ≡ k)
    row_from k x e =
        let o = meant_row bytes (flat_map mentions units) f k x e in
        let u = from_flat mentions o.0 units o.1 in
        let i = get_in (mentions u.0) o.0 u.2 in
        (u.0, i.0, o.0, u.1, i.1, o.2, o.3, number_row u.0 i.0 o.0 i.1 ∙ o.4)
