-- What an image keeps beside its rows.
use Rattle.std.specs.Prelude.{◌≡◌, ◌≢◌, ℕ, ◌+◌, ◌*◌, ◌^◌, ◌<◌, ◌≤◌, List, [], ◌∷◌, ◌++◌, ◌-◌, length, map, replicate, Option, Some, None, MatchOption, slice_index, slice_index_or, nat_lt, if◌then◌else◌}
use Rattle.object_layout.specs.declared.rows.ClassRow.{ClassRow}
use Rattle.tal_types.specs.declared.views.Span.{Span}
use Rattle.tal_image.specs.declared.parts.ArrayPart.{ArrayPart}
use Rattle.tal_image.specs.declared.parts.FunctionPart.{FunctionPart}
use Rattle.tal_image.specs.declared.parts.MarkPart.{MarkPart}
use Rattle.tal_image.specs.declared.image.Image.TheInside.{Inside}
use Rattle.tal_image.specs.declared.image_reader.PlacedRows.TheInside.{Inside as Placed}
use Rattle.tal_image.specs.Image.{BlockPart, parent_number, parts_of}
use Rattle.object_layout.specs.Areas.{code_start, statics_start}
use Rattle.tal_image.specs.Conditions.{array_room, fun_rows}
use Rattle.tal_image.specs.Formed.{Formed}
use Rattle.tal_image.specs.Shown.{spans, shapes_of}

-- the address of a data array that begins so many words behind so many statics
abbrev pub data_place : ℕ → ℕ → ℕ
data_place statics offset = statics_start + 4 * (statics + offset)

-- where data arrays begin that follow one another from a word on, in words
unfoldable pub array_offsets : ℕ → List ArrayPart → List ℕ
array_offsets at [] = []
array_offsets at (a ∷ arrays) = at ∷ array_offsets (at + array_room a) arrays

-- beside the rows are their functions with their addresses, and where their data arrays begin
pub record ArePlaced (a : Placed) : Type 0 where
  pub funs : a.funs.items ≡ fun_rows code_start a.rows.functions.items
  pub offsets : a.offsets.items ≡ array_offsets 0 a.rows.arrays.items

-- the keys of a list rise
abbrev pub RisesBy : {A : Type 0} → (A → ℕ) → List A → Type 0
RisesBy {A} key xs = (i j : ℕ) (d : A) → i < j → j < length xs → key (slice_index_or xs i d) < key (slice_index_or xs j d)

-- a place in a list where the key is this number; none where it is so nowhere
abbrev pub IsAtKey : {A : Type 0} → (A → ℕ) → List A → ℕ → Option ℕ → Type 0
IsAtKey {A} key xs n at = MatchOption at ((i : ℕ) (d : A) → i < length xs → key (slice_index_or xs i d) ≢ n) (λ i. (i < length xs) × ((d : A) → key (slice_index_or xs i d) ≡ n))

-- the place that an index has for a number: one less than what it holds there
unfoldable pub kept_place : List ℕ → ℕ → Option ℕ
kept_place places n = if nat_lt 0 (slice_index places n) then Some (slice_index places n - 1) else None

-- an index has for each number the place where it is the key
abbrev pub IsIndex : {A : Type 0} → (A → ℕ) → List A → List ℕ → Type 0
IsIndex {A} key xs places = (n : ℕ) → IsAtKey key xs n (kept_place places n)

-- for each byte of functions the number of the one that has it, where the first has this number
unfoldable pub owners : ℕ → List FunctionPart → List ℕ
owners first [] = []
owners first (f ∷ fs) = replicate f.length first ++ owners (first + 1) fs

-- the rows are an image's, and beside them are the table of its classes, where its functions begin, which of them has a byte,
-- which block and which mark is at an offset, and where its data arrays begin
pub record KeepsImage (a : Inside) : Type 0 where
  pub formed : Formed (parts_of a.rows)
  pub shapes : a.shapes ≡ shapes_of (parts_of a.rows)
  pub starts : a.starts.items ≡ map (λ (s : Span). s.start) (spans code_start a.rows.functions.items)
  pub owners : a.owners.items ≡ owners 0 a.rows.functions.items
  pub blocks : IsIndex (λ (b : BlockPart). b.offset) a.rows.blocks.items a.block_places.items
  pub marks : IsIndex (λ (m : MarkPart). m.offset) a.rows.marks.items a.mark_places.items
  pub offsets : a.offsets.items ≡ array_offsets 0 a.rows.arrays.items

-- the place of the last number that is not above this one; none where all are above it
abbrev pub IsLastUpTo : List ℕ → ℕ → Option ℕ → Type 0
IsLastUpTo xs n at = MatchOption at ((k : ℕ) → k < length xs → n < slice_index xs k)
    (λ i. (i < length xs) × (slice_index xs i ≤ n) × ((k : ℕ) → i < k → k < length xs → n < slice_index xs k))

-- the counts of a class, and its parent's number, have 32 bits
pub record ClassHasWords (c : ClassRow) : Type 0 where
  pub parent : parent_number c.parent < 2 ^ 32
  pub fields : length c.fields < 2 ^ 32
  pub methods : length c.methods < 2 ^ 32
