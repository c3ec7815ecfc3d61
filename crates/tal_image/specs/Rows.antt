-- What the rows of a file stand for, both ways, and how far they reach, where another file has rows like an image's.
use Rattle.std.specs.Prelude.{◌≡◌, ℕ, ◌<◌, ◌≤◌, ◌^◌, Bool, true, List, [], ◌∷◌, length}
use Rattle.std.specs.List.{sum_by}
use Rattle.object_layout.specs.declared.rows.ClassRow.{ClassRow}
use Rattle.object_layout.specs.declared.rows.KindRow.{KindRow}
use Rattle.file_fields.specs.Parts.{Means, Checked, CheckedPair, Counted, Each}
use Rattle.file_fields.specs.Reach.{Most, MostAny}
use Rattle.tal_image.specs.declared.parts.Header.{Header}
use Rattle.tal_image.specs.declared.parts.FunctionPart.{FunctionPart}
use Rattle.tal_image.specs.declared.parts.MarkPart.{MarkPart}
use Rattle.tal_image.specs.Image.{ArrayPart, numbers, sig_bytes, function_bytes, class_bytes, field_bytes, array_bytes, block_bytes, mark_bytes}
use Rattle.tal_image.specs.Conditions.{Tables, sig_fits, kind_fits, array_fits, part_numbers, Spelled}
use Rattle.tal_image.specs.Fields.{header_where, sig_fields, function_where, class_fields, field_type_field, array_where, bodies, all_instructions, code_bytes, block_where, block_fields, mark_where}
use Rattle.tal_image.specs.Formed.{IsWord, IsHeader, IsSig, IsClass, IsFieldType, IsBody, AreBodies, IsBlockPart}

-- the numbers of a header, behind this magic number
abbrev pub header_numbers : ℕ → Header → List ℕ
header_numbers letters h =
    letters ∷ 1 ∷ h.heap_words ∷ h.stacks
    ∷ h.sigs ∷ h.functions ∷ h.classes ∷ h.kinds ∷ h.statics ∷ h.arrays
    ∷ h.code ∷ h.blocks ∷ h.marks ∷ []

-- a function whose length meets a test
abbrev pub IsFunctionWhere : Tables → (ℕ → Bool) → FunctionPart → Type 0
IsFunctionWhere t long f = Checked long f.length × Checked (sig_fits t) f.sig

-- a data array with so many numbers by its kind and its length
abbrev pub IsArrayWhere : Tables → (ℕ → ℕ → ℕ) → ℕ → ArrayPart → Type 0
IsArrayWhere t given used a = Checked (kind_fits t) a.kind × Checked (array_fits used) a.size × Counted (given a.kind a.size) (Each IsWord) a.numbers

-- a mark whose offset meets a test, and its tag and index another
abbrev pub IsMarkWhere : (ℕ → Bool) → (ℕ → ℕ → ℕ → Bool) → MarkPart → Type 0
IsMarkWhere place word m = Checked place m.offset × CheckedPair (word m.offset) (m.tag, m.index)

-- what each row stands for, and how many bytes the instructions of a function have
pub record RowMeanings : Type 0 where
  pub header : (letters : ℕ) (partial : Bool) → letters < 2 ^ 32 → Means (header_where letters partial) (IsHeader partial) (λ h. numbers (header_numbers letters h))
  pub sig : (t : Tables) → Means (sig_fields t) (IsSig t) sig_bytes
  pub function : (t : Tables) (long : ℕ → Bool) → Means (function_where t long) (IsFunctionWhere t long) function_bytes
  pub class : (t : Tables) (functions : List FunctionPart) (classes : List ClassRow) → Means (class_fields t functions classes) (IsClass t functions classes) class_bytes
  pub field_type : (t : Tables) → Means (field_type_field t) (IsFieldType t) field_bytes
  pub array : (t : Tables) (given : ℕ → ℕ → ℕ) (used : ℕ) → Means (array_where t given used) (IsArrayWhere t given used) array_bytes
  pub bodies : (functions : List FunctionPart) → Means (bodies functions) (AreBodies functions) (λ xs. code_bytes (all_instructions xs))
  pub body_length : (room : ℕ) (body : List Spelled) → IsBody room body → length (code_bytes body) ≡ room
  pub block : (t : Tables) (functions : List FunctionPart) (code : List Spelled) (least : ℕ) → Means (block_fields t functions code least) (IsBlockPart t functions code least) block_bytes
  pub mark : (place : ℕ → Bool) (word : ℕ → ℕ → ℕ → Bool) → Means (mark_where place word) (IsMarkWhere place word) mark_bytes

-- how many bytes each row has at most, and what is then known of it; a data array has no more numbers than elements
pub record RowReaches : Type 0 where
  pub header : (letters : ℕ) (partial : Bool) → Most (IsHeader partial) (header_where letters partial) 52
  pub sig : (t : Tables) → MostAny (sig_fields t) 64
  pub function : (t : Tables) (long : ℕ → Bool) → Most (λ (f : FunctionPart). long f.length ≡ true) (function_where t long) 8
  pub class : (t : Tables) (functions : List FunctionPart) (classes : List ClassRow) → MostAny (class_fields t functions classes) 2272
  pub field_type : (t : Tables) → MostAny (field_type_field t) 8
  pub numbers : (ext : Bool) (kinds : List KindRow) (kind size : ℕ) → part_numbers ext kinds kind size ≤ size
  pub bodies : (functions : List FunctionPart) → MostAny (bodies functions) (sum_by (λ (f : FunctionPart). f.length) functions)
  pub block : (t : Tables) (place : ℕ → Bool) → MostAny (block_where t place) 576
  pub mark : (place : ℕ → Bool) (word : ℕ → ℕ → ℕ → Bool) → MostAny (mark_where place word) 12
