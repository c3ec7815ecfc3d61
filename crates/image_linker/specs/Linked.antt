-- What units link to: an image, or the first fault.
use Rattle.std.specs.Prelude.{ℕ, ◌+◌, ◌==◌, ◌&&◌, ◌||◌, not, nat_le, nat_lt, Bool, List, [], ◌∷◌, ◌++◌, length, map, filter, find, sum, codes, decimal, slice_get, slice_index_or, Option, Some, None, Result, Ok, Err, if◌then◌else◌}
use Rattle.std.specs.List.{flat_map, range_with_len}
use Rattle.std.specs.Option.{option_map, option_map_or, option_to_list}
use Rattle.tal_types.specs.declared.signatures.Sig.{Sig}
use Rattle.tal_image.specs.declared.parts.ArrayPart.{ArrayPart}
use Rattle.tal_image.specs.declared.parts.FunctionPart.{FunctionPart}
use Rattle.tal_image.specs.Image.{ImageParts, number_bytes, sig_bytes, class_bytes, kind_bytes, field_bytes, FileOf}
use Rattle.tal_image.specs.Conditions.{sigs_fit, functions_fit, classes_fit, kinds_fit, statics_fit, arrays_fit, code_fits, blocks_fit, marks_fit, entry_fits, most_words}
use Rattle.unit_files.specs.declared.parts.UnitEntry.{UnitEntry}
use Rattle.unit_files.specs.Unit.{UnitParts}
use Rattle.image_linker.specs.RowMentions.{meant_rows, is_given_twice, is_missing, is_different, first_name, first_of}
use Rattle.image_linker.specs.LinkedRows.{TableNames, table_names, LinkedTables, linked_tables, linked_function, UnitBody}
use Rattle.image_linker.specs.LinkedCode.{Places, image_places, body_code, body_blocks, body_marks, each_body}

-- why units link to no image: a name is given twice, or not at all, or by an extern row that holds something else; a stack has no
-- fit entry; a table, the code or the file is too large. Each tells a name by its letters.
pub data LinkFaultView : Type 0 where
  Twice : List ℕ → LinkFaultView
  Missing : List ℕ → LinkFaultView
  Differs : List ℕ → LinkFaultView
  NoEntry : List ℕ → LinkFaultView
  TooMany : List ℕ → LinkFaultView

-- ---- numbers that units give

-- those that are given, where 0 is none
abbrev pub given_numbers : List ℕ → List ℕ
given_numbers numbers = filter (λ n. nat_lt 0 n) numbers

abbrev pub heap_words_of : List UnitParts → List ℕ
heap_words_of units = given_numbers (map (λ (u : UnitParts). u.heap_words) units)

abbrev pub stacks_of : List UnitParts → List ℕ
stacks_of units = given_numbers (map (λ (u : UnitParts). u.stacks) units)

-- one number is given, or two, or none
abbrev pub number_twice : List ℕ → List ℕ → Option (List ℕ)
number_twice name numbers = if nat_lt 1 (length numbers) then Some name else None

abbrev pub number_missing : List ℕ → List ℕ → Option (List ℕ)
number_missing name numbers = if length numbers == 0 then Some name else None

-- ---- entries

-- the entries of a unit, with linked numbers of their functions
abbrev pub linked_entries : TableNames → UnitParts → List UnitEntry
linked_entries t u = map (λ (e : UnitEntry). record { stack = e.stack; function = linked_function t u e.function }) u.entries

unfoldable pub entries_of : List UnitParts → List UnitEntry
entries_of units = flat_map (linked_entries (table_names units)) units

-- those of a stack
abbrev pub stack_entries : List UnitParts → ℕ → List UnitEntry
stack_entries units stack = filter (λ (e : UnitEntry). e.stack == stack) (entries_of units)

-- the function at which a stack begins, if one is given
abbrev pub stack_entry : List UnitParts → ℕ → Option ℕ
stack_entry units stack = option_map (λ (e : UnitEntry). e.function) (slice_get (stack_entries units stack) 0)

-- an entry's name in a fault, by its stack
abbrev pub entry_name : ℕ → List ℕ
entry_name stack = codes "entry " ++ decimal stack

-- the first entry whose stack has another one, too
abbrev pub entry_twice : List UnitParts → Option (List ℕ)
entry_twice units =
    option_map (λ (e : UnitEntry). entry_name e.stack) (find (λ (e : UnitEntry). nat_lt 1 (length (stack_entries units e.stack))) (entries_of units))

-- ---- the image

-- the rows of the image
abbrev pub sigs_of : List UnitParts → List Sig
sigs_of units = meant_rows (linked_tables units).sigs

abbrev pub bodies_of : List UnitParts → List UnitBody
bodies_of units = meant_rows (linked_tables units).functions

abbrev pub body_part : UnitBody → FunctionPart
body_part b = record { length = b.length; sig = b.sig }

abbrev pub functions_of : List UnitParts → List FunctionPart
functions_of units = map body_part (bodies_of units)

abbrev pub linked_places : List UnitParts → Places
linked_places units = image_places (functions_of units) (length (meant_rows (linked_tables units).statics)) (meant_rows (linked_tables units).arrays)

-- the image of units in which nothing is wrong
unfoldable pub linked_image : List UnitParts → ImageParts
linked_image units = record {
  heap_words = slice_index_or (heap_words_of units) 0 0;
  stacks = slice_index_or (stacks_of units) 0 0;
  sigs = sigs_of units;
  functions = functions_of units;
  entries = flat_map (λ stack. option_to_list (stack_entry units stack)) (range_with_len 0 (slice_index_or (stacks_of units) 0 0));
  classes = meant_rows (linked_tables units).classes;
  kinds = meant_rows (linked_tables units).kinds;
  statics = meant_rows (linked_tables units).statics;
  arrays = meant_rows (linked_tables units).arrays;
  code = each_body (body_code (table_names units) (linked_places units)) 0 (bodies_of units);
  blocks = each_body (body_blocks (table_names units)) 0 (bodies_of units);
  marks = each_body (body_marks (table_names units)) 0 (bodies_of units);
}

-- ---- the faults, each over the tables in their order

unfoldable pub twice_in : List UnitParts → LinkedTables → Option (List ℕ)
twice_in units t =
    first_of (number_twice (codes "heap") (heap_words_of units) ∷ number_twice (codes "stacks") (stacks_of units)
    ∷ first_name (is_given_twice t.sigs) t.sigs ∷ first_name (is_given_twice t.classes) t.classes ∷ first_name (is_given_twice t.kinds) t.kinds
    ∷ first_name (is_given_twice t.statics) t.statics ∷ first_name (is_given_twice t.arrays) t.arrays ∷ first_name (is_given_twice t.functions) t.functions
    ∷ entry_twice units ∷ [])

unfoldable pub missing_in : List UnitParts → LinkedTables → Option (List ℕ)
missing_in units t =
    first_of (number_missing (codes "heap") (heap_words_of units) ∷ number_missing (codes "stacks") (stacks_of units)
    ∷ first_name (is_missing t.sigs) t.sigs ∷ first_name (is_missing t.classes) t.classes ∷ first_name (is_missing t.kinds) t.kinds
    ∷ first_name (is_missing t.statics) t.statics ∷ first_name (is_missing t.arrays) t.arrays ∷ first_name (is_missing t.functions) t.functions ∷ [])

-- What rows hold is compared by the bytes that they have in an image's file: of a data array its kind and its length, of a function
-- its signature.
abbrev pub array_held : ArrayPart → List ℕ
array_held a = number_bytes a.kind ++ number_bytes a.size

abbrev pub body_held : UnitBody → List ℕ
body_held b = number_bytes b.sig

unfoldable pub different_in : LinkedTables → Option (List ℕ)
different_in t =
    first_of (first_name (is_different sig_bytes t.sigs) t.sigs ∷ first_name (is_different class_bytes t.classes) t.classes
    ∷ first_name (is_different kind_bytes t.kinds) t.kinds ∷ first_name (is_different field_bytes t.statics) t.statics
    ∷ first_name (is_different array_held t.arrays) t.arrays ∷ first_name (is_different body_held t.functions) t.functions ∷ [])

-- a stack has no fit entry: it is one of the image's and none is given, or one is given and the image has no such stack, or the
-- function that is given takes or gives something
abbrev pub no_entry : List UnitParts → ImageParts → ℕ → Bool
no_entry units image stack = option_map_or (λ f. nat_le image.stacks stack || not (entry_fits image.sigs image.functions f)) (stack_entry units stack) (nat_lt stack image.stacks)

abbrev pub unfit_entry : List UnitParts → ImageParts → Option (List ℕ)
unfit_entry units image = option_map entry_name (find (no_entry units image) (range_with_len 0 64))

-- the data arrays with the statics take more words than there may be
abbrev pub words_fit : ImageParts → Bool
words_fit image = nat_le (length image.statics + sum (map (λ (a : ArrayPart). 2 + a.size) image.arrays)) most_words

-- a table's name where it is too large
abbrev pub fault_unless : Bool → List ℕ → Option (List ℕ)
fault_unless fits name = if fits then None else Some name

-- the most bytes of an image's file
abbrev pub most_bytes : ℕ
most_bytes = 4194304

unfoldable pub too_many : ImageParts → Option (List ℕ)
too_many image =
    first_of (fault_unless (sigs_fit (length image.sigs)) (codes "signatures") ∷ fault_unless (classes_fit (length image.classes)) (codes "classes")
    ∷ fault_unless (kinds_fit (length image.kinds)) (codes "kinds") ∷ fault_unless (statics_fit (length image.statics)) (codes "statics")
    ∷ fault_unless (arrays_fit (length image.arrays) && words_fit image) (codes "data")
    ∷ fault_unless (functions_fit (length image.functions)) (codes "functions") ∷ fault_unless (code_fits (length image.code)) (codes "code")
    ∷ fault_unless (blocks_fit (length image.blocks)) (codes "blocks") ∷ fault_unless (marks_fit (length image.marks)) (codes "marks")
    ∷ fault_unless (nat_le (length (FileOf image)) most_bytes) (codes "bytes") ∷ [])

-- the first fault of units
unfoldable pub link_fault : List UnitParts → Option LinkFaultView
link_fault units =
    first_of (option_map Twice (twice_in units (linked_tables units)) ∷ option_map Missing (missing_in units (linked_tables units))
    ∷ option_map Differs (different_in (linked_tables units)) ∷ option_map NoEntry (unfit_entry units (linked_image units))
    ∷ option_map TooMany (too_many (linked_image units)) ∷ [])

-- what units link to
unfoldable pub Linked : List UnitParts → Result ImageParts LinkFaultView
Linked units = option_map_or Err (link_fault units) (Ok (linked_image units))
