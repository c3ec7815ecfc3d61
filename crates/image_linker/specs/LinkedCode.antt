-- The code of a linked image: functions in the order of their table, with the words put in that units leave out.
use Rattle.std.specs.Prelude.{ℕ, ◌+◌, ◌-◌, ◌*◌, ◌%◌, ◌^◌, ◌==◌, ◌||◌, ◌&&◌, nat_le, nat_lt, Bool, List, [], ◌∷◌, ◌++◌, map, filter, take, drop, Option, Some, None, slice_index, if◌then◌else◌}
use Rattle.std.specs.Option.{option_map_or}
use Rattle.object_layout.specs.Areas.{code_start, statics_start, table_address, descriptor_address}
use Rattle.object_layout.specs.declared.rows.FunRow.{FunRow}
use Rattle.tal_image.specs.declared.parts.ArrayPart.{ArrayPart}
use Rattle.tal_image.specs.declared.parts.BlockPart.{BlockPart}
use Rattle.tal_image.specs.declared.parts.FunctionPart.{FunctionPart}
use Rattle.tal_image.specs.declared.parts.MarkPart.{MarkPart}
use Rattle.tal_image.specs.Conditions.{fun_rows, array_places}
use Rattle.tal_image.specs.Image.{number_bytes}
use Rattle.unit_files.specs.declared.parts.UnitBlock.{UnitBlock}
use Rattle.unit_files.specs.declared.parts.UnitMark.{UnitMark}
use Rattle.unit_files.specs.declared.parts.FixUp.{FixUp}
use Rattle.unit_files.specs.Unit.{UnitParts}
use Rattle.unit_files.specs.Conditions.{words_in_text}
use Rattle.image_linker.specs.LinkedRows.{TableNames, UnitBody, linked_type, linked_class, linked_kind, linked_sig, linked_static, linked_array, linked_function}

-- ---- addresses

-- where functions and data arrays stand in the image
pub record Places : Type 0 where
  pub functions : List ℕ
  pub arrays : List ℕ

abbrev pub image_places : List FunctionPart → ℕ → List ArrayPart → Places
image_places functions statics arrays = record {
  functions = map (λ (row : FunRow). row.address) (fun_rows code_start functions);
  arrays = array_places (statics_start + 4 * statics) arrays;
}

-- the address of an entry of the Nucleus
abbrev pub nucleus_place : ℕ → ℕ
nucleus_place k = 0x1000 + 16 * k

-- how far an address lies from the end of the four bytes at an offset of the code
abbrev pub distance : ℕ → ℕ → ℕ
distance address hole = (address + 2 ^ 32 - (code_start + hole + 4)) % 2 ^ 32

-- ---- the words

-- the word of a fix-up of a unit, whose hole lies at this offset of the image's code
unfoldable pub fixed_word : TableNames → Places → UnitParts → ℕ → FixUp → ℕ
fixed_word t places u hole f =
    if f.kind == 1 then table_address (linked_class t u f.index)
    else if f.kind == 2 then descriptor_address (linked_kind t u f.index)
    else if f.kind == 3 then slice_index places.functions (linked_function t u f.index)
    else if f.kind == 4 then slice_index places.arrays (linked_array t u f.index)
    else if f.kind == 5 then statics_start + 4 * linked_static t u f.index
    else if f.kind == 6 then distance (slice_index places.functions (linked_function t u f.index)) hole
    else distance (nucleus_place f.index) hole

-- what a mark of a unit names in the image
unfoldable pub marked_index : TableNames → UnitParts → UnitMark → ℕ
marked_index t u m =
    if m.tag == 1 || m.tag == 7 then linked_class t u m.index
    else if m.tag == 3 || m.tag == 8 then linked_kind t u m.index
    else if m.tag == 5 then linked_sig t u m.index
    else if m.tag == 6 then linked_function t u m.index
    else linked_array t u m.index

-- the word of a mark, by its tag and what it names in the image: 0 for null
unfoldable pub marked_word : Places → ℕ → ℕ → ℕ
marked_word places tag index =
    if tag == 6 then slice_index places.functions index
    else if tag == 7 then table_address index
    else if tag == 8 then descriptor_address index
    else if tag == 10 then slice_index places.arrays index
    else 0

-- ---- putting them in

-- the bytes with a word at an offset
abbrev pub word_put : ℕ → ℕ → List ℕ → List ℕ
word_put at word bytes = take at bytes ++ (number_bytes word ++ drop (at + 4) bytes)

-- the same, where there is an offset
abbrev pub word_put_at : Option ℕ → ℕ → List ℕ → List ℕ
word_put_at None word bytes = bytes
word_put_at (Some at) word bytes = word_put at word bytes

-- an offset of the unit's code lies in the function
abbrev pub is_in : UnitBody → ℕ → Bool
is_in b offset = nat_le b.start offset && nat_lt offset (b.start + b.length)

-- the fix-ups, marks and blocks of a function
abbrev pub fixups_in : UnitBody → List FixUp
fixups_in b = filter (λ (f : FixUp). is_in b f.offset) b.unit.fixups

abbrev pub marks_in : UnitBody → List UnitMark
marks_in b = filter (λ (m : UnitMark). is_in b m.offset) b.unit.marks

abbrev pub blocks_in : UnitBody → List UnitBlock
blocks_in b = filter (λ (k : UnitBlock). is_in b k.offset) b.unit.blocks

-- the code of a function that begins at offset `begin` of the image's code, with its holes filled
abbrev pub holes_filled : TableNames → Places → ℕ → UnitBody → List FixUp → List ℕ → List ℕ
holes_filled t places begin b [] code = code
holes_filled t places begin b (f ∷ fixups) code =
    holes_filled t places begin b fixups (word_put (f.offset - b.start) (fixed_word t places b.unit (begin + (f.offset - b.start)) f) code)

-- and with its marked immediates, each of which is the whole word that its instruction ends with
abbrev pub marked_code : TableNames → Places → UnitBody → List UnitMark → List ℕ → List ℕ
marked_code t places b [] code = code
marked_code t places b (m ∷ marks) code =
    marked_code t places b marks
    (word_put_at (option_map_or (λ at. Some (m.offset - b.start + at)) (words_in_text (drop m.offset b.unit.code)).at_end None)
    (marked_word places m.tag (marked_index t b.unit m)) code)

abbrev pub body_code : TableNames → Places → ℕ → UnitBody → List ℕ
body_code t places begin b =
    marked_code t places b (marks_in b) (holes_filled t places begin b (fixups_in b) (take b.length (drop b.start b.unit.code)))

-- ---- all functions

-- a part of each function one after another, the first of which begins at this offset
unfoldable pub each_body : {A : Type 0} → (ℕ → UnitBody → List A) → ℕ → List UnitBody → List A
each_body part begin [] = []
each_body part begin (b ∷ bodies) = part begin b ++ each_body part (begin + b.length) bodies

-- the blocks and the marks of a function
abbrev pub body_blocks : TableNames → ℕ → UnitBody → List BlockPart
body_blocks t begin b =
    map (λ (k : UnitBlock). record { offset = begin + (k.offset - b.start); types = map (linked_type t b.unit) k.regs; slots = map (linked_type t b.unit) k.slots })
    (blocks_in b)

abbrev pub body_marks : TableNames → ℕ → UnitBody → List MarkPart
body_marks t begin b =
    map (λ (m : UnitMark). record { offset = begin + (m.offset - b.start); tag = m.tag; index = marked_index t b.unit m }) (marks_in b)
