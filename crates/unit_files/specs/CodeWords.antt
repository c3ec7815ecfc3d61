-- What is kept of the bytes of the code while a unit is read, by which each mark and fix-up is tried in one step.
use Rattle.std.specs.Prelude.{ℕ, zero, suc, ◌==◌, Bool, false, ◌&&◌, ◌||◌, nat_lt, nat_le, List, [], ◌∷◌, length, take, drop, Some, is_some, slice_index_or, Ok}
use Rattle.std.specs.List.{flat_map}
use Rattle.ia32_code.specs.declared.word_offsets.WholeWords.{WholeWords}
use Rattle.ia32_code.specs.Spells.{Spells}
use Rattle.file_fields.specs.Grammar.{Grammar, many, bytes_number}
use Rattle.file_fields.specs.Reading.{◌▸◌, Reads, run}
use Rattle.tal_image.specs.declared.parts.FunctionPart.{FunctionPart}
use Rattle.tal_image.specs.declared.start.Start.{Start}
use Rattle.tal_image.specs.Conditions.{Spelled, same_number}
use Rattle.tal_image.specs.Fields.{all_instructions, code_bytes}
use Rattle.tal_image.specs.CodeReading.{starts_behind, function_starts, place_fits, offset_fits, start_at, start_number}
use Rattle.unit_files.specs.declared.code_places.CodeByte.{CodeByte}
use Rattle.unit_files.specs.declared.unit_reader.CodeRows.{CodeRows}
use Rattle.unit_files.specs.Unit.{UnitFun, UnitBlock, UnitMark, FixUp}
use Rattle.unit_files.specs.Conditions.{words_in_text, is_that_place, marked_rows, is_null_tag}
use Rattle.unit_files.specs.Formed.{after_unit_block, after_unit_mark, after_fixup}
use Rattle.unit_files.specs.Fields.{UnitHeader, UnitCode, tables_behind, unit_bodies, unit_block_where, unit_mark_where, fixup_where}

-- what is known of a byte of an instruction's, by where its whole words lie
unfoldable pub byte_by : WholeWords → List ℕ → ℕ → CodeByte
byte_by words text k = record {
  hole = (is_that_place words.within k || is_that_place words.at_end k) && bytes_number (take 4 (drop k text)) == 0;
  wide = k == 0 && is_some words.at_end;
}

-- of so many bytes from one on
abbrev pub bytes_from : (ℕ → CodeByte) → ℕ → ℕ → List CodeByte
bytes_from f k zero = []
bytes_from f k (suc n) = f k ∷ bytes_from f (suc k) n

-- of all bytes of an instruction
abbrev pub instruction_bytes : WholeWords → List ℕ → List CodeByte
instruction_bytes words text = bytes_from (byte_by words text) 0 (length text)

-- of all bytes of instructions one after another
abbrev pub code_table : List Spelled → List CodeByte
code_table code = flat_map (λ (s : Spelled). instruction_bytes (words_in_text s.text) s.text) code

-- of a byte; no hole and no instruction begins where there is none
abbrev pub code_byte_at : List CodeByte → ℕ → CodeByte
code_byte_at table k = slice_index_or table k (record { hole = false; wide = false })

-- each instruction is spelled by its bytes
abbrev pub AreSpelled : List Spelled → Type 0
AreSpelled [] = Unit {0}
AreSpelled (s ∷ code) = Spells s.text s.means × AreSpelled code

-- ---- the code, and what is said of it

-- where the instructions of a unit's functions begin, in a file whose code has so many bytes
abbrev pub unit_starts_at : List UnitFun → ℕ → Reads (List Start)
unit_starts_at functions n file at = starts_behind [] (run (unit_bodies functions n) file at ▸ λ x. Ok (all_instructions x.0, x.1))

-- whether there is code and no function that it belongs to
abbrev pub lacks_function : List UnitFun → ℕ → Bool
lacks_function functions n = length functions == 0 && nat_lt 0 n

-- whether a mark at an offset may have a tag and an index
unfoldable pub unit_mark_says : UnitHeader → List Start → List CodeByte → ℕ → ℕ → ℕ → Bool
unit_mark_says h starts table offset tag index =
    nat_lt index (marked_rows (tables_behind h) h.image.functions h.image.arrays tag)
    && same_number (Some 0) (start_number (start_at starts offset)) && (is_null_tag tag || (code_byte_at table offset).wide)

-- whether a fix-up may stand at an offset
unfoldable pub hole_fits : List CodeByte → ℕ → ℕ → Bool
hole_fits table least offset = nat_le least offset && (code_byte_at table offset).hole

-- a mark, and a fix-up, where its offset is at least this
abbrev pub unit_mark_by : UnitHeader → List Start → List CodeByte → ℕ → Grammar UnitMark
unit_mark_by h starts table least = unit_mark_where (offset_fits starts least) (unit_mark_says h starts table)

abbrev pub fixup_by : UnitHeader → List CodeByte → ℕ → Grammar FixUp
fixup_by h table least = fixup_where (tables_behind h) h.image.functions h.image.arrays h.image.statics (hole_fits table least)

-- the blocks, the marks and the fix-ups, by what is kept of the code
abbrev pub unit_blocks_by : UnitHeader → List FunctionPart → List Start → Grammar (List UnitBlock)
unit_blocks_by h functions starts = many h.image.blocks (λ later least. unit_block_where (tables_behind h) (place_fits starts (function_starts functions) least)) after_unit_block 0

abbrev pub unit_marks_by : UnitHeader → List Start → List CodeByte → Grammar (List UnitMark)
unit_marks_by h starts table = many h.image.marks (λ later least. unit_mark_by h starts table least) after_unit_mark 0

abbrev pub fixups_by : UnitHeader → List CodeByte → Grammar (List FixUp)
fixups_by h table = many h.fixups (λ later least. fixup_by h table least) after_fixup 0

-- the code and what is said of it, without the instructions
pub record UnitCodeParts : Type 0 where
  pub code : List ℕ
  pub blocks : List UnitBlock
  pub marks : List UnitMark
  pub fixups : List FixUp

abbrev pub unit_code_of : UnitCode → UnitCodeParts
unit_code_of c = record { code = code_bytes (all_instructions c.bodies); blocks = c.blocks; marks = c.marks; fixups = c.fixups }

abbrev pub unit_code_read : CodeRows → UnitCodeParts
unit_code_read r = record { code = r.code.items; blocks = r.blocks.items; marks = r.marks.items; fixups = r.fixups.items }
