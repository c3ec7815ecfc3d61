-- Reading a whole image file: the tables, then the code with what is said of it.
use Rattle.std.specs.Prelude.{ℕ, ◌+◌, ◌-◌, ◌*◌, ◌≤◌, List, map, take, drop, Ok}
use Rattle.std.specs.List.{sum_by}
use Rattle.object_layout.specs.declared.rows.FieldTy.{FieldTy}
use Rattle.object_layout.specs.declared.rows.ClassRow.{ClassRow}
use Rattle.object_layout.specs.declared.rows.KindRow.{KindRow}
use Rattle.object_layout.specs.declared.rows.FunRow.{FunRow}
use Rattle.tal_types.specs.declared.signatures.Sig.{Sig}
use Rattle.tal_image.specs.declared.parts.Header.{Header}
use Rattle.tal_image.specs.declared.parts.FunctionPart.{FunctionPart}
use Rattle.tal_image.specs.declared.parts.MarkPart.{MarkPart}
use Rattle.tal_image.specs.declared.image_reader.TableRows.{TableRows}
use Rattle.tal_image.specs.declared.image_reader.CodeRows.{CodeRows}
use Rattle.tal_image.specs.declared.start.Start.{Start}
use Rattle.tal_image.specs.Image.{ImageParts, ArrayPart, BlockPart}
use Rattle.object_layout.specs.Areas.{code_start, statics_start}
use Rattle.tal_image.specs.Conditions.{fun_rows, array_places, array_room, most_code, most_words}
use Rattle.file_fields.specs.Grammar.{Grammar, many}
use Rattle.file_fields.specs.Reading.{◌▸◌, Reads, run}
use Rattle.tal_image.specs.Fields.{tables_of, header_fields, sigs_part, functions_part, entries_part, classes_part, kinds_part, statics_part, arrays_part, block_where, mark_where, after_block, after_mark}
use Rattle.tal_image.specs.CodeReading.{function_starts, code_at, place_fits, offset_fits, mark_says}

-- what stands before the code
pub record FrontParts : Type 0 where
  pub header : Header
  pub sigs : List Sig
  pub functions : List FunctionPart
  pub entries : List ℕ
  pub classes : List ClassRow
  pub kinds : List KindRow
  pub statics : List FieldTy
  pub arrays : List ArrayPart

-- the code and what is said of it
pub record CodeParts : Type 0 where
  pub code : List ℕ
  pub blocks : List BlockPart
  pub marks : List MarkPart

-- these rows
abbrev pub front_parts_of : TableRows → FrontParts
front_parts_of r = record {
  header = r.header;
  sigs = r.sigs.items;
  functions = r.functions.items;
  entries = r.entries.items;
  classes = r.classes.items;
  kinds = r.kinds.items;
  statics = r.statics;
  arrays = r.arrays.items;
}

abbrev pub behind_of : CodeRows → CodeParts
behind_of r = record { code = r.code.items; blocks = r.blocks.items; marks = r.marks.items }

-- what stands before the code
unfoldable pub front_at : Reads FrontParts
front_at file at =
    run header_fields file at ▸ λ h.
    run (sigs_part h.0) file h.1 ▸ λ sigs.
    run (functions_part h.0) file sigs.1 ▸ λ functions.
    run (entries_part h.0 sigs.0 functions.0) file functions.1 ▸ λ entries.
    run (classes_part h.0 functions.0) file entries.1 ▸ λ classes.
    run (kinds_part h.0) file classes.1 ▸ λ kinds.
    run (statics_part h.0) file kinds.1 ▸ λ statics.
    run (arrays_part h.0 kinds.0) file statics.1 ▸ λ arrays.
    Ok (
      record {
        header = h.0;
        sigs = sigs.0;
        functions = functions.0;
        entries = entries.0;
        classes = classes.0;
        kinds = kinds.0;
        statics = statics.0;
        arrays = arrays.0;
      },
      arrays.1,
    )

-- the addresses of the functions, and of the data arrays
abbrev pub addresses_of : FrontParts → List ℕ
addresses_of f = map (λ (row : FunRow). row.address) (fun_rows code_start f.functions)

abbrev pub places_of_arrays : FrontParts → List ℕ
places_of_arrays f = array_places (statics_start + 4 * f.header.statics) f.arrays

-- blocks where instructions begin and no function does, and marks of the immediate numbers
abbrev pub blocks_by : FrontParts → List Start → Grammar (List BlockPart)
blocks_by f starts = many f.header.blocks (λ later least. block_where (tables_of f.header) (place_fits starts (function_starts f.functions) least)) after_block 0

abbrev pub marks_by : FrontParts → List Start → Grammar (List MarkPart)
marks_by f starts =
    many f.header.marks (λ later least. mark_where (offset_fits starts least) (mark_says (tables_of f.header) (addresses_of f) (places_of_arrays f) starts)) after_mark 0

-- the code and what is said of it
unfoldable pub behind_at : FrontParts → Reads CodeParts
behind_at f file at =
    code_at f.functions file at ▸ λ starts.
    run (blocks_by f starts.0) file starts.1 ▸ λ blocks.
    run (marks_by f starts.0) file blocks.1 ▸ λ marks.
    Ok (record { code = take (starts.1 - at) (drop at file); blocks = blocks.0; marks = marks.0 }, marks.1)

-- the image of these parts
abbrev pub image_from : FrontParts → CodeParts → ImageParts
image_from f c = record {
  heap_words = f.header.heap_words;
  stacks = f.header.stacks;
  sigs = f.sigs;
  functions = f.functions;
  entries = f.entries;
  classes = f.classes;
  kinds = f.kinds;
  statics = f.statics;
  arrays = f.arrays;
  code = c.code;
  blocks = c.blocks;
  marks = c.marks;
}

-- an image
unfoldable pub image_at : Reads ImageParts
image_at file at = front_at file at ▸ λ front. behind_at front.0 file front.1 ▸ λ behind. Ok (image_from front.0 behind.0, behind.1)

-- the classes, the array kinds, the functions and the data arrays have room in memory
pub record FitsMemory (f : FrontParts) : Type 0 where
  pub classes : f.header.classes ≤ 1024
  pub kinds : f.header.kinds ≤ 256
  pub code : sum_by (λ (row : FunctionPart). row.length) f.functions ≤ most_code
  pub arrays : f.header.statics + sum_by array_room f.arrays ≤ most_words
