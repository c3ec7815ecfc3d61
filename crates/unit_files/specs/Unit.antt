-- A unit, and the bytes of its file: those of an image's rows, with names before them.
use Rattle.std.specs.Prelude.{ℕ, Bool, true, false, List, [], ◌∷◌, ◌++◌, length, map}
use Rattle.std.specs.List.{flat_map}
use Rattle.object_layout.specs.declared.rows.KindRow.{KindRow}
use Rattle.tal_image.specs.declared.parts.FunctionPart.{FunctionPart}
use Rattle.tal_image.specs.declared.parts.MarkPart.{MarkPart}
use Rattle.tal_image.specs.declared.parts.ArrayPart.{ArrayPart}
use Rattle.tal_image.specs.declared.parts.BlockPart.{BlockPart}
use Rattle.tal_image.specs.Image.{number_bytes, numbers, sig_bytes, function_bytes, class_bytes, field_bytes, array_bytes, block_bytes, mark_bytes}
pub use Rattle.unit_files.specs.declared.parts.UnitSig.{UnitSig}
pub use Rattle.unit_files.specs.declared.parts.UnitFun.{UnitFun}
pub use Rattle.unit_files.specs.declared.parts.UnitEntry.{UnitEntry}
pub use Rattle.unit_files.specs.declared.parts.UnitClass.{UnitClass}
pub use Rattle.unit_files.specs.declared.parts.UnitKind.{UnitKind}
pub use Rattle.unit_files.specs.declared.parts.UnitStatic.{UnitStatic}
pub use Rattle.unit_files.specs.declared.parts.UnitArray.{UnitArray}
pub use Rattle.unit_files.specs.declared.parts.UnitBlock.{UnitBlock}
pub use Rattle.unit_files.specs.declared.parts.UnitMark.{UnitMark}
pub use Rattle.unit_files.specs.declared.parts.FixUp.{FixUp}
use Rattle.unit_files.specs.declared.parts.UnitRows.{UnitRows}

-- a unit: the heap's words and the stacks, 0 where they are not given; its names; the rows of its tables in their order; the
-- code, and what is said of the code
pub record UnitParts : Type 0 where
  pub heap_words : ℕ
  pub stacks : ℕ
  pub names : List (List ℕ)
  pub sigs : List UnitSig
  pub functions : List UnitFun
  pub entries : List UnitEntry
  pub classes : List UnitClass
  pub kinds : List UnitKind
  pub statics : List UnitStatic
  pub arrays : List UnitArray
  pub code : List ℕ
  pub blocks : List UnitBlock
  pub marks : List UnitMark
  pub fixups : List FixUp

-- the unit of these rows
abbrev pub unit_of : UnitRows → UnitParts
unit_of r = record {
  heap_words = r.heap_words;
  stacks = r.stacks;
  names = r.names.items;
  sigs = r.sigs.items;
  functions = r.functions.items;
  entries = r.entries.items;
  classes = r.classes.items;
  kinds = r.kinds.items;
  statics = r.statics.items;
  arrays = r.arrays.items;
  code = r.code.items;
  blocks = r.blocks.items;
  marks = r.marks.items;
  fixups = r.fixups.items;
}

-- ---- the rows that an image would have

-- a function, an array kind, a data array, a block and a mark, without a name
abbrev pub function_part : UnitFun → FunctionPart
function_part f = record { length = f.length; sig = f.sig }

abbrev pub kind_row : UnitKind → KindRow
kind_row k = record { element = k.element }

abbrev pub array_part : UnitArray → ArrayPart
array_part a = record { kind = a.row.kind; size = a.row.length; numbers = a.numbers }

abbrev pub block_part : UnitBlock → BlockPart
block_part b = record { offset = b.offset; types = b.regs; slots = b.slots }

abbrev pub mark_part : UnitMark → MarkPart
mark_part m = record { offset = m.offset; tag = m.tag; index = m.index }

-- all functions
abbrev pub function_parts : List UnitFun → List FunctionPart
function_parts functions = map function_part functions

-- those whose code is in the unit
unfoldable pub own_functions : List UnitFun → List FunctionPart
own_functions [] = []
own_functions (f ∷ functions) = elim f.ext [ true ↦ own_functions functions | false ↦ function_part f ∷ own_functions functions ]

-- ---- the file

-- the number whose bytes are the letters VRVU
abbrev pub unit_magic : ℕ
unit_magic = 0x55565256

-- a name: its length, and its bytes
abbrev pub name_bytes : List ℕ → List ℕ
name_bytes letters = number_bytes (length letters) ++ letters

-- 1 for an extern row, or 0
abbrev pub ext_number : Bool → ℕ
ext_number false = 0
ext_number true = 1

-- what stands before a row: its name's number, and whether it is extern
abbrev pub mention_bytes : ℕ → Bool → List ℕ
mention_bytes name ext = number_bytes name ++ number_bytes (ext_number ext)

-- a named row: then the bytes of an image's row
abbrev pub unit_sig_bytes : UnitSig → List ℕ
unit_sig_bytes s = mention_bytes s.name s.ext ++ sig_bytes s.sig

abbrev pub unit_function_bytes : UnitFun → List ℕ
unit_function_bytes f = mention_bytes f.name f.ext ++ function_bytes (function_part f)

abbrev pub unit_class_bytes : UnitClass → List ℕ
unit_class_bytes c = mention_bytes c.name c.ext ++ class_bytes c.row

abbrev pub unit_kind_bytes : UnitKind → List ℕ
unit_kind_bytes k = mention_bytes k.name k.ext ++ field_bytes k.element

abbrev pub unit_static_bytes : UnitStatic → List ℕ
unit_static_bytes s = mention_bytes s.name s.ext ++ field_bytes s.ty

abbrev pub unit_array_bytes : UnitArray → List ℕ
unit_array_bytes a = mention_bytes a.row.name a.row.ext ++ array_bytes (array_part a)

-- an entry: the stack, and its function
abbrev pub entry_bytes : UnitEntry → List ℕ
entry_bytes e = number_bytes e.stack ++ number_bytes e.function

-- a fix-up: its place in the code, its kind, its index
abbrev pub fixup_bytes : FixUp → List ℕ
fixup_bytes f = number_bytes f.offset ++ (number_bytes f.kind ++ number_bytes f.index)

-- the header: the letters VRVU, the version, the heap's words, the stacks, the counts of an image's rows with the code's
-- length, then the counts of names, entries and fix-ups
abbrev pub unit_header : UnitParts → List ℕ
unit_header u =
    unit_magic ∷ 1 ∷ u.heap_words ∷ u.stacks
    ∷ length u.sigs ∷ length u.functions ∷ length u.classes ∷ length u.kinds ∷ length u.statics ∷ length u.arrays
    ∷ length u.code ∷ length u.blocks ∷ length u.marks
    ∷ length u.names ∷ length u.entries ∷ length u.fixups ∷ []

-- the bytes of the unit's file, part by part
unfoldable pub UnitFileOf : UnitParts → List ℕ
UnitFileOf u =
    numbers (unit_header u)
    ++ (flat_map name_bytes u.names
    ++ (flat_map unit_sig_bytes u.sigs
    ++ (flat_map unit_function_bytes u.functions
    ++ (flat_map entry_bytes u.entries
    ++ (flat_map unit_class_bytes u.classes
    ++ (flat_map unit_kind_bytes u.kinds
    ++ (flat_map unit_static_bytes u.statics
    ++ (flat_map unit_array_bytes u.arrays
    ++ (u.code
    ++ (flat_map (λ b. block_bytes (block_part b)) u.blocks
    ++ (flat_map (λ m. mark_bytes (mark_part m)) u.marks
    ++ flat_map fixup_bytes u.fixups)))))))))))
