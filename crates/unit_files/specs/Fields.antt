-- The fields of a unit file, part by part: those of an image's rows, with names before them.
use Rattle.std.specs.Prelude.{ℕ, zero, suc, ◌==◌, Bool, true, List, [], ◌∷◌, map}
use Rattle.object_layout.specs.declared.rows.ClassRow.{ClassRow}
use Rattle.object_layout.specs.declared.rows.KindRow.{KindRow}
use Rattle.file_fields.specs.declared.fault.ImageFault.{ImageFault}
use Rattle.file_fields.specs.declared.fault.ImageFault.TheVariants.{Bad}
use Rattle.file_fields.specs.Grammar.{Grammar, done, chunk, instruction, checked, then_with, many, each, FaultOf}
use Rattle.tal_image.specs.declared.parts.FunctionPart.{FunctionPart}
use Rattle.tal_image.specs.declared.parts.Tables.{Tables}
use Rattle.tal_image.specs.Conditions.{part_length_fits, part_numbers, Spelled, block_fits, mark_fits}
use Rattle.tal_image.specs.Fields.{tables_of, header_where, sig_fields, function_where, class_fields, field_type_field, array_where, bodies, all_instructions, code_bytes, block_where, mark_where}
pub use Rattle.unit_files.specs.declared.row_reader.UnitHeader.{UnitHeader}
pub use Rattle.unit_files.specs.declared.row_reader.Mention.{Mention}
use Rattle.unit_files.specs.Unit.{UnitParts, UnitSig, UnitFun, UnitEntry, UnitClass, UnitKind, UnitStatic, UnitArray, UnitBlock, UnitMark, FixUp, kind_row, function_parts, own_functions, unit_magic}
use Rattle.unit_files.specs.Conditions.{names_fit, entries_fit, fixups_fit, name_length_fits, is_name, mention_fits, ext_fits, stack_fits, entry_function_fits, unit_mark_fits, fixup_fits, fixup_kind_fits, fixup_index_fits}
use Rattle.unit_files.specs.Formed.{after_unit_fun, with_unit_class, with_unit_array, after_unit_block, after_unit_mark, after_fixup}

-- the header: an image's, and three counts more
unfoldable pub unit_header_fields : Grammar UnitHeader
unit_header_fields =
    then_with (header_where unit_magic true) (λ h.
    then_with (checked names_fit 28) (λ names.
    then_with (checked entries_fit 15) (λ entries.
    then_with (checked fixups_fit 30) (λ fixups.
    done (record { image = h; names = names; entries = entries; fixups = fixups })))))

-- the tables to which types refer
abbrev pub tables_behind : UnitHeader → Tables
tables_behind h = tables_of h.image

-- a name: its length, and its bytes as one field
unfoldable pub name_fields : Grammar (List ℕ)
name_fields = then_with (checked name_length_fits 28) (λ n. chunk n is_name (λ t at. Bad at 28) (λ t. done t))

-- what stands before a row, where there are so many names
unfoldable pub mention_fields : ℕ → Grammar Mention
mention_fields names =
    then_with (checked (mention_fits names) 29) (λ name.
    then_with (checked ext_fits 29) (λ ext.
    done (record { name = name; ext = ext == 1 })))

-- a signature
unfoldable pub unit_sig_fields : ℕ → Tables → Grammar UnitSig
unit_sig_fields names t =
    then_with (mention_fields names) (λ m.
    then_with (sig_fields t) (λ sig.
    done (record { name = m.name; ext = m.ext; sig = sig })))

-- a function, where so many come after it and so many bytes of the code are left
unfoldable pub unit_function_fields : ℕ → Tables → ℕ → ℕ → Grammar UnitFun
unit_function_fields names t later left =
    then_with (mention_fields names) (λ m.
    then_with (function_where t (part_length_fits m.ext later left)) (λ f.
    done (record { name = m.name; ext = m.ext; length = f.length; sig = f.sig })))

-- an entry
unfoldable pub entry_fields : ℕ → Grammar UnitEntry
entry_fields functions =
    then_with (checked stack_fits 15) (λ stack.
    then_with (checked (entry_function_fits functions) 15) (λ function.
    done (record { stack = stack; function = function })))

-- a class, after these
unfoldable pub unit_class_fields : ℕ → Tables → List FunctionPart → List ClassRow → Grammar UnitClass
unit_class_fields names t functions classes =
    then_with (mention_fields names) (λ m.
    then_with (class_fields t functions classes) (λ row.
    done (record { name = m.name; ext = m.ext; row = row })))

-- an array kind
unfoldable pub unit_kind_fields : ℕ → Tables → Grammar UnitKind
unit_kind_fields names t =
    then_with (mention_fields names) (λ m.
    then_with (field_type_field t) (λ element.
    done (record { name = m.name; ext = m.ext; element = element })))

-- a static
unfoldable pub unit_static_fields : ℕ → Tables → Grammar UnitStatic
unit_static_fields names t =
    then_with (mention_fields names) (λ m.
    then_with (field_type_field t) (λ ty.
    done (record { name = m.name; ext = m.ext; ty = ty })))

-- a data array, where the statics and the data arrays before it take so many words
unfoldable pub unit_array_fields : ℕ → Tables → List KindRow → ℕ → Grammar UnitArray
unit_array_fields names t kinds used =
    then_with (mention_fields names) (λ m.
    then_with (array_where t (part_numbers m.ext kinds) used) (λ a.
    done (record { row = record { name = m.name; ext = m.ext; kind = a.kind; length = a.size }; numbers = a.numbers })))

-- the instructions of the functions whose code is in the unit; code without a function breaks condition 23 at its first byte
unfoldable pub unit_bodies : List UnitFun → ℕ → Grammar (List (List Spelled))
unit_bodies [] zero = done []
unit_bodies [] (suc n) = instruction 0 (λ text i. done [])
unit_bodies (f ∷ functions) n = bodies (own_functions (f ∷ functions))

-- a block whose offset meets a test
unfoldable pub unit_block_where : Tables → (ℕ → Bool) → Grammar UnitBlock
unit_block_where t place = then_with (block_where t place) (λ b. done (record { offset = b.offset; regs = b.types; slots = b.slots }))

-- a block, where its offset is at least this
abbrev pub unit_block_fields : Tables → List FunctionPart → List Spelled → ℕ → Grammar UnitBlock
unit_block_fields t functions code least = unit_block_where t (block_fits functions code least)

-- a mark whose offset meets a test, and its tag and index another
unfoldable pub unit_mark_where : (ℕ → Bool) → (ℕ → ℕ → ℕ → Bool) → Grammar UnitMark
unit_mark_where place word = then_with (mark_where place word) (λ m. done (record { offset = m.offset; tag = m.tag; index = m.index }))

-- a mark, where its offset is at least this
abbrev pub unit_mark_fields : Tables → ℕ → ℕ → List Spelled → ℕ → Grammar UnitMark
unit_mark_fields t functions arrays code least = unit_mark_where (mark_fits code least) (unit_mark_fits t functions arrays code)

-- a fix-up whose offset meets a test
unfoldable pub fixup_where : Tables → ℕ → ℕ → ℕ → (ℕ → Bool) → Grammar FixUp
fixup_where t functions arrays statics place =
    then_with (checked place 30) (λ offset.
    then_with (checked fixup_kind_fits 30) (λ kind.
    then_with (checked (fixup_index_fits t functions arrays statics kind) 30) (λ index.
    done (record { offset = offset; kind = kind; index = index }))))

-- a fix-up, where its offset is at least this
abbrev pub fixup_fields : Tables → ℕ → ℕ → ℕ → List Spelled → ℕ → Grammar FixUp
fixup_fields t functions arrays statics code least = fixup_where t functions arrays statics (fixup_fits code least)

-- ---- the lists of a file, each after what it looks at

abbrev pub unit_names : UnitHeader → Grammar (List (List ℕ))
unit_names h = each h.names name_fields

abbrev pub unit_sigs : UnitHeader → Grammar (List UnitSig)
unit_sigs h = each h.image.sigs (unit_sig_fields h.names (tables_behind h))

abbrev pub unit_functions : UnitHeader → Grammar (List UnitFun)
unit_functions h = many h.image.functions (unit_function_fields h.names (tables_behind h)) after_unit_fun h.image.code

abbrev pub unit_entries : UnitHeader → Grammar (List UnitEntry)
unit_entries h = each h.entries (entry_fields h.image.functions)

abbrev pub unit_classes : UnitHeader → List FunctionPart → Grammar (List UnitClass)
unit_classes h functions = many h.image.classes (λ later classes. unit_class_fields h.names (tables_behind h) functions classes) with_unit_class []

abbrev pub unit_kinds : UnitHeader → Grammar (List UnitKind)
unit_kinds h = each h.image.kinds (unit_kind_fields h.names (tables_behind h))

abbrev pub unit_statics : UnitHeader → Grammar (List UnitStatic)
unit_statics h = each h.image.statics (unit_static_fields h.names (tables_behind h))

abbrev pub unit_arrays : UnitHeader → List KindRow → Grammar (List UnitArray)
unit_arrays h kinds = many h.image.arrays (λ later used. unit_array_fields h.names (tables_behind h) kinds used) with_unit_array h.image.statics

abbrev pub unit_blocks : UnitHeader → List FunctionPart → List Spelled → Grammar (List UnitBlock)
unit_blocks h functions code = many h.image.blocks (λ later least. unit_block_fields (tables_behind h) functions code least) after_unit_block 0

abbrev pub unit_marks : UnitHeader → List Spelled → Grammar (List UnitMark)
unit_marks h code = many h.image.marks (λ later least. unit_mark_fields (tables_behind h) h.image.functions h.image.arrays code least) after_unit_mark 0

abbrev pub unit_fixups : UnitHeader → List Spelled → Grammar (List FixUp)
unit_fixups h code = many h.fixups (λ later least. fixup_fields (tables_behind h) h.image.functions h.image.arrays h.image.statics code least) after_fixup 0

-- ---- the whole file, in three parts

-- what stands before the classes
pub record UnitFront : Type 0 where
  pub header : UnitHeader
  pub names : List (List ℕ)
  pub sigs : List UnitSig
  pub functions : List UnitFun
  pub entries : List UnitEntry

-- the tables behind it
pub record UnitTables : Type 0 where
  pub classes : List UnitClass
  pub kinds : List UnitKind
  pub statics : List UnitStatic
  pub arrays : List UnitArray

-- the code, by the instructions of each function that is in the unit, and what is said of it
pub record UnitCode : Type 0 where
  pub bodies : List (List Spelled)
  pub blocks : List UnitBlock
  pub marks : List UnitMark
  pub fixups : List FixUp

unfoldable pub front_fields : Grammar UnitFront
front_fields =
    then_with unit_header_fields (λ h.
    then_with (unit_names h) (λ names.
    then_with (unit_sigs h) (λ sigs.
    then_with (unit_functions h) (λ functions.
    then_with (unit_entries h) (λ entries.
    done (record { header = h; names = names; sigs = sigs; functions = functions; entries = entries }))))))

unfoldable pub table_fields : UnitFront → Grammar UnitTables
table_fields f =
    then_with (unit_classes f.header (function_parts f.functions)) (λ classes.
    then_with (unit_kinds f.header) (λ kinds.
    then_with (unit_statics f.header) (λ statics.
    then_with (unit_arrays f.header (map kind_row kinds)) (λ arrays.
    done (record { classes = classes; kinds = kinds; statics = statics; arrays = arrays })))))

unfoldable pub code_fields : UnitFront → Grammar UnitCode
code_fields f =
    then_with (unit_bodies f.functions f.header.image.code) (λ bodies.
    then_with (unit_blocks f.header (own_functions f.functions) (all_instructions bodies)) (λ blocks.
    then_with (unit_marks f.header (all_instructions bodies)) (λ marks.
    then_with (unit_fixups f.header (all_instructions bodies)) (λ fixups.
    done (record { bodies = bodies; blocks = blocks; marks = marks; fixups = fixups })))))

-- the unit of these parts
abbrev pub unit_from : UnitFront → UnitTables → UnitCode → UnitParts
unit_from f t c = record {
  heap_words = f.header.image.heap_words;
  stacks = f.header.image.stacks;
  names = f.names;
  sigs = f.sigs;
  functions = f.functions;
  entries = f.entries;
  classes = t.classes;
  kinds = t.kinds;
  statics = t.statics;
  arrays = t.arrays;
  code = code_bytes (all_instructions c.bodies);
  blocks = c.blocks;
  marks = c.marks;
  fixups = c.fixups;
}

-- the fields of a unit file
unfoldable pub unit_fields : Grammar UnitParts
unit_fields =
    then_with front_fields (λ f.
    then_with (table_fields f) (λ t.
    then_with (code_fields f) (λ c.
    done (unit_from f t c))))

-- the first fault of bytes that stand for no unit
abbrev pub FirstUnitFault : List ℕ → ImageFault → Type 0
FirstUnitFault bytes f = FaultOf unit_fields bytes f
