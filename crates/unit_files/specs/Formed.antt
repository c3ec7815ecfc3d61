-- What every unit keeps, by the numbers of the conditions, and which unit bytes stand for. Where no more is said, a condition is
-- an image's.
use Rattle.std.specs.Prelude.{◌≡◌, ℕ, ◌+◌, ◌-◌, true, List, [], ◌∷◌, ◌++◌, length, map}
use Rattle.object_layout.specs.declared.rows.KindRow.{KindRow}
use Rattle.object_layout.specs.declared.rows.ClassRow.{ClassRow}
use Rattle.file_fields.specs.Parts.{EachAfter, Each}
use Rattle.tal_image.specs.declared.parts.FunctionPart.{FunctionPart}
use Rattle.tal_image.specs.declared.parts.Tables.{Tables}
use Rattle.tal_image.specs.Conditions.{where_given, heap_fits, stacks_fit, sigs_fit, functions_fit, classes_fit, kinds_fit, statics_fit, arrays_fit, code_fits, part_length_fits, part_numbers, blocks_fit, marks_fit, sig_fits, kind_fits, array_fits, Spelled, mark_fits}
use Rattle.tal_image.specs.Fields.{all_instructions, code_bytes}
use Rattle.tal_image.specs.Formed.{IsWord, IsSig, IsClass, IsFieldType, AreBodies, IsBlockPart}
use Rattle.unit_files.specs.Unit.{UnitParts, UnitSig, UnitFun, UnitEntry, UnitClass, UnitKind, UnitStatic, UnitArray, UnitBlock, UnitMark, FixUp, kind_row, block_part, function_parts, own_functions, UnitFileOf}
use Rattle.unit_files.specs.Conditions.{names_fit, entries_fit, fixups_fit, name_length_fits, is_name, mention_fits, stack_fits, entry_function_fits, unit_mark_fits, fixup_fits, fixup_kind_fits, fixup_index_fits}

-- a name
pub record IsName (letters : List ℕ) : Type 0 where
  pub long : name_length_fits (length letters) ≡ true
  pub condition_28 : is_name letters ≡ true

-- the number of a row's name
pub record IsMention (names name : ℕ) : Type 0 where
  pub word : IsWord name
  pub condition_29 : mention_fits names name ≡ true

-- a signature
pub record IsUnitSig (names : ℕ) (t : Tables) (s : UnitSig) : Type 0 where
  pub mention : IsMention names s.name
  pub sig : IsSig t s.sig

-- a function before so many others, with so much of the code left
pub record IsUnitFun (names : ℕ) (t : Tables) (later left : ℕ) (f : UnitFun) : Type 0 where
  pub mention : IsMention names f.name
  pub length_word : IsWord f.length
  pub condition_13 : part_length_fits f.ext later left f.length ≡ true
  pub sig_word : IsWord f.sig
  pub condition_14 : sig_fits t f.sig ≡ true

-- an entry
pub record IsUnitEntry (functions : ℕ) (e : UnitEntry) : Type 0 where
  pub stack_word : IsWord e.stack
  pub stack_15 : stack_fits e.stack ≡ true
  pub function_word : IsWord e.function
  pub function_15 : entry_function_fits functions e.function ≡ true

-- a class after these
pub record IsUnitClass (names : ℕ) (t : Tables) (functions : List FunctionPart) (classes : List ClassRow) (c : UnitClass) : Type 0 where
  pub mention : IsMention names c.name
  pub row : IsClass t functions classes c.row

-- an array kind
pub record IsUnitKind (names : ℕ) (t : Tables) (k : UnitKind) : Type 0 where
  pub mention : IsMention names k.name
  pub element : IsFieldType t k.element

-- a static
pub record IsUnitStatic (names : ℕ) (t : Tables) (s : UnitStatic) : Type 0 where
  pub mention : IsMention names s.name
  pub ty : IsFieldType t s.ty

-- a data array, where the statics and the data arrays before it take so many words; an extern one has no numbers
pub record IsUnitArray (names : ℕ) (t : Tables) (kinds : List KindRow) (used : ℕ) (a : UnitArray) : Type 0 where
  pub mention : IsMention names a.row.name
  pub kind_word : IsWord a.row.kind
  pub condition_21 : kind_fits t a.row.kind ≡ true
  pub length_word : IsWord a.row.length
  pub condition_22 : array_fits used a.row.length ≡ true
  pub count : length a.numbers ≡ part_numbers a.row.ext kinds a.row.kind a.row.length
  pub words : Each IsWord a.numbers

-- a mark, where its offset is at least this
pub record IsUnitMark (t : Tables) (functions arrays : ℕ) (code : List Spelled) (least : ℕ) (m : UnitMark) : Type 0 where
  pub offset_word : IsWord m.offset
  pub condition_26 : mark_fits code least m.offset ≡ true
  pub tag_word : IsWord m.tag
  pub index_word : IsWord m.index
  pub condition_27 : unit_mark_fits t functions arrays code m.offset m.tag m.index ≡ true

-- a fix-up, where its offset is at least this
pub record IsFixUp (t : Tables) (functions arrays statics : ℕ) (code : List Spelled) (least : ℕ) (f : FixUp) : Type 0 where
  pub offset_word : IsWord f.offset
  pub offset_30 : fixup_fits code least f.offset ≡ true
  pub kind_word : IsWord f.kind
  pub kind_30 : fixup_kind_fits f.kind ≡ true
  pub index_word : IsWord f.index
  pub index_30 : fixup_index_fits t functions arrays statics f.kind f.index ≡ true

-- ---- what is kept of the rows before one

-- what is left of the code after a function
abbrev pub after_unit_fun : ℕ → UnitFun → ℕ
after_unit_fun left f = left - f.length

-- the classes, with one more
abbrev pub with_unit_class : List ClassRow → UnitClass → List ClassRow
with_unit_class classes c = classes ++ c.row ∷ []

-- the words that the statics and the data arrays so far take, with one more data array
abbrev pub with_unit_array : ℕ → UnitArray → ℕ
with_unit_array used a = used + 2 + a.row.length

-- the least offset of a block, of a mark and of a fix-up after another
abbrev pub after_unit_block : ℕ → UnitBlock → ℕ
after_unit_block least b = b.offset + 1

abbrev pub after_unit_mark : ℕ → UnitMark → ℕ
after_unit_mark least m = m.offset + 1

abbrev pub after_fixup : ℕ → FixUp → ℕ
after_fixup least f = f.offset + 1

-- ---- a unit

-- the tables to which a unit's types refer
abbrev pub unit_tables : UnitParts → Tables
unit_tables u = record { sigs = length u.sigs; classes = length u.classes; kinds = length u.kinds }

-- what every unit keeps
pub record UnitFormed (u : UnitParts) : Type 0 where
  pub condition_1 : where_given true heap_fits u.heap_words ≡ true
  pub condition_2 : where_given true stacks_fit u.stacks ≡ true
  pub condition_3 : where_given true sigs_fit (length u.sigs) ≡ true
  pub condition_4 : where_given true functions_fit (length u.functions) ≡ true
  pub condition_5 : classes_fit (length u.classes) ≡ true
  pub condition_6 : kinds_fit (length u.kinds) ≡ true
  pub condition_7 : statics_fit (length u.statics) ≡ true
  pub condition_8 : arrays_fit (length u.arrays) ≡ true
  pub condition_9 : where_given true code_fits (length u.code) ≡ true
  pub condition_10 : blocks_fit (length u.blocks) ≡ true
  pub condition_11 : marks_fit (length u.marks) ≡ true
  -- conditions 28, 15 and 30
  pub names_28 : names_fit (length u.names) ≡ true
  pub entries_15 : entries_fit (length u.entries) ≡ true
  pub fixups_30 : fixups_fit (length u.fixups) ≡ true
  -- condition 28
  pub names : Each IsName u.names
  -- condition 29 here and in each table below, and 12
  pub sigs : Each (IsUnitSig (length u.names) (unit_tables u)) u.sigs
  -- conditions 13 and 14
  pub functions : EachAfter after_unit_fun (λ later left f. IsUnitFun (length u.names) (unit_tables u) later left f) (length u.code) u.functions
  -- condition 15
  pub entries : Each (IsUnitEntry (length u.functions)) u.entries
  -- conditions 16 to 20
  pub classes : EachAfter with_unit_class (λ later classes c. IsUnitClass (length u.names) (unit_tables u) (function_parts u.functions) classes c) [] u.classes
  -- condition 18
  pub kinds : Each (IsUnitKind (length u.names) (unit_tables u)) u.kinds
  pub statics : Each (IsUnitStatic (length u.names) (unit_tables u)) u.statics
  -- conditions 21 and 22
  pub arrays : EachAfter with_unit_array (λ later used a. IsUnitArray (length u.names) (unit_tables u) (map kind_row u.kinds) used a) (length u.statics) u.arrays
  -- condition 23
  pub bodies : List (List Spelled)
  pub condition_23 : AreBodies (own_functions u.functions) bodies
  pub code : u.code ≡ code_bytes (all_instructions bodies)
  -- conditions 24 and 25
  pub blocks : EachAfter after_unit_block (λ later least b. IsBlockPart (unit_tables u) (own_functions u.functions) (all_instructions bodies) least (block_part b)) 0 u.blocks
  -- conditions 26 and 27
  pub marks : EachAfter after_unit_mark (λ later least m. IsUnitMark (unit_tables u) (length u.functions) (length u.arrays) (all_instructions bodies) least m) 0 u.marks
  -- condition 30
  pub fixups : EachAfter after_fixup (λ later least f. IsFixUp (unit_tables u) (length u.functions) (length u.arrays) (length u.statics) (all_instructions bodies) least f) 0 u.fixups

-- the bytes stand for the unit
pub record UnitOf (bytes : List ℕ) (u : UnitParts) : Type 0 where
  pub formed : UnitFormed u
  pub file : bytes ≡ UnitFileOf u
