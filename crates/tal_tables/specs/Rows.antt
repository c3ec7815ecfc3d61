-- What the lines of a module make in the tables of its unit, one after another: each line by its form, with the least code of its
-- faults. All lines of a class are taken at its first one, and are passed over behind it; the code of functions is taken
-- elsewhere.
use Rattle.std.specs.Prelude.{ℕ, ℤ, ◌+◌, ◌==◌, Bool, true, false, not, List, [], ◌∷◌, ◌++◌, length, map, replicate, Option, Some, None, Result, Ok, Err, slice_index_or, if◌then◌else◌}
use Rattle.std.specs.List.{list_any}
use Rattle.std.specs.Option.{option_map_or, unwrap_or}
use Rattle.asm_faults.specs.Answers.{at_line}
use Rattle.asm_faults.specs.declared.AsmFault.{AsmFault}
use Rattle.object_layout.specs.declared.rows.ClassRow.{ClassRow}
use Rattle.object_layout.specs.declared.rows.FieldTy.{FieldTy}
use Rattle.tal_types.specs.declared.signatures.Sig.{Sig}
use Rattle.tal_syntax.specs.declared.form.Form.{Form}
use Rattle.tal_syntax.specs.declared.form.Form.TheVariants as form
use Rattle.tal_syntax.specs.declared.module.TextLine.{TextLine}
use Rattle.tal_image.specs.Conditions.{heap_fits, stacks_fit}
use Rattle.unit_files.specs.Unit.{UnitParts}
use Rattle.unit_files.specs.declared.parts.UnitSig.{UnitSig}
use Rattle.unit_files.specs.declared.parts.UnitFun.{UnitFun}
use Rattle.unit_files.specs.declared.parts.UnitEntry.{UnitEntry}
use Rattle.unit_files.specs.declared.parts.UnitClass.{UnitClass}
use Rattle.unit_files.specs.declared.parts.UnitKind.{UnitKind}
use Rattle.unit_files.specs.declared.parts.UnitStatic.{UnitStatic}
use Rattle.unit_files.specs.declared.parts.UnitArray.{UnitArray}
use Rattle.unit_files.specs.declared.parts.UnitBlock.{UnitBlock}
use Rattle.unit_files.specs.declared.parts.UnitMark.{UnitMark}
use Rattle.unit_files.specs.declared.parts.FixUp.{FixUp}
use Rattle.tal_names.specs.Declarations.{Names}
use Rattle.tal_names.specs.NameSets.{number_of_name}
use Rattle.tal_operands.specs.Addresses.{word}
use Rattle.tal_rows.specs.Trials.{need_value, unless}
use Rattle.tal_rows.specs.Lines.{natural, sig_line, kind_line, static_line, data_line, function_line, class_line, entry_line}
use Rattle.tal_rows.specs.declared.lines.DataLine.{DataLine}
use Rattle.tal_rows.specs.declared.lines.EntryLine.{EntryLine}
use Rattle.tal_classes.specs.Members.{class_row}

-- What the lines so far have made: the heap's words and the stacks, 0 where they are not given; the rows of each table; and how
-- many words the statics and the data arrays take.
pub record ModuleTablesView : Type 0 where
  pub heap_words : ℕ
  pub stacks : ℕ
  pub sigs : List UnitSig
  pub functions : List UnitFun
  pub entries : List UnitEntry
  pub classes : List UnitClass
  pub kinds : List UnitKind
  pub statics : List UnitStatic
  pub arrays : List UnitArray
  pub words : ℕ

-- no line has made anything yet
abbrev pub no_tables : ModuleTablesView
no_tables = record { heap_words = 0; stacks = 0; sigs = []; functions = []; entries = []; classes = []; kinds = []; statics = []; arrays = []; words = 0 }

-- ---- single lines

-- the heap: it is given once; its words fit
unfoldable pub heap_line : ℕ → ℤ → Result ℕ ℕ
heap_line given n = unless (not (given == 0)) 12 (need_value (natural n) 17 (λ words. unless (not (heap_fits words)) 17 (Ok words)))

-- the stacks: the same
unfoldable pub stacks_line : ℕ → ℤ → Result ℕ ℕ
stacks_line given n = unless (not (given == 0)) 12 (need_value (natural n) 17 (λ stacks. unless (not (stacks_fit stacks)) 17 (Ok stacks)))

-- a stack has an entry
unfoldable pub has_entry : List UnitEntry → ℤ → Bool
has_entry entries stack = option_map_or (λ s. list_any (λ (e : UnitEntry). e.stack == s) entries) (natural stack) false

-- The numbers of a data array: those that are written, modulo 2^32, or as many times 0. One that is extern or holds no numbers
-- has none.
unfoldable pub array_numbers : Names → Bool → ℕ → ℕ → Option (List ℤ) → List ℕ
array_numbers m true kind size ns = []
array_numbers m false kind size (Some ns) = map word ns
array_numbers m false kind size None = if slice_index_or m.number_kinds kind false then replicate size 0 else []

-- ---- a line

-- the number of a row's name among the unit's names
abbrev pub name_number : List (List ℕ) → List ℕ → ℕ
name_number names n = unwrap_or (number_of_name names n) 0

-- what is made where there is no fault
abbrev pub make : {A B : Type 0} → (A → B) → Result A AsmFault → Result B AsmFault
make of (Ok x) = Ok (of x)
make of (Err f) = Err f

-- what is made of more lines, where there is no fault before them
abbrev pub then_make : {A B : Type 0} → Result A AsmFault → (A → Result B AsmFault) → Result B AsmFault
then_make (Ok x) more = more x
then_make (Err f) more = Err f

-- a row more in each table
abbrev pub and_sig : ModuleTablesView → ℕ → Bool → Sig → ModuleTablesView
and_sig u name ext sig = record u { sigs = u.sigs ++ record { name = name; ext = ext; sig = sig } ∷ [] }

abbrev pub and_kind : ModuleTablesView → ℕ → Bool → FieldTy → ModuleTablesView
and_kind u name ext held = record u { kinds = u.kinds ++ record { name = name; ext = ext; element = held } ∷ [] }

abbrev pub and_static : ModuleTablesView → ℕ → Bool → FieldTy → ModuleTablesView
and_static u name ext held = record u { statics = u.statics ++ record { name = name; ext = ext; ty = held } ∷ []; words = u.words + 1 }

abbrev pub and_array : ModuleTablesView → ℕ → Bool → DataLine → List ℕ → ModuleTablesView
and_array u name ext l numbers = record u { arrays = u.arrays ++ record { row = record { name = name; ext = ext; kind = l.kind; length = l.length }; numbers = numbers } ∷ []; words = u.words + 2 + l.length }

abbrev pub and_class : ModuleTablesView → ℕ → Bool → ClassRow → ModuleTablesView
and_class u name ext row = record u { classes = u.classes ++ record { name = name; ext = ext; row = row } ∷ [] }

-- a function, of whose code so many bytes stand in the unit
abbrev pub and_function : ModuleTablesView → ℕ → Bool → ℕ → ℕ → ModuleTablesView
and_function u name ext size sig = record u { functions = u.functions ++ record { name = name; ext = ext; length = size; sig = sig } ∷ [] }

abbrev pub and_entry : ModuleTablesView → EntryLine → ModuleTablesView
and_entry u l = record u { entries = u.entries ++ record { stack = l.stack; function = l.function } ∷ [] }

-- What the lines so far have made, with one more line, of a number and a form, before those behind it; or the first fault. The
-- names are the module's, and those of its unit. A function that is not extern has its row with its code.
unfoldable pub take_row : Names → List (List ℕ) → ModuleTablesView → ℕ → Form → List TextLine → Result ModuleTablesView AsmFault
take_row m names u line (form.Heap n) behind = make (λ words. record u { heap_words = words }) (at_line line (heap_line u.heap_words n))
take_row m names u line (form.Stacks n) behind = make (λ stacks. record u { stacks = stacks }) (at_line line (stacks_line u.stacks n))
take_row m names u line (form.Entry s f) behind = make (and_entry u) (at_line line (entry_line m s f (has_entry u.entries s)))
take_row m names u line (form.Sig ext n ps r) behind = make (and_sig u (name_number names n) ext) (at_line line (sig_line m n ps r (length u.sigs)))
take_row m names u line (form.Kind ext n t) behind = make (and_kind u (name_number names n) ext) (at_line line (kind_line m n t (length u.kinds)))
take_row m names u line (form.Static ext n t) behind = make (and_static u (name_number names n) ext) (at_line line (static_line m n t (length u.statics) u.words))
take_row m names u line (form.DataArray ext n k size ns) behind =
    make (λ l. and_array u (name_number names n) ext l (array_numbers m ext l.kind l.length ns)) (at_line line (data_line m n k size ns (length u.arrays) u.words))
take_row m names u line (form.Class ext n p) behind =
    then_make (at_line line (class_line m n p (length u.classes))) (λ parent. make (and_class u (name_number names n) ext) (class_row m u.classes parent behind))
take_row m names u line (form.Func true n s) behind = make (and_function u (name_number names n) true 0) (at_line line (function_line m n s true (length u.functions)))
take_row m names u line _ behind = Ok u

-- ---- the unit

-- the unit with these tables, these names and this code
abbrev pub unit_with : ModuleTablesView → List (List ℕ) → List ℕ → List UnitBlock → List UnitMark → List FixUp → UnitParts
unit_with u names code blocks marks fixups = record {
  heap_words = u.heap_words;
  stacks = u.stacks;
  names = names;
  sigs = u.sigs;
  functions = u.functions;
  entries = u.entries;
  classes = u.classes;
  kinds = u.kinds;
  statics = u.statics;
  arrays = u.arrays;
  code = code;
  blocks = blocks;
  marks = marks;
  fixups = fixups;
}
