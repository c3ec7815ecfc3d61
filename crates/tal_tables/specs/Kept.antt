-- What the tables of a module keep, and what the code does with a line.
use Rattle.std.specs.Prelude.{◌≡◌, ◌≤◌, length, Result, Ok, Err}
use Rattle.asm_faults.specs.declared.AsmFault.{AsmFault}
use Rattle.asm_faults.specs.declared.AsmAnswer.{AsmAnswer}
use Rattle.asm_faults.specs.declared.AsmAnswer.TheVariants as answer
use Rattle.tal_tables.specs.declared.tables.ModuleTables.TheInside.{Inside}
use Rattle.tal_tables.specs.Rows.{ModuleTablesView}

-- what the struct holds
abbrev pub kept_tables : Inside → ModuleTablesView
kept_tables t = record {
  heap_words = t.heap_words;
  stacks = t.stacks;
  sigs = t.sigs.items;
  functions = t.functions.items;
  entries = t.entries.items;
  classes = t.classes.items;
  kinds = t.kinds.items;
  statics = t.statics.items;
  arrays = t.arrays.items;
  words = t.words;
}

-- the limits of the tables
pub record WithinLimits (t : ModuleTablesView) : Type 0 where
  pub sigs : length t.sigs ≤ 4096
  pub functions : length t.functions ≤ 16384
  pub classes : length t.classes ≤ 1024
  pub kinds : length t.kinds ≤ 256
  -- a static takes a word, a data array two at least
  pub statics : length t.statics ≤ t.words
  pub arrays : length t.arrays ≤ t.words
  pub words : t.words ≤ 65536

-- The tables are by definition what a line makes, or the line has the fault.
abbrev pub IsMade : {A : Type 0} → Result A AsmAnswer → Result ModuleTablesView AsmFault → ModuleTablesView → Type 0
IsMade (Ok x) made new = made ≡ Ok new
IsMade (Err (answer.Fault f)) made new = made ≡ Err f
IsMade (Err answer.NoMemory) made new = Unit {0}
