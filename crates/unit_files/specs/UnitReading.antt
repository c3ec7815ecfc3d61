-- Reading a whole unit file: what stands before the classes, the tables behind it, then the code with what is said of it.
use Rattle.unit_files.specs.declared.unit_reader.FrontRows.{FrontRows}
use Rattle.unit_files.specs.declared.unit_reader.TableRows.{TableRows}
use Rattle.unit_files.specs.Unit.{UnitParts}
use Rattle.unit_files.specs.Fields.{UnitFront, UnitTables}
use Rattle.unit_files.specs.CodeWords.{UnitCodeParts}

-- these rows
abbrev pub unit_front_of : FrontRows → UnitFront
unit_front_of r = record { header = r.header; names = r.names.items; sigs = r.sigs.items; functions = r.functions.items; entries = r.entries.items }

abbrev pub table_parts_of : TableRows → UnitTables
table_parts_of r = record { classes = r.classes.items; kinds = r.kinds.items; statics = r.statics.items; arrays = r.arrays.items }

-- the unit of these parts
abbrev pub unit_by : UnitFront → UnitTables → UnitCodeParts → UnitParts
unit_by f t c = record {
  heap_words = f.header.image.heap_words;
  stacks = f.header.image.stacks;
  names = f.names;
  sigs = f.sigs;
  functions = f.functions;
  entries = f.entries;
  classes = t.classes;
  kinds = t.kinds;
  statics = t.statics;
  arrays = t.arrays;
  code = c.code;
  blocks = c.blocks;
  marks = c.marks;
  fixups = c.fixups;
}
