-- What the code does with a line.
use Rattle.std.specs.Prelude.{◌≡◌, Result, Ok, Err}
use Rattle.asm_faults.specs.declared.AsmFault.{AsmFault}
use Rattle.asm_faults.specs.declared.AsmAnswer.{AsmAnswer}
use Rattle.asm_faults.specs.declared.AsmAnswer.TheVariants as answer
use Rattle.tal_tables.specs.Rows.{ModuleTablesView}
use Rattle.tal_code.specs.Functions.{UnitCodeView}
use Rattle.unit_files.specs.Unit.{UnitParts, unit_of}
use Rattle.unit_files.specs.declared.parts.UnitRows.{UnitRows}
use Rattle.tal_asm.specs.declared.assembling.Assembled.{Assembled}
use Rattle.tal_asm.specs.Lines.{MadeSoFar}

-- The code and the tables are by definition what was made, or there is the fault.
abbrev pub LineIsMade : Result UnitCodeView AsmAnswer → Result MadeSoFar AsmFault → ModuleTablesView → Type 0
LineIsMade (Ok code) made tables = made ≡ Ok (record { tables = tables; code = code })
LineIsMade (Err (answer.Fault f)) made tables = made ≡ Err f
LineIsMade (Err answer.NoMemory) made tables = Unit {0}

abbrev pub LinesAreMade : Result Assembled AsmAnswer → Result MadeSoFar AsmFault → Type 0
LinesAreMade (Ok made) all = all ≡ Ok (record { tables = made.tables; code = made.code })
LinesAreMade (Err (answer.Fault f)) all = all ≡ Err f
LinesAreMade (Err answer.NoMemory) all = Unit {0}

-- The rows are those of the unit, or there is the fault.
abbrev pub GivesUnitRows : Result UnitRows AsmAnswer → Result UnitParts AsmFault → Type 0
GivesUnitRows (Ok rows) unit = unit ≡ Ok (unit_of rows)
GivesUnitRows (Err (answer.Fault f)) unit = unit ≡ Err f
GivesUnitRows (Err answer.NoMemory) unit = Unit {0}
