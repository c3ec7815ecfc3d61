-- What an assembly text comes to: its unit, or its first fault.
use Rattle.std.specs.Prelude.{ℕ, List, Result, Ok, Err}
use Rattle.tal_syntax.specs.Text.{text_at}
use Rattle.tal_syntax.specs.declared.module.TextLine.{TextLine}
use Rattle.tal_syntax.specs.declared.fault.TextFault.{TextFault}
use Rattle.asm_faults.specs.declared.AsmFault.{AsmFault}
use Rattle.unit_files.specs.Unit.{UnitParts}
use Rattle.tal_asm.specs.UnitFor.{UnitFor}

-- a fault of the assembler stands at column 0 of its line
abbrev pub at_column_0 : Result UnitParts AsmFault → Result UnitParts TextFault
at_column_0 (Ok unit) = Ok unit
at_column_0 (Err f) = Err (record { line = f.line; column = 0; code = f.code })

-- the unit of the lines that were read, or the fault that they have
abbrev pub unit_of_lines : Result (List TextLine) TextFault → Result UnitParts TextFault
unit_of_lines (Ok lines) = at_column_0 (UnitFor lines)
unit_of_lines (Err f) = Err f

-- a text that is no module has the fault of its reading, and a module that has no unit that of its assembling
abbrev pub unit_at : List ℕ → Result UnitParts TextFault
unit_at bytes = unit_of_lines (text_at bytes)
