-- The unit of a module, or its first fault: the first line with a fault, and there the least code.
use Rattle.std.specs.Prelude.{ℕ, ◌==◌, Bool, ◌&&◌, ◌||◌, nat_lt, List, [], ◌∷◌, Option, Some, None, Result, Ok, Err, slice_get, if◌then◌else◌}
use Rattle.std.specs.Option.{option_map}
use Rattle.asm_faults.specs.declared.AsmFault.{AsmFault}
use Rattle.tal_syntax.specs.declared.module.TextLine.{TextLine}
use Rattle.unit_files.specs.Unit.{UnitParts}
use Rattle.tal_names.specs.Declarations.{names_of}
use Rattle.tal_names.specs.NameSets.{is_named}
use Rattle.tal_names.specs.Mentions.{line_names, mentioned_names}
use Rattle.tal_tables.specs.Rows.{make, unit_with}
use Rattle.tal_asm.specs.Lines.{MadeSoFar, nothing, take_lines}

-- ---- too many names: a unit has 65536 at most

-- the number of the first line that mentions a name; 0 where none does
unfoldable pub first_mention : List ℕ → List TextLine → ℕ
first_mention n [] = 0
first_mention n (l ∷ ls) = if is_named (line_names l) n then l.number else first_mention n ls

-- the line that mentions the first name too many, with code 16
unfoldable pub names_fault : List (List ℕ) → List TextLine → Option AsmFault
names_fault names lines = option_map (λ n. record { line = first_mention n lines; code = 16 }) (slice_get names 65536)

-- ---- the first of two faults

-- it stands in an earlier line, or in the same line with a lesser code
abbrev pub is_before : AsmFault → AsmFault → Bool
is_before f g = nat_lt f.line g.line || (f.line == g.line && nat_lt f.code g.code)

unfoldable pub unless_before : {A : Type 0} → Option AsmFault → Result A AsmFault → Result A AsmFault
unless_before None made = made
unless_before (Some f) (Ok x) = Err f
unless_before (Some f) (Err g) = Err (if is_before f g then f else g)

-- ---- the unit

-- the unit of what all lines have made, with its names
abbrev pub unit_made : List (List ℕ) → MadeSoFar → UnitParts
unit_made names u = unit_with u.tables names u.code.code u.code.blocks u.code.marks u.code.fixups

-- the unit of these lines, or their first fault
unfoldable pub UnitFor : List TextLine → Result UnitParts AsmFault
UnitFor lines = unless_before (names_fault (mentioned_names lines) lines) (make (unit_made (mentioned_names lines)) (take_lines (names_of lines) (mentioned_names lines) nothing lines))
