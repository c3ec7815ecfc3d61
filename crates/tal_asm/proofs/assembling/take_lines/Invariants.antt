use Rattle.std.proofs.Common.{◌≡◌, length}
use Rattle.tal_names.specs.Declarations.{names_shown}
use Rattle.tal_asm.specs.Lines.{take_lines, nothing}
use Rattle.tal_asm.proofs.assembling.take_lines.Given as goal

-- what is made so far with the lines that are left makes the whole
abbrev pub invariant-lines : goal.invariant-lines
invariant-lines l = take_lines (names_shown l.names) l.unit_names (record { tables = l.tables; code = l.code }) l.left ≡ take_lines (names_shown l.names) l.unit_names nothing l.lines

abbrev pub decreases-lines : goal.decreases-lines
decreases-lines l = length l.left
