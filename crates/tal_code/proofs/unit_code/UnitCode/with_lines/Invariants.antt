use Rattle.std.proofs.Common.{◌≡◌, length}
use Rattle.tal_names.specs.Declarations.{names_shown}
use Rattle.tal_code.specs.Functions.{with_lines}
use Rattle.tal_code.proofs.unit_code.UnitCode.with_lines.Given as goal

-- the code so far with the lines that are left makes the whole
abbrev pub invariant-lines : goal.invariant-lines
invariant-lines l =
    with_lines (names_shown l.names) l.labels l.fn.self l.made l.left ≡ with_lines (names_shown l.names) l.labels l.fn.self l.fn.self l.fn.lines

abbrev pub decreases-lines : goal.decreases-lines
decreases-lines l = length l.left
