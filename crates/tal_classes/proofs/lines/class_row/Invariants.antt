use Rattle.std.proofs.Common.{◌≡◌, length}
use Rattle.tal_names.specs.Declarations.{names_shown}
use Rattle.tal_classes.specs.Members.{so_far, take_members, class_row}
use Rattle.tal_classes.proofs.lines.class_row.Given as goal

-- the class so far with the lines that are left makes the row
abbrev pub invariant-lines : goal.invariant-lines
invariant-lines l = take_members (names_shown l.names) (so_far l.class) l.left ≡ class_row (names_shown l.names) l.rows l.fn.parent l.behind

abbrev pub decreases-lines : goal.decreases-lines
decreases-lines l = length l.left
