use Rattle.std.proofs.Common.{◌≡◌, ◌≤◌, length}
use Rattle.tal_names.specs.Declarations.{names_shown}
use Rattle.tal_code.specs.Labels.{farthest, with_labels, labels_of}
use Rattle.tal_code.proofs.labels.Labels.of.Given as goal

-- the labels so far with the lines that are left make the whole, and no offset is too far
abbrev pub invariant-lines : goal.invariant-lines
invariant-lines l =
    (with_labels (names_shown l.names) l.labels l.offset l.left ≡ labels_of (names_shown l.names) l.fn.start l.fn.lines) × (l.offset ≤ farthest)

abbrev pub decreases-lines : goal.decreases-lines
decreases-lines l = length l.left
