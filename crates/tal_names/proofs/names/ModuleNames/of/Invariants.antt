use Rattle.std.proofs.Common.{◌≡◌, length}
use Rattle.tal_names.specs.Declarations.{names_shown, declared_with, names_of}
use Rattle.tal_names.proofs.names.ModuleNames.of.Given as goal

-- what is declared so far with the lines that are left makes the whole
abbrev pub invariant-lines : goal.invariant-lines
invariant-lines l = declared_with (names_shown l.names) l.left ≡ names_of l.fn.lines

abbrev pub decreases-lines : goal.decreases-lines
decreases-lines l = length l.left
