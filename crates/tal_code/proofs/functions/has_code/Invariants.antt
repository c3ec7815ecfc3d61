use Rattle.std.proofs.Common.{◌≡◌, length}
use Rattle.tal_code.specs.Functions.{has_code}
use Rattle.tal_code.proofs.functions.has_code.Given as goal

-- the lines that are left decide
abbrev pub invariant-lines : goal.invariant-lines
invariant-lines l = has_code l.left ≡ has_code l.fn.lines

abbrev pub decreases-lines : goal.decreases-lines
decreases-lines l = length l.left
