use Rattle.std.proofs.Common.{◌≡◌, drop}
use Rattle.outside.specs.Failing.{through_at}
use Rattle.outside.proofs.failing.find_call.Given as goal

-- no row so far has the call
abbrev pub invariant-loop-row : goal.invariant-loop-row
invariant-loop-row l = through_at l.failing l.call ≡ through_at (drop l.row-index l.failing) l.call
