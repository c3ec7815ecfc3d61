use Rattle.std.proofs.Common.{◌≡◌, drop}
use Rattle.tal_code.specs.Labels.{first_target}
use Rattle.tal_code.proofs.labels.first_target.Given as goal

-- what is left decides
abbrev pub invariant-loop-arg : goal.invariant-loop-arg
invariant-loop-arg l = first_target (drop l.arg-index l.args) ≡ first_target l.fn.args
