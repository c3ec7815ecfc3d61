use Rattle.std.proofs.Common.{◌≡◌, drop}
use Rattle.tal_flow.specs.Trials.{first_failing}
use Rattle.tal_flow.proofs.trials.first_failing.Given as goal

abbrev pub invariant-loop-trial : goal.invariant-loop-trial
invariant-loop-trial l = first_failing (drop l.trial-index l.trials) ≡ first_failing l.trials
