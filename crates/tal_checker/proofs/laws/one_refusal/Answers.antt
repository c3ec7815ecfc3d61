use Rattle.tal_checker.proofs.StrongestLaw.{one_answer}
use Rattle.tal_checker.proofs.laws.one_refusal.Goals as goal

pub returns : goal.returns
returns c = one_answer c.strongest_decides.ensures c.strongest_contexts.ensures.rows (record { least = c.least_rule.ensures.least; none = c.least_rule.ensures.none })
