use Rattle.tal_checker.proofs.Arriving.{accepted_runs}
use Rattle.tal_checker.proofs.laws.accepted_runs.Goals as goal

pub returns : goal.returns
returns c = accepted_runs (record {
  front = c.front_law.ensures;
  long = c.spelling_length.ensures;
  decides = c.strongest_decides.ensures;
  rows = c.strongest_contexts.ensures.rows;
  rules = record { least = c.least_rule.ensures.least; none = c.least_rule.ensures.none };
  next = c.strongest_contexts.ensures.next;
  told = c.type_laws.ensures.context_told;
  reflexive = c.type_laws.ensures.contexts_reflexive;
})
