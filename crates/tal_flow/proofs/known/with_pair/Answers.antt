use Rattle.tal_flow.proofs.Fields.{pairs-with}
use Rattle.tal_flow.proofs.known.with_pair.Goals as goal

pub returns : goal.returns
returns c = λ i a. rw (c.number.ensures.value, c.number-2.ensures.value) (pairs-with c.type_laws.ensures c.args.bits c.args.r c.args.q i a)
