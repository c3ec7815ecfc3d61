use Rattle.tal_flow.proofs.Fields.{pairs-without}
use Rattle.tal_flow.proofs.known.without.Goals as goal

pub returns : goal.returns
returns c = λ i a. rw c.number.ensures.value (pairs-without c.type_laws.ensures c.args.bits c.args.r i a)
