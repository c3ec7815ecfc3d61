use Rattle.tal_types.specs.Kept.{live_of}
use Rattle.tal_flow.proofs.rules.operand_rule.Goals as goal

pub returns-in-Compute : goal.returns-in-Compute
returns-in-Compute c = rw c.in-Compute.is (c.compute_rule.ensures (live_of c.args.context.now) c.in-Compute.wide c.in-Compute.kind)

pub returns-in-Move : goal.returns-in-Move
returns-in-Move c = rw c.in-Move.is (c.move_rule.ensures (live_of c.args.context.now))

pub returns-in-Compare : goal.returns-in-Compare
returns-in-Compare c = rw c.in-Compare.is (c.compare_rule.ensures (live_of c.args.context.now))

pub returns-in-TestBits : goal.returns-in-TestBits
returns-in-TestBits c = rw c.in-TestBits.is (c.test_rule.ensures (live_of c.args.context.now))

pub returns-in-CallTo : goal.returns-in-CallTo
returns-in-CallTo c = rw c.in-CallTo.is (c.call_to_rule.ensures (live_of c.args.context.now))

pub returns-in-CallBy : goal.returns-in-CallBy
returns-in-CallBy c = rw c.in-CallBy.is (c.call_by_rule.ensures (live_of c.args.context.now))
