use Rattle.std.proofs.Common.{below_more}
use Rattle.heap_cases.proofs.NumberObjects.{listed_hold}
use Rattle.heap_cases.proofs.good_roots.are_good.Goals as goal

pub loop-word-preserved : goal.loop-word-preserved
loop-word-preserved c = below_more _ _ c.loop-word.invariant (c.is_good.ensures c.if-not-is_good.false)

pub returns : goal.returns
returns c = λ _. listed_hold _ _ _ c.loop-word.invariant c.loop-word-test.false
