use Rattle.std.proofs.Common.{arith}
use Rattle.free_index.proofs.Search.{none-fits}
use Rattle.free_index.proofs.index.FreeIndex.find.Goals as goal

pub returns : goal.returns
returns c = none-fits _ _ (λ class l h. c.classes.invariant class (omega (arith, c.class_of_size-first.ensures.value)) (omega (arith, c.classes-test.false)))
