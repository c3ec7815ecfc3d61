use Rattle.std.proofs.Common.{arith}
use Rattle.tal_image.proofs.Finding.Indexes.{owners_more, owners_done}
use Rattle.tal_image.proofs.index.owners.Goals as goal

pub loop-function-preserved : goal.loop-function-preserved
loop-function-preserved c = record {
  counted = omega (arith, c.loop-function.invariant.counted);
  rest = rw c.in_ok-resize.ensures.items (owners_more c.loop-function.all.items _ c.loop-function.next c.loop-function.function-index c.len.result _ c.args.functions.now _ c.loop-function-test.true (omega (arith, c.len.ensures)) (omega arith) c.loop-function.invariant.rest);
}

pub returns : goal.returns
returns c = owners_done c.loop-function.all.items _ c.loop-function.next c.loop-function.function-index c.args.functions.now c.loop-function-test.false c.loop-function.invariant.rest
