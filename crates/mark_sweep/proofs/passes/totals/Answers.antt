use Rattle.std.proofs.Common.{◌≡◌, arith, sym, ◌∙◌}
use Rattle.heap_words.specs.Headers.{size_at}
use Rattle.heap_words.specs.Blocks.{Begins}
use Rattle.mark_sweep.proofs.Sweeps.{at_block, step_fits}
use Rattle.mark_sweep.proofs.Totals.{counting-first, counting-used, counting-free, counting-last}
use Rattle.mark_sweep.proofs.passes.totals.Goals as goal
use Rattle.mark_sweep.proofs.passes.totals.Goals.{then-not-used, else-not-used}

pub loop-at-init : goal.loop-at-init
loop-at-init c = counting-first c.block_laws.ensures _ c.size-size.ensures.formed

pub overflow_add-at : goal.overflow_add-at
overflow_add-at c =
    let b : Begins c.args.heap.now c.loop-at.at = at_block _ _ c.loop-at.invariant.stands (omega (arith, c.size-size.ensures.size)) in
    omega (arith, (step_fits c.block_laws.ensures _ _ _ c.block_size-room.ensures.formed b c.block_size-room.ensures.size).0)

pub loop-at-smaller : goal.loop-at-smaller
loop-at-smaller c =
    let b : Begins c.args.heap.now c.loop-at.at = at_block _ _ c.loop-at.invariant.stands (omega (arith, c.size-size.ensures.size)) in
    omega (arith, (step_fits c.block_laws.ensures _ _ _ c.block_size-room.ensures.formed b c.block_size-room.ensures.size).1, c.loop-at-test.true)

pub loop-at-preserved : goal.loop-at-preserved
loop-at-preserved c =
    let b : Begins c.args.heap.now c.loop-at.at = at_block _ _ c.loop-at.invariant.stands (omega (arith, c.size-size.ensures.size)) in
    let r : c.block_size-room.result ≡ size_at c.args.heap.now c.loop-at.at = c.block_size-room.ensures.size in
    elim c.if-not-used.branch [
      | then-not-used w ↦ rw (w.free-is, w.largest-is, w.max-largest.ensures, w.from-free.ensures, w.from.ensures, r)
          (counting-free c.block_laws.ensures _ _ _ _ c.loop-at.invariant b c.block_size-room.ensures.formed (sym c.used.ensures ∙ w.if-not-used.true))
      | else-not-used w ↦ rw (w.free-is, w.largest-is, r) (counting-used c.block_laws.ensures _ _ _ _ c.loop-at.invariant b c.block_size-room.ensures.formed (sym c.used.ensures ∙ w.if-not-used.false))
    ]

pub returns-clause-free : goal.returns-clause-free
returns-clause-free c = (counting-last c.block_laws.ensures _ _ _ _ c.loop-at.invariant (omega (arith, c.size-size.ensures.size, c.loop-at-test.false))).0

pub returns-clause-largest : goal.returns-clause-largest
returns-clause-largest c = (counting-last c.block_laws.ensures _ _ _ _ c.loop-at.invariant (omega (arith, c.size-size.ensures.size, c.loop-at-test.false))).1
