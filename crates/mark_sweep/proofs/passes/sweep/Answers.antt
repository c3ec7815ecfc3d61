use Rattle.std.proofs.Common.{arith, ◌∙◌}
use Rattle.heap_words.specs.Blocks.{Begins}
use Rattle.mark_sweep.proofs.Sweeps.{at_block, step_fits, sweeping_last, sweeping_first, sweeping_step, swept_other}
use Rattle.mark_sweep.proofs.passes.sweep.Goals as goal

pub loop-at-init : goal.loop-at-init
loop-at-init c = sweeping_first c.block_laws.ensures _ c.size-size.ensures.formed

pub block_size-at-requires : goal.block_size-at-requires
block_size-at-requires c =
    let n = c.loop-at.invariant.blocks.size in
    c.set_used.ensures.same.forth _ (at_block _ _ c.loop-at.invariant.stands (omega (arith, n, c.size-size.ensures.size)))

pub overflow_add-at : goal.overflow_add-at
overflow_add-at c =
    let n = c.loop-at.invariant.blocks.size in
    let b : Begins c.loop-at.heap c.loop-at.at = at_block _ _ c.loop-at.invariant.stands (omega (arith, n, c.size-size.ensures.size)) in
    omega (arith, (step_fits c.block_laws.ensures _ _ _ c.set_used.ensures.formed (c.set_used.ensures.same.forth _ b) c.block_size-at.ensures.size).0)

pub loop-at-smaller : goal.loop-at-smaller
loop-at-smaller c =
    let n = c.loop-at.invariant.blocks.size in
    let b : Begins c.loop-at.heap c.loop-at.at = at_block _ _ c.loop-at.invariant.stands (omega (arith, n, c.size-size.ensures.size)) in
    omega (arith, (step_fits c.block_laws.ensures _ _ _ c.set_used.ensures.formed (c.set_used.ensures.same.forth _ b) c.block_size-at.ensures.size).1, c.loop-at-test.true)

pub loop-at-preserved : goal.loop-at-preserved
loop-at-preserved c =
    let n = c.loop-at.invariant.blocks.size in
    let b : Begins c.loop-at.heap c.loop-at.at = at_block _ _ c.loop-at.invariant.stands (omega (arith, n, c.size-size.ensures.size)) in
    rw c.block_size-at.ensures.size
    (sweeping_step c.block_laws.ensures _ _ _ _ c.loop-at.invariant b (λ k n. swept_other _ _ _ _ k c.set_used.ensures.words n) c.set_used.ensures.same
    (c.set_used.ensures.used ∙ c.marked-marked.ensures) c.set_used.ensures.formed)

pub returns-clause-swept : goal.returns-clause-swept
returns-clause-swept c =
    let n = c.loop-at.invariant.blocks.size in
    sweeping_last _ _ _ c.loop-at.invariant (omega (arith, n, c.size-size.ensures.size, c.loop-at-test.false))
