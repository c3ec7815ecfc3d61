use Rattle.std.proofs.Common.{rules, arith, refl, sym, ◌∙◌}
use Rattle.heap_words.specs.Blocks.{Begins, IsFree}
use Rattle.free_index.proofs.TakenBlocks.{at_block}
use Rattle.free_index.proofs.LinkChanges.{only-list}
use Rattle.free_index.proofs.Standing.{rebuilding_first, rebuilding_used, rebuilding_names, rebuilding_other, rebuilding_free, rebuilding_last}
use Rattle.free_index.proofs.index.FreeIndex.rebuild.Goals as goal
use Rattle.free_index.proofs.index.FreeIndex.rebuild.Goals.{then-not-used, else-not-used}

pub loop-at-init : goal.loop-at-init
loop-at-init c = rebuilding_first c.block_laws.ensures _ _ c.size-size.ensures.formed (search rules) refl

pub put-requires-clause-head : goal.put-requires-clause-head
put-requires-clause-head c = rebuilding_names _ _ _ _ c.loop-at.invariant

pub put-requires-clause-other : goal.put-requires-clause-other
put-requires-clause-other c = rebuilding_other _ _ _ _ c.loop-at.invariant

pub loop-at-preserved : goal.loop-at-preserved
loop-at-preserved c =
    let n = c.loop-at.invariant.only.blocks.size in
    let b : Begins c.loop-at.heap c.loop-at.at = at_block _ _ c.loop-at.invariant.stands (omega (arith, n, c.size-size.ensures.size)) in
    elim c.if-not-used.branch [
      | then-not-used w ↦
          let f : IsFree c.loop-at.heap c.loop-at.at = record { begins = b; free = sym c.used.ensures ∙ w.if-not-used.true } in
          rw (w.heap-is, w.index-is, c.block_size-room.ensures.size)
          (rebuilding_free c.block_laws.ensures _ _ _ _ _ _ c.loop-at.invariant f w.put.ensures.formed w.put.ensures.inserted w.put.ensures.heads w.put.ensures.formed_after)
      | else-not-used w ↦
          rw (w.heap-is, w.index-is, c.block_size-room.ensures.size)
          (rebuilding_used c.block_laws.ensures _ _ _ _ c.loop-at.invariant b c.block_size-room.ensures.formed (sym c.used.ensures ∙ w.if-not-used.false))
    ]

pub returns-clause-lists : goal.returns-clause-lists
returns-clause-lists c =
    let n = c.loop-at.invariant.only.blocks.size in
    rebuilding_last _ _ _ _ c.loop-at.invariant (omega (arith, n, c.size-size.ensures.size, c.loop-at-test.false))

pub returns-clause-blocks : goal.returns-clause-blocks
returns-clause-blocks c = only-list c.block_laws.ensures _ _ c.size-size.ensures.formed c.loop-at.invariant.only
