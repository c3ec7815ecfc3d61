use Rattle.std.proofs.Common.{arith}
use Rattle.free_index.proofs.Search.{searching_first, search-step, searching_none}
use Rattle.free_index.proofs.index.FreeIndex.search.Goals as goal

pub loop-link-init : goal.loop-link-init
loop-link-init c = rw c.self.view_is (searching_first _ _ _ _ c.requires.lists.lists c.requires.class)

pub block_size-requires : goal.block_size-requires
block_size-requires c = (search-step _ _ _ _ c.loop-link.invariant (omega (arith, c.loop-link-test.true))).free.begins

pub returns-then-need-block_size : goal.returns-then-need-block_size
returns-then-need-block_size c =
    record {
      free = (search-step _ _ _ _ c.loop-link.invariant (omega (arith, c.loop-link-test.true))).free;
      enough = omega
          (arith, c.if-need-block_size.true, c.block_size.ensures.size);
    }

pub link-link-requires : goal.link-link-requires
link-link-requires c = (search-step _ _ _ _ c.loop-link.invariant (omega (arith, c.loop-link-test.true))).free.begins

pub loop-link-smaller : goal.loop-link-smaller
loop-link-smaller c = rw c.link-link.ensures.link (search-step _ _ _ _ c.loop-link.invariant (omega (arith, c.loop-link-test.true))).nearer

pub loop-link-preserved : goal.loop-link-preserved
loop-link-preserved c =
    rw c.link-link.ensures.link
    ((search-step _ _ _ _ c.loop-link.invariant (omega (arith, c.loop-link-test.true))).next (omega (arith, c.if-need-block_size.false, c.block_size.ensures.size)))

pub returns : goal.returns
returns c = searching_none _ _ _ _ c.loop-link.invariant (omega (arith, c.loop-link-test.false))
