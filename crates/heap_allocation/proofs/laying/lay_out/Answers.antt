use Rattle.std.proofs.Common.{◌≡◌, ◌<◌, ◌+◌, ◌-◌, arith, sym, subst}
use Rattle.heap_words.specs.Headers.{size_at}
use Rattle.heap_words.specs.Blocks.{IsObjectWord}
use Rattle.free_index.specs.Lists.{FreeLists}
use Rattle.heap_allocation.specs.Steps.{Laid}
use Rattle.heap_allocation.proofs.Layouts.{laid-object, laid-step}
use Rattle.heap_allocation.proofs.laying.lay_out.Goals as goal

pub set_word-requires-clause-object : goal.set_word-requires-clause-object
set_word-requires-clause-object c =
    let l : c.loop-k.k < size_at c.args.heap.now c.args.i - 2 = rw (← c.block_size-words.ensures.size) c.loop-k-test.true in
    laid-object c.block_laws.ensures _ _ _ _ _ _ c.loop-k.invariant.laid c.requires.used l

pub loop-k-preserved : goal.loop-k-preserved
loop-k-preserved c =
    let l : c.loop-k.k < size_at c.args.heap.now c.args.i - 2 = rw (← c.block_size-words.ensures.size) c.loop-k-test.true in
    let o : IsObjectWord c.loop-k.heap (c.args.i + 2 + c.loop-k.k) = laid-object c.block_laws.ensures _ _ _ _ _ _ c.loop-k.invariant.laid c.requires.used l in
    record {
      laid = laid-step _ _ _ _ _ _ _ _ c.loop-k.invariant.laid c.requires.used c.loop-k.invariant.formed l c.set_word.ensures.words c.set_word.ensures.same c.fresh_word.ensures;
      lists = λ heads h. subst (FreeLists heads) (sym c.set_word.ensures.words) (c.object_write_keeps_lists.ensures heads _ _ _ (c.loop-k.invariant.lists heads h) o);
      formed = c.set_word.ensures.formed;
    }

pub returns-clause-laid : goal.returns-clause-laid
returns-clause-laid c =
    let e : c.loop-k.k ≡ size_at c.args.heap.now c.args.i - 2 = omega (arith, c.block_size-words.ensures.size) in
    subst (λ k. Laid c.args.heap.now c.loop-k.heap c.args.shape c.args.length c.args.i k) e c.loop-k.invariant.laid
