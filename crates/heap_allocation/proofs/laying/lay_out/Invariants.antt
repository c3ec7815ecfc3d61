use Rattle.std.proofs.Common.{List, ℕ}
use Rattle.heap_words.specs.Blocks.{FormedHeap}
use Rattle.free_index.specs.Lists.{FreeLists}
use Rattle.heap_allocation.specs.Steps.{Laid}
use Rattle.heap_allocation.proofs.laying.lay_out.Given as goal

abbrev pub invariant-loop-k : goal.invariant-loop-k
invariant-loop-k l = record {
  laid : Laid l.fn.heap l.heap l.shape l.length l.i l.k;
  lists : (heads : List ℕ) → FreeLists heads l.fn.heap → FreeLists heads l.heap;
  formed : FormedHeap l.heap;
}
