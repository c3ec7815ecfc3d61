use Rattle.heap_words.specs.Blocks.{FormedHeap}
use Rattle.mark_sweep.specs.Marking.{Waits, left}
use Rattle.mark_sweep.proofs.marking.mark.Given as goal

abbrev pub invariant-waiting : goal.invariant-waiting
invariant-waiting g l = record {
  waits : Waits l.shapes l.fn.heap (g.R.Roots.remaining l.fn.roots) l.heap l.first;
  formed : FormedHeap l.heap;
}

abbrev pub decreases-waiting : goal.decreases-waiting
decreases-waiting g l = left l.heap l.first
