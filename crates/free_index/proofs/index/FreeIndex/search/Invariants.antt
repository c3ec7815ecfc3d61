use Rattle.std.proofs.Common.{length}
use Rattle.free_index.specs.Steps.{Searching, links_from}
use Rattle.free_index.proofs.index.FreeIndex.search.Given as goal

abbrev pub invariant-loop-link : goal.invariant-loop-link
invariant-loop-link l = Searching l.heap l.class l.need l.link

abbrev pub decreases-loop-link : goal.decreases-loop-link
decreases-loop-link l = links_from (length l.heap) l.heap l.link
