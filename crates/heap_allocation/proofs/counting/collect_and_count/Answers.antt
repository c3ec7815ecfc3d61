use Rattle.heap_allocation.proofs.ReachedSizes.{reached-counted}
use Rattle.heap_allocation.proofs.counting.collect_and_count.Goals as goal

pub returns-clause-counted : goal.returns-clause-counted
returns-clause-counted g c reached r =
    let f = c.collect-counted.ensures.formed in
    rw c.collect-counted.ensures.free (reached-counted _ _ _ _ reached c.collect-counted.ensures.collected (c.blocks_tile.ensures _ f) (c.blocks_listed.ensures _ f) (c.free_and_used_words.ensures _ f) r)
