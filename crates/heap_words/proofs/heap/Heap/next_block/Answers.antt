use Rattle.std.proofs.Common.{◌≡◌, arith, refl}
use Rattle.heap_words.specs.Headers.{size_at}
use Rattle.heap_words.proofs.Places.{begins-next}
use Rattle.heap_words.proofs.heap.Heap.next_block.Goals as goal

pub returns-then-next-size-clause-next : goal.returns-then-next-size-clause-next
returns-then-next-size-clause-next c =
    let e : c.block_size.result ≡ size_at c.args.self.now c.args.i = c.block_size.ensures.size in
    rw e (refl, begins-next _ _ c.requires (omega arith))
