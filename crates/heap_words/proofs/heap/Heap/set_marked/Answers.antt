use Rattle.std.proofs.Common.{◌≡◌}
use Rattle.heap_words.specs.Headers.{used_at}
use Rattle.heap_words.proofs.HeaderLaws.{size-mod, size-kept, used-written, marked-written}
use Rattle.heap_words.proofs.Writes.{reheaded, remarked_list}
use Rattle.heap_words.proofs.heap.Heap.set_marked.Goals as goal

pub header-requires : goal.header-requires
header-requires c = rw c.block_size-size.ensures.size (size-mod _)

pub put-requires-clause-size : goal.put-requires-clause-size
put-requires-clause-size c = λ _. rw (c.header.ensures, c.block_size-size.ensures.size) (size-kept _ _ _)

pub returns-clause-blocks : goal.returns-clause-blocks
returns-clause-blocks c =
    let w : c.put.new.self ≡ reheaded c.args.self.now c.args.i (used_at c.args.self.now c.args.i) c.args.marked = cc in
    rw w (remarked_list _ _ _ c.put.ensures.formed_before c.requires)

pub returns-clause-used : goal.returns-clause-used
returns-clause-used c =
    let w : c.put.new.self ≡ reheaded c.args.self.now c.args.i (used_at c.args.self.now c.args.i) c.args.marked = cc in
    rw w (used-written _ _ _ _ c.requires.inside)

pub returns-clause-marked : goal.returns-clause-marked
returns-clause-marked c =
    let w : c.put.new.self ≡ reheaded c.args.self.now c.args.i (used_at c.args.self.now c.args.i) c.args.marked = cc in
    rw w (marked-written _ _ _ _ c.requires.inside)
