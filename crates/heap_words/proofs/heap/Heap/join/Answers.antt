use Rattle.heap_words.proofs.Cuts.{join-made}
use Rattle.heap_words.proofs.heap.Heap.join.Goals as goal

pub invariant_of-self : goal.invariant_of-self
invariant_of-self c = (join-made _ _ _ _ _ c.self.view_is c.self.invariant c.requires.free c.requires.next c.block_size-size.ensures.size c.block_size-more.ensures.size).formed

pub returns-clause-formed : goal.returns-clause-formed
returns-clause-formed c = (join-made _ _ _ _ _ c.self.view_is c.self.invariant c.requires.free c.requires.next c.block_size-size.ensures.size c.block_size-more.ensures.size).formed

pub returns-clause-begins : goal.returns-clause-begins
returns-clause-begins c = (join-made _ _ _ _ _ c.self.view_is c.self.invariant c.requires.free c.requires.next c.block_size-size.ensures.size c.block_size-more.ensures.size).splits

pub returns-clause-blocks : goal.returns-clause-blocks
returns-clause-blocks c =
    (join-made _ _ _ _ _ c.self.view_is c.self.invariant c.requires.free c.requires.next c.block_size-size.ensures.size c.block_size-more.ensures.size).replaces
