use Rattle.heap_words.proofs.Cuts.{split-made}
use Rattle.heap_words.proofs.heap.Heap.split.Goals as goal

pub invariant_of-self : goal.invariant_of-self
invariant_of-self c = (split-made _ _ _ _ _ c.self.view_is c.self.invariant c.requires.free c.requires.rows c.requires.some c.requires.less c.block_size-size.ensures.size).formed

pub returns-clause-formed : goal.returns-clause-formed
returns-clause-formed c =
    (split-made _ _ _ _ _ c.self.view_is c.self.invariant c.requires.free c.requires.rows c.requires.some c.requires.less c.block_size-size.ensures.size).formed

pub returns-clause-begins : goal.returns-clause-begins
returns-clause-begins c =
    (split-made _ _ _ _ _ c.self.view_is c.self.invariant c.requires.free c.requires.rows c.requires.some c.requires.less c.block_size-size.ensures.size).splits

pub returns-clause-blocks : goal.returns-clause-blocks
returns-clause-blocks c =
    (split-made _ _ _ _ _ c.self.view_is c.self.invariant c.requires.free c.requires.rows c.requires.some c.requires.less c.block_size-size.ensures.size).replaces
