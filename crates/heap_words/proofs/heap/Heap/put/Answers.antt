use Rattle.heap_words.proofs.Writes.{formed_same, same-set}
use Rattle.heap_words.proofs.heap.Heap.put.Goals as goal

pub invariant_of-self : goal.invariant_of-self
invariant_of-self c = formed_same _ _ (same-set _ _ _ (rw (← c.self.view_is) at c.requires.size)) c.self.invariant

pub returns-clause-same : goal.returns-clause-same
returns-clause-same c = rw (← c.self.view_is) (same-set _ _ _ (rw (← c.self.view_is) at c.requires.size))

pub returns-clause-formed : goal.returns-clause-formed
returns-clause-formed c = formed_same _ _ (same-set _ _ _ (rw (← c.self.view_is) at c.requires.size)) c.self.invariant
