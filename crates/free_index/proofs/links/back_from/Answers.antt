use Rattle.std.proofs.Common.{arith}
use Rattle.free_index.proofs.LinkWrites.{written-at, written-others, word_inside}
use Rattle.free_index.proofs.links.back_from.Goals as goal

pub returns-then-next-gt0-clause-written : goal.returns-then-next-gt0-clause-written
returns-then-next-gt0-clause-written c = λ p e. written-at _ _ _ _ _ p c.set_back.ensures.words e (word_inside c.block_laws.ensures _ p 2 c.requires.formed (c.requires.named p e).begins (omega arith))

pub returns-then-next-gt0-clause-others : goal.returns-then-next-gt0-clause-others
returns-then-next-gt0-clause-others c = λ k n. written-others _ _ _ _ _ k c.if-next-gt0.true c.set_back.ensures.words n
