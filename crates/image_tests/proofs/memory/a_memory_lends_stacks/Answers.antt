use Rattle.std.proofs.Common.{arith, ◌∙◌}
use Rattle.image_tests.proofs.memory.a_memory_lends_stacks.Goals as goal

pub stack_words-requires-clause-mapped : goal.stack_words-requires-clause-mapped
stack_words-requires-clause-mapped g c a low high whole = c.store.ensures.mapped a ∙ c.in_ok-memory.ensures a (omega arith) (omega arith) whole

pub stack_words-requires-2-clause-mapped : goal.stack_words-requires-2-clause-mapped
stack_words-requires-2-clause-mapped g c a low high whole = c.store.ensures.mapped a ∙ c.in_ok-memory.ensures a (omega arith) (omega arith) whole
