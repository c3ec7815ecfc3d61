use Rattle.word_machine.proofs.Areas.{words_after}
use Rattle.word_machine.proofs.memory.MemoryBus.store.Goals as goal

pub returns-clause-words : goal.returns-clause-words
returns-clause-words c = words_after c.args.self.now c.put.new.self c.args.address c.args.word c.put.ensures.written
