use Rattle.std.proofs.Common.{◌≡◌, ◌<◌, ◌+◌, length, arith}
use Rattle.word_machine.proofs.Areas.{static_there, static_within}
use Rattle.word_machine.proofs.memory.Memory.statics.Goals as goal

pub words_between-requires-clause-there : goal.words_between-requires-clause-there
words_between-requires-clause-there c k low high =
    let lt : k < length c.args.self.now.statics = static_within c.args.self.now k (omega arith) (c.requires.mapped k high) in
    rw c.deref.ensures.value (rw (← c.self.view_is) at lt)

pub returns-clause-each : goal.returns-clause-each
returns-clause-each c k h =
    let same : 0 + k ≡ k = omega arith in
    let there = rw (c.deref.ensures.value, same) at (c.words_between.ensures.each k (omega arith)) in
    rw (static_there c.args.self.now k (omega arith), ← c.self.view_is) there
