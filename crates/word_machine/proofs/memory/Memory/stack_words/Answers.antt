use Rattle.std.proofs.Common.{◌≡◌, ◌<◌, ◌+◌, ◌*◌, ◌-◌, ◌/◌, length, arith}
use Rattle.object_layout.specs.Areas.{stacks_start}
use Rattle.word_machine.proofs.Areas.{stack_there, stack_within}
use Rattle.word_machine.proofs.memory.Memory.stack_words.Goals as goal

pub words_between-requires-clause-there : goal.words_between-requires-clause-there
words_between-requires-clause-there c k low high =
    let lt : k < length c.args.self.now.stacks = stack_within c.args.self.now k (omega arith) (c.requires.mapped (stacks_start + 4 * k) (omega arith) (omega arith) (omega arith)) in
    rw c.deref.ensures.value (rw (← c.self.view_is) at lt)

pub returns-clause-each : goal.returns-clause-each
returns-clause-each c k h =
    let there = rw c.deref.ensures.value at (c.words_between.ensures.each k h) in
    let at : c.args.esp + 4 * k ≡ stacks_start + 4 * ((c.args.esp - stacks_start) / 4 + k) = omega arith in
    rw (at, stack_there c.args.self.now ((c.args.esp - stacks_start) / 4 + k) (omega arith), ← c.self.view_is) there
