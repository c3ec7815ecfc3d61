use Rattle.std.proofs.Common.{◌<◌, ◌-◌, drop, arith, length-take}
use Rattle.word_machine.proofs.Areas.{get_between}
use Rattle.word_machine.proofs.memory.words_between.Goals as goal

pub returns-clause-each : goal.returns-clause-each
returns-clause-each c k h =
    let few : k < c.args.end - c.args.first = omega (arith, length-take (c.args.end - c.args.first) (drop c.args.first c.args.words.now)) in
    get_between c.args.first c.args.end k c.args.words.now (omega arith)
