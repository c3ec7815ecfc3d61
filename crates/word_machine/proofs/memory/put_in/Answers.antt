use Rattle.std.proofs.Common.{arith}
use Rattle.word_machine.proofs.Areas.{is_within, word_put}
use Rattle.word_machine.proofs.memory.put_in.Goals as goal

pub overflow_sub-address : goal.overflow_sub-address
overflow_sub-address c = omega (arith, is_within c.args.start c.args.words.now.items c.args.address c.requires)

pub index_mut-requires : goal.index_mut-requires
index_mut-requires c = omega (arith, is_within c.args.start c.args.words.now.items c.args.address c.requires)

pub returns : goal.returns
returns c = word_put c.args.start c.args.words.now.items c.args.address c.args.word c.requires
