use Rattle.std.proofs.Common.{arith}
use Rattle.device_model.proofs.Bits.{lowest, without_lowest, none_left}
use Rattle.device_model.proofs.interrupt_lines.without_lowest.Goals as goal

pub returns-then-lowest-lt8 : goal.returns-then-lowest-lt8
returns-then-lowest-lt8 c = without_lowest c.args.service _ (lowest c.args.service (omega arith)) c.if-lowest-lt8.true

pub returns-else-lowest-lt8 : goal.returns-else-lowest-lt8
returns-else-lowest-lt8 c = none_left c.args.service _ (lowest c.args.service (omega arith)) c.if-lowest-lt8.false
