use Rattle.std.proofs.Common.{rules, arith}
use Rattle.nucleus_calls.proofs.Starting.{starts-more}
use Rattle.nucleus_calls.proofs.nucleus.starts_of.Goals as goal

pub loop-stack-init : goal.loop-stack-init
loop-stack-init c = record { count_is = search rules; each = λ n below. absurd (omega arith) }

pub loop-stack-preserved : goal.loop-stack-preserved
loop-stack-preserved c =
    rw c.in_ok-push.ensures.items (starts-more c.args.image.now c.loop-stack.starts.items c.loop-stack.stack c.entry_place-start.result c.loop-stack.invariant c.entry_place-start.ensures)
