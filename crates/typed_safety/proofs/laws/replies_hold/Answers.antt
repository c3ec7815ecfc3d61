use Rattle.typed_safety.proofs.AfterReplies.{held-after, reached-after, placed-after}
use Rattle.typed_safety.proofs.laws.replies_hold.Goals as goal

pub returns : goal.returns
returns c = λ image s t next. record {
  held = held-after image s next;
  reached = reached-after image c.reach_is_least.ensures s next;
  placed = placed-after image c.reach_is_least.ensures s t.among next;
}
