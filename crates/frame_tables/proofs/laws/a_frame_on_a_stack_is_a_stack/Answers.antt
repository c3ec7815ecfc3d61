use Rattle.std.proofs.Common.{inr, arith}
use Rattle.frame_tables.proofs.Frames.{IsStackFrom-append}
use Rattle.frame_tables.proofs.laws.a_frame_on_a_stack_is_a_stack.Goals as goal

pub returns : goal.returns
returns c table place row slots below next found whole stack =
    rw found (IsStackFrom-append table _ 0 next slots below (omega (arith, whole)) (inr stack))
