use Rattle.std.proofs.Common.{inl, refl, arith}
use Rattle.frame_tables.proofs.Frames.{IsStackFrom-append}
use Rattle.frame_tables.proofs.laws.one_frame_is_a_stack.Goals as goal

pub returns : goal.returns
returns c table place row slots found whole =
    rw found (IsStackFrom-append table _ 0 0 slots _ (omega (arith, whole)) (inl (refl, refl)))
