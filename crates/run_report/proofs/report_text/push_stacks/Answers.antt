use Rattle.std.proofs.Common.{arith, ◌<◌, length, refl}
use Rattle.std.proofs.lemmas.Option.{slice_get-get_or}
use Rattle.run_report.proofs.Lines.{stacks_step, no_stack}
use Rattle.run_report.proofs.report_text.push_stacks.Goals as goal

pub loop-stack-preserved : goal.loop-stack-preserved
loop-stack-preserved g c =
    let inside : c.loop-stack.stack < length (g.V.Shown.shown c.args.machine.now).stacks = omega (arith, c.loop-stack-test.true, c.stacks-count.ensures) in
    stacks_step (g.V.Shown.shown c.args.machine.now) (g.V.Shown.shown c.args.machine.now).stacks _ _ _ _ inside c.loop-stack.invariant
    (rw (c.in_ok-push_stack.ensures _ (slice_get-get_or _ _ no_stack inside), c.in_ok-push_decimal.ensures, c.in_ok-extend_from_slice.ensures.items) refl)
