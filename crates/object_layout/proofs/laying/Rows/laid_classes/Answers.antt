use Rattle.std.proofs.lemmas.Result.{err_from_is_err_and}
use Rattle.object_layout.proofs.LaidRows.{laid_before_none, laid_before_more, fault_first}
use Rattle.object_layout.proofs.Sound.{classes_few_below}
use Rattle.object_layout.proofs.laying.Rows.laid_classes.Goals as goal

pub loop-c-init : goal.loop-c-init
loop-c-init c = laid_before_none _ _ c.new-laid.ensures.items

pub next-requires-clause-few : goal.next-requires-clause-few
next-requires-clause-few c = classes_few_below _ _ c.loop-c.invariant.sound

pub loop-c-preserved : goal.loop-c-preserved
loop-c-preserved c = laid_before_more _ _ _ c.in_ok-class.class _ c.loop-c.invariant c.in_ok-class.ensures.ok.0 c.in_ok-class.ensures.ok.1 c.in_ok-push.ensures.items

pub returns-in_err-class-clause-err : goal.returns-in_err-class-clause-err
returns-in_err-class-clause-err c =
    let p = err_from_is_err_and c.from_residual.result c.from_residual.ensures.1 in
    rw (p.1, p.2) (fault_first _ _ _ _ c.loop-c-test.true c.loop-c.invariant.sound c.in_err-class.ensures.err)
