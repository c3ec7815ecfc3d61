use Rattle.std.proofs.Common.{refl, ◌∙◌}
use Rattle.device_model.specs.EventFile.{value}
use Rattle.device_model.proofs.Digits.{value_more}
use Rattle.device_model.proofs.line_form.value_of.Goals as goal

pub loop-digit-init : goal.loop-digit-init
unfolding value
loop-digit-init c = refl

pub loop-digit-preserved : goal.loop-digit-preserved
loop-digit-preserved c =
    c.saturating_add-value.ensures ∙ rw (c.saturating_mul.ensures, c.from.ensures, c.saturating_sub.ensures)
    (value_more c.args.digits.now c.loop-digit.digit-index c.loop-digit.value c.loop-digit-test.true c.loop-digit.invariant)
