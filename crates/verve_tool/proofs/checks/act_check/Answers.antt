use Rattle.std.proofs.Common.{refl}
use Rattle.std.proofs.lemmas.Result.{err_from_is_err_and}
use Rattle.verve_tool.specs.Checks.{accepted_text}
use Rattle.verve_tool.specs.Commands.{Check}
use Rattle.verve_tool.specs.declared.status.Status.TheVariants.{Done}
use Rattle.verve_tool.proofs.Endings.{acted_stopped, acted_put, no_puts}
use Rattle.verve_tool.proofs.checks.act_check.Goals as goal

pub returns-in_err-load_image : goal.returns-in_err-load_image
returns-in_err-load_image g c =
    let p = err_from_is_err_and c.from_residual.result c.from_residual.ensures.1 in
    rw (p.1, p.2) (acted_stopped _ (Check c.args.image.now) _ refl refl refl (λ u. u)
    c.in_err-load_image.ensures.stopped c.in_err-load_image.ensures.reads (no_puts _))

pub returns : goal.returns
returns g c =
    acted_put _ (Check c.args.image.now) Done accepted_text _ refl
    (c.in_ok-load_image.field-0.image, c.in_ok-load_image.ensures.typed, record { no_entries = refl; none_kept = refl }, refl, refl)
    c.put_text.ensures.put c.in_ok-load_image.ensures.reads c.put_text.ensures.puts
