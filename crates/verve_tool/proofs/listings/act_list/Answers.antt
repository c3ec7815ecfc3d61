use Rattle.std.proofs.Common.{refl}
use Rattle.std.proofs.lemmas.Result.{err_from_is_err_and}
use Rattle.tal_listing.specs.Listing.{ListText}
use Rattle.verve_tool.specs.Commands.{Listing}
use Rattle.verve_tool.specs.declared.status.Status.TheVariants.{Done}
use Rattle.verve_tool.proofs.Endings.{acted_stopped, acted_wanting, acted_put, no_puts}
use Rattle.verve_tool.proofs.listings.act_list.Goals as goal

pub returns-in_err-image : goal.returns-in_err-image
returns-in_err-image g c =
    let p = err_from_is_err_and c.from_residual.result c.from_residual.ensures.1 in
    rw (p.1, p.2) (acted_stopped _ (Listing c.args.name.now) _ refl refl refl (λ u. u)
    c.in_err-image.ensures.stopped c.in_err-image.ensures.reads (no_puts _))

pub returns-in_err-text : goal.returns-in_err-text
returns-in_err-text g c =
    let p = err_from_is_err_and c.from_residual-in_err-text.result c.from_residual-in_err-text.ensures.1 in
    rw (p.1, p.2) (acted_wanting _ (Listing c.args.name.now) refl (record { no_entries = refl; none_kept = refl }) c.in_ok-image.ensures.reads (no_puts _))

pub returns : goal.returns
returns g c =
    acted_put _ (Listing c.args.name.now) Done (ListText c.in_ok-image.image) _ refl
    (c.in_ok-image.image, c.in_ok-image.ensures.held, record { no_entries = refl; none_kept = refl }, refl, refl)
    (rw (← c.in_ok-text.ensures, ← c.as_bytes.ensures.value) c.put_text.ensures.put) c.in_ok-image.ensures.reads c.put_text.ensures.puts
