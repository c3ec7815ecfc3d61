use Rattle.std.proofs.Common.{refl, inl, inr}
use Rattle.std.proofs.lemmas.Result.{err_from_is_err_and}
use Rattle.verve_tool.specs.Commands.{Run}
use Rattle.verve_tool.specs.Stops.{run_of}
use Rattle.verve_tool.proofs.Endings.{acted_stopped, acted_wanting, acted_run, no_puts}
use Rattle.verve_tool.proofs.runs.act_run.Goals as goal

pub text_kept-requires : goal.text_kept-requires
text_kept-requires g c =
    let made = c.in_ok-end.ensures.made in
    record { kept = (made.ran.machine, made.ran.is, made.answer) }

pub returns-in_err-end : goal.returns-in_err-end
returns-in_err-end g c =
    let p = err_from_is_err_and c.from_residual.result c.from_residual.ensures.1 in
    rw (p.1, p.2) (acted_stopped _ (Run c.args.text (run_of c.args.run)) _ refl c.in_err-end.ensures.idle.0 c.in_err-end.ensures.idle.1 (λ u. inl u)
    c.in_err-end.ensures.stopped c.in_err-end.ensures.reads (no_puts _))

pub returns-in_err-told : goal.returns-in_err-told
returns-in_err-told g c =
    let p = err_from_is_err_and c.from_residual-in_err-told.result c.from_residual-in_err-told.ensures.1 in
    rw (p.1, p.2) (acted_wanting _ (Run c.args.text (run_of c.args.run)) refl (inr c.in_ok-end.ensures.made.ran) c.in_ok-end.ensures.reads (no_puts _))

pub returns : goal.returns
returns g c =
    let made = c.in_ok-end.ensures.made in
    let told = c.in_ok-told.ensures made.ran.machine made.ran.is in
    acted_run c.machines_show_their_runs.ensures _ c.args.text (run_of c.args.run) c.in_ok-end.end made c.in_ok-told.told.items _ told.0 told.1
    (rw (← c.status_after.ensures, ← c.deref.ensures.value) c.put_text.ensures.put) c.in_ok-end.ensures.reads c.put_text.ensures.puts
