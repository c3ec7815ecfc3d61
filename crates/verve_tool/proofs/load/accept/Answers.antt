use Rattle.std.proofs.Common.{refl}
use Rattle.std.proofs.lemmas.Result.{err_from_is_err_and}
use Rattle.verve_tool.proofs.FilesRead.{answer_stops}
use Rattle.verve_tool.proofs.load.accept.Goals as goal

pub returns-in_err-check-clause-stopped : goal.returns-in_err-check-clause-stopped
returns-in_err-check-clause-stopped c told name held =
    let p = err_from_is_err_and c.from_residual.result c.from_residual.ensures.1 in
    rw (p.1, p.2) (answer_stops told name c.args.image c.in_err-check.field-0.0 held (λ address rule is. c.in_err-check.ensures.refused address rule (rw is refl)))
