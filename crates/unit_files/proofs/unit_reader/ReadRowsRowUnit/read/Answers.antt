use Rattle.std.proofs.lemmas.Result.{err_from_is_err_and}
use Rattle.std.proofs.Common.{◌∙◌}
use Rattle.unit_files.proofs.Reading.Units.{no_front, no_tables, no_code, unit_read}
use Rattle.unit_files.proofs.unit_reader.ReadRowsRowUnit.read.Goals as goal

pub returns-in_err-front-clause-gives : goal.returns-in_err-front-clause-gives
returns-in_err-front-clause-gives c =
    let p = err_from_is_err_and c.from_residual.result c.from_residual.ensures.1 in
    rw (p.1, p.2) (no_front _ _ c.in_err-front.field-0.0 c.in_err-front.ensures.gives)

pub returns-in_err-tables-clause-gives : goal.returns-in_err-tables-clause-gives
returns-in_err-tables-clause-gives c =
    let p = err_from_is_err_and c.from_residual-in_err-tables.result c.from_residual-in_err-tables.ensures.1 in
    let f1 = c.in_ok-front.ensures.file in
    rw (p.1, p.2) (no_tables _ _ _ _ c.in_ok-front.ensures.gives c.in_err-tables.field-0.0 (rw f1 at c.in_err-tables.ensures.gives))

pub returns-in_err-behind-clause-gives : goal.returns-in_err-behind-clause-gives
returns-in_err-behind-clause-gives c =
    let p = err_from_is_err_and c.from_residual-in_err-behind.result c.from_residual-in_err-behind.ensures.1 in
    let f1 = c.in_ok-front.ensures.file in
    let f2 = c.in_ok-tables.ensures.file ∙ f1 in
    rw (p.1, p.2) (no_code _ _ _ _ c.in_ok-front.ensures.gives _ _ (rw f1 at c.in_ok-tables.ensures.gives) c.in_err-behind.field-0.0 (rw f2 at c.in_err-behind.ensures.gives))

pub returns-clause-gives : goal.returns-clause-gives
returns-clause-gives c =
    let f1 = c.in_ok-front.ensures.file in
    let f2 = c.in_ok-tables.ensures.file ∙ f1 in
    unit_read _ _ _ _ c.in_ok-front.ensures.gives _ _ (rw f1 at c.in_ok-tables.ensures.gives) _ _ (rw f2 at c.in_ok-behind.ensures.gives)
