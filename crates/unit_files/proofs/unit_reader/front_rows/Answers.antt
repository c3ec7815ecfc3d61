use Rattle.std.proofs.Common.{◌∙◌, ◌*◌}
use Rattle.std.proofs.lemmas.Result.{err_from_is_err_and}
use Rattle.unit_files.specs.Fields.{tables_behind, front_fields}
use Rattle.unit_files.proofs.Reading.Steps.{stops, next_is, stops_later}
use Rattle.unit_files.proofs.Reading.Known.{known}
use Rattle.unit_files.proofs.Reading.Ends.{FitsCode, functions_most}
use Rattle.unit_files.proofs.unit_reader.front_rows.Goals as goal

pub returns-in_err-header-clause-gives : goal.returns-in_err-header-clause-gives
unfolding front_fields
returns-in_err-header-clause-gives c =
    let p = err_from_is_err_and c.from_residual.result c.from_residual.ensures.1 in
    rw (p.1, p.2) (stops _ _ _ _ c.in_err-header.field-0.0 c.in_err-header.ensures.gives)

pub returns-in_err-names-clause-gives : goal.returns-in_err-names-clause-gives
unfolding front_fields
returns-in_err-names-clause-gives c =
    let p = err_from_is_err_and c.from_residual-in_err-names.result c.from_residual-in_err-names.ensures.1 in
    let e = c.in_err-names.field-0.0 in
    let f1 = c.in_ok-header.ensures.file in
    rw (p.1, p.2) (stops_later _ _ _ _ e c.in_ok-header.ensures.gives (stops _ _ _ _ e (rw f1 at c.in_err-names.ensures.gives)))

pub returns-in_err-sigs-clause-gives : goal.returns-in_err-sigs-clause-gives
unfolding front_fields
returns-in_err-sigs-clause-gives c =
    let p = err_from_is_err_and c.from_residual-in_err-sigs.result c.from_residual-in_err-sigs.ensures.1 in
    let e = c.in_err-sigs.field-0.0 in
    let f1 = c.in_ok-header.ensures.file in
    let f2 = c.in_ok-names.ensures.file ∙ f1 in
    rw (p.1, p.2) (stops_later _ _ _ _ e c.in_ok-header.ensures.gives (stops_later _ _ _ _ e (rw f1 at c.in_ok-names.ensures.gives) (stops _ _ _ _ e (rw f2 at c.in_err-sigs.ensures.gives))))

pub returns-in_err-functions-clause-gives : goal.returns-in_err-functions-clause-gives
unfolding front_fields
returns-in_err-functions-clause-gives c =
    let p = err_from_is_err_and c.from_residual-in_err-functions.result c.from_residual-in_err-functions.ensures.1 in
    let e = c.in_err-functions.field-0.0 in
    let f1 = c.in_ok-header.ensures.file in
    let f2 = c.in_ok-names.ensures.file ∙ f1 in
    let f3 = c.in_ok-sigs.ensures.file ∙ f2 in
    rw (p.1, p.2) (stops_later _ _ _ _ e c.in_ok-header.ensures.gives (stops_later _ _ _ _ e (rw f1 at c.in_ok-names.ensures.gives) (stops_later _ _ _ _ e (rw f2 at c.in_ok-sigs.ensures.gives) (stops _ _ _ _ e (rw f3 at c.in_err-functions.ensures.gives)))))

pub returns-in_err-entries-clause-gives : goal.returns-in_err-entries-clause-gives
unfolding front_fields
returns-in_err-entries-clause-gives c =
    let p = err_from_is_err_and c.from_residual-in_err-entries.result c.from_residual-in_err-entries.ensures.1 in
    let e = c.in_err-entries.field-0.0 in
    let f1 = c.in_ok-header.ensures.file in
    let f2 = c.in_ok-names.ensures.file ∙ f1 in
    let f3 = c.in_ok-sigs.ensures.file ∙ f2 in
    let f4 = c.in_ok-functions.ensures.file ∙ f3 in
    rw (p.1, p.2) (stops_later _ _ _ _ e c.in_ok-header.ensures.gives (stops_later _ _ _ _ e (rw f1 at c.in_ok-names.ensures.gives) (stops_later _ _ _ _ e (rw f2 at c.in_ok-sigs.ensures.gives) (stops_later _ _ _ _ e (rw f3 at c.in_ok-functions.ensures.gives) (stops _ _ _ _ e (rw f4 at c.in_err-entries.ensures.gives))))))

pub returns-clause-gives : goal.returns-clause-gives
unfolding front_fields
returns-clause-gives c =
    let f1 = c.in_ok-header.ensures.file in
    let f2 = c.in_ok-names.ensures.file ∙ f1 in
    let f3 = c.in_ok-sigs.ensures.file ∙ f2 in
    let f4 = c.in_ok-functions.ensures.file ∙ f3 in
    next_is _ _ _ _ c.in_ok-header.ensures.gives ∙ next_is _ _ _ _ (rw f1 at c.in_ok-names.ensures.gives) ∙ next_is _ _ _ _ (rw f2 at c.in_ok-sigs.ensures.gives) ∙ next_is _ _ _ _ (rw f3 at c.in_ok-functions.ensures.gives) ∙ next_is _ _ _ _ (rw f4 at c.in_ok-entries.ensures.gives)

pub returns-clause-positive : goal.returns-clause-positive
returns-clause-positive c =
    let h = c.in_ok-header.header in
    (known (FitsCode h.image.code) _ (h.image.functions * 16) (functions_most c.row_reaches.ensures h.names (tables_behind h) h.image.functions h.image.code) _ _ _ _ c.in_ok-functions.ensures.gives).positive
