use Rattle.std.proofs.Common.{◌∙◌}
use Rattle.std.proofs.lemmas.Result.{err_from_is_err_and}
use Rattle.unit_files.specs.Fields.{table_fields}
use Rattle.unit_files.proofs.Reading.Steps.{stops, next_is, stops_later}
use Rattle.unit_files.proofs.unit_reader.table_rows.Goals as goal

pub returns-in_err-classes-clause-gives : goal.returns-in_err-classes-clause-gives
unfolding table_fields
returns-in_err-classes-clause-gives c =
    let p = err_from_is_err_and c.from_residual-in_err-classes.result c.from_residual-in_err-classes.ensures.1 in
    let e = c.in_err-classes.field-0.0 in
    rw (p.1, p.2) (stops _ _ _ _ e (rw (c.deref-2.ensures.value, c.in_ok-functions.ensures, c.deref.ensures.value) at c.in_err-classes.ensures.gives))

pub returns-in_err-kinds-clause-gives : goal.returns-in_err-kinds-clause-gives
unfolding table_fields
returns-in_err-kinds-clause-gives c =
    let p = err_from_is_err_and c.from_residual-in_err-kinds.result c.from_residual-in_err-kinds.ensures.1 in
    let e = c.in_err-kinds.field-0.0 in
    let f1 = c.in_ok-classes.ensures.file in
    let classes = rw (c.deref-2.ensures.value, c.in_ok-functions.ensures, c.deref.ensures.value) at c.in_ok-classes.ensures.gives in
    rw (p.1, p.2) (stops_later _ _ _ _ e classes (stops _ _ _ _ e (rw f1 at c.in_err-kinds.ensures.gives)))

pub returns-in_err-statics-clause-gives : goal.returns-in_err-statics-clause-gives
unfolding table_fields
returns-in_err-statics-clause-gives c =
    let p = err_from_is_err_and c.from_residual-in_err-statics.result c.from_residual-in_err-statics.ensures.1 in
    let e = c.in_err-statics.field-0.0 in
    let f1 = c.in_ok-classes.ensures.file in
    let f2 = c.in_ok-kinds.ensures.file ∙ f1 in
    let classes = rw (c.deref-2.ensures.value, c.in_ok-functions.ensures, c.deref.ensures.value) at c.in_ok-classes.ensures.gives in
    rw (p.1, p.2) (stops_later _ _ _ _ e classes (stops_later _ _ _ _ e (rw f1 at c.in_ok-kinds.ensures.gives) (stops _ _ _ _ e (rw f2 at c.in_err-statics.ensures.gives))))

pub returns-in_err-arrays-clause-gives : goal.returns-in_err-arrays-clause-gives
unfolding table_fields
returns-in_err-arrays-clause-gives c =
    let p = err_from_is_err_and c.from_residual-in_err-arrays.result c.from_residual-in_err-arrays.ensures.1 in
    let e = c.in_err-arrays.field-0.0 in
    let f1 = c.in_ok-classes.ensures.file in
    let f2 = c.in_ok-kinds.ensures.file ∙ f1 in
    let f3 = c.in_ok-statics.ensures.file ∙ f2 in
    let classes = rw (c.deref-2.ensures.value, c.in_ok-functions.ensures, c.deref.ensures.value) at c.in_ok-classes.ensures.gives in
    let arrays = rw (f3, c.deref-4.ensures.value, c.in_ok-rows.ensures, c.deref-3.ensures.value) at c.in_err-arrays.ensures.gives in
    rw (p.1, p.2) (stops_later _ _ _ _ e classes (stops_later _ _ _ _ e (rw f1 at c.in_ok-kinds.ensures.gives) (stops_later _ _ _ _ e (rw f2 at c.in_ok-statics.ensures.gives) (stops _ _ _ _ e arrays))))

pub returns-clause-gives : goal.returns-clause-gives
unfolding table_fields
returns-clause-gives c =
    let f1 = c.in_ok-classes.ensures.file in
    let f2 = c.in_ok-kinds.ensures.file ∙ f1 in
    let f3 = c.in_ok-statics.ensures.file ∙ f2 in
    let classes = rw (c.deref-2.ensures.value, c.in_ok-functions.ensures, c.deref.ensures.value) at c.in_ok-classes.ensures.gives in
    let arrays = rw (f3, c.deref-4.ensures.value, c.in_ok-rows.ensures, c.deref-3.ensures.value) at c.in_ok-arrays.ensures.gives in
    next_is _ _ _ _ classes ∙ next_is _ _ _ _ (rw f1 at c.in_ok-kinds.ensures.gives) ∙ next_is _ _ _ _ (rw f2 at c.in_ok-statics.ensures.gives) ∙ next_is _ _ _ _ arrays
