use Rattle.std.proofs.Common.{◌∙◌, arith}
use Rattle.std.proofs.lemmas.Result.{err_from_is_err_and}
use Rattle.tal_image.proofs.Finding.Spans.{code_length-sum}
use Rattle.tal_image.proofs.Finding.DataArrays.{array_space-sum}
use Rattle.tal_image.proofs.Reading.Limits.{functions_fit, arrays_fit}
use Rattle.tal_image.proofs.Reading.Steps.{no_entries, no_classes, no_kinds, no_statics, no_arrays, tables_read}
use Rattle.tal_image.proofs.image_reader.table_rows.Goals as goal

pub returns-in_err-entries-clause-gives : goal.returns-in_err-entries-clause-gives
returns-in_err-entries-clause-gives c =
    let p = err_from_is_err_and c.from_residual-in_err-entries.result c.from_residual-in_err-entries.ensures.1 in
    let t = c.of-tables.ensures in
    let f1 = c.in_ok-header.ensures.file in
    let f2 = c.in_ok-sigs.ensures.file ∙ f1 in
    let f3 = c.in_ok-functions.ensures.file ∙ f2 in
    rw (p.1, p.2) (no_entries _ _ _ _ c.in_ok-header.ensures.gives _ _ (rw (f1, t) at c.in_ok-sigs.ensures.gives) _ _ (rw (f2, t) at c.in_ok-functions.ensures.gives) _ (rw (f3, c.deref.ensures.value, c.deref-2.ensures.value) at c.in_err-entries.ensures.gives))

pub returns-in_err-classes-clause-gives : goal.returns-in_err-classes-clause-gives
returns-in_err-classes-clause-gives c =
    let p = err_from_is_err_and c.from_residual-in_err-classes.result c.from_residual-in_err-classes.ensures.1 in
    let t = c.of-tables.ensures in
    let f1 = c.in_ok-header.ensures.file in
    let f2 = c.in_ok-sigs.ensures.file ∙ f1 in
    let f3 = c.in_ok-functions.ensures.file ∙ f2 in
    let f4 = c.in_ok-entries.ensures.file ∙ f3 in
    rw (p.1, p.2) (no_classes _ _ _ _ c.in_ok-header.ensures.gives _ _ (rw (f1, t) at c.in_ok-sigs.ensures.gives) _ _ (rw (f2, t) at c.in_ok-functions.ensures.gives) _ _ (rw (f3, c.deref.ensures.value, c.deref-2.ensures.value) at c.in_ok-entries.ensures.gives) _ (rw (f4, t, c.deref-3.ensures.value) at c.in_err-classes.ensures.gives))

pub returns-in_err-kinds-clause-gives : goal.returns-in_err-kinds-clause-gives
returns-in_err-kinds-clause-gives c =
    let p = err_from_is_err_and c.from_residual-in_err-kinds.result c.from_residual-in_err-kinds.ensures.1 in
    let t = c.of-tables.ensures in
    let f1 = c.in_ok-header.ensures.file in
    let f2 = c.in_ok-sigs.ensures.file ∙ f1 in
    let f3 = c.in_ok-functions.ensures.file ∙ f2 in
    let f4 = c.in_ok-entries.ensures.file ∙ f3 in
    let f5 = c.in_ok-classes.ensures.file ∙ f4 in
    rw (p.1, p.2) (no_kinds _ _ _ _ c.in_ok-header.ensures.gives _ _ (rw (f1, t) at c.in_ok-sigs.ensures.gives) _ _ (rw (f2, t) at c.in_ok-functions.ensures.gives) _ _ (rw (f3, c.deref.ensures.value, c.deref-2.ensures.value) at c.in_ok-entries.ensures.gives) _ _ (rw (f4, t, c.deref-3.ensures.value) at c.in_ok-classes.ensures.gives) _ (rw (f5, t) at c.in_err-kinds.ensures.gives))

pub returns-in_err-statics-clause-gives : goal.returns-in_err-statics-clause-gives
returns-in_err-statics-clause-gives c =
    let p = err_from_is_err_and c.from_residual-in_err-statics.result c.from_residual-in_err-statics.ensures.1 in
    let t = c.of-tables.ensures in
    let f1 = c.in_ok-header.ensures.file in
    let f2 = c.in_ok-sigs.ensures.file ∙ f1 in
    let f3 = c.in_ok-functions.ensures.file ∙ f2 in
    let f4 = c.in_ok-entries.ensures.file ∙ f3 in
    let f5 = c.in_ok-classes.ensures.file ∙ f4 in
    let f6 = c.in_ok-kinds.ensures.file ∙ f5 in
    rw (p.1, p.2) (no_statics _ _ _ _ c.in_ok-header.ensures.gives _ _ (rw (f1, t) at c.in_ok-sigs.ensures.gives) _ _ (rw (f2, t) at c.in_ok-functions.ensures.gives) _ _ (rw (f3, c.deref.ensures.value, c.deref-2.ensures.value) at c.in_ok-entries.ensures.gives) _ _ (rw (f4, t, c.deref-3.ensures.value) at c.in_ok-classes.ensures.gives) _ _ (rw (f5, t) at c.in_ok-kinds.ensures.gives) _ (rw (f6, t) at c.in_err-statics.ensures.gives))

pub returns-in_err-arrays-clause-gives : goal.returns-in_err-arrays-clause-gives
returns-in_err-arrays-clause-gives c =
    let p = err_from_is_err_and c.from_residual-in_err-arrays.result c.from_residual-in_err-arrays.ensures.1 in
    let t = c.of-tables.ensures in
    let f1 = c.in_ok-header.ensures.file in
    let f2 = c.in_ok-sigs.ensures.file ∙ f1 in
    let f3 = c.in_ok-functions.ensures.file ∙ f2 in
    let f4 = c.in_ok-entries.ensures.file ∙ f3 in
    let f5 = c.in_ok-classes.ensures.file ∙ f4 in
    let f6 = c.in_ok-kinds.ensures.file ∙ f5 in
    let f7 = c.in_ok-statics.ensures.file ∙ f6 in
    rw (p.1, p.2) (no_arrays _ _ _ _ c.in_ok-header.ensures.gives _ _ (rw (f1, t) at c.in_ok-sigs.ensures.gives) _ _ (rw (f2, t) at c.in_ok-functions.ensures.gives) _ _ (rw (f3, c.deref.ensures.value, c.deref-2.ensures.value) at c.in_ok-entries.ensures.gives) _ _ (rw (f4, t, c.deref-3.ensures.value) at c.in_ok-classes.ensures.gives) _ _ (rw (f5, t) at c.in_ok-kinds.ensures.gives) _ _ (rw (f6, t) at c.in_ok-statics.ensures.gives) _ (rw (f7, t, c.deref-4.ensures.value) at c.in_err-arrays.ensures.gives))

pub returns-clause-gives : goal.returns-clause-gives
returns-clause-gives c =
    let t = c.of-tables.ensures in
    let f1 = c.in_ok-header.ensures.file in
    let f2 = c.in_ok-sigs.ensures.file ∙ f1 in
    let f3 = c.in_ok-functions.ensures.file ∙ f2 in
    let f4 = c.in_ok-entries.ensures.file ∙ f3 in
    let f5 = c.in_ok-classes.ensures.file ∙ f4 in
    let f6 = c.in_ok-kinds.ensures.file ∙ f5 in
    let f7 = c.in_ok-statics.ensures.file ∙ f6 in
    tables_read _ _ _ _ c.in_ok-header.ensures.gives _ _ (rw (f1, t) at c.in_ok-sigs.ensures.gives) _ _ (rw (f2, t) at c.in_ok-functions.ensures.gives) _ _ (rw (f3, c.deref.ensures.value, c.deref-2.ensures.value) at c.in_ok-entries.ensures.gives) _ _ (rw (f4, t, c.deref-3.ensures.value) at c.in_ok-classes.ensures.gives) _ _ (rw (f5, t) at c.in_ok-kinds.ensures.gives) _ _ (rw (f6, t) at c.in_ok-statics.ensures.gives) _ _ (rw (f7, t, c.deref-4.ensures.value) at c.in_ok-arrays.ensures.gives)

pub returns-clause-room : goal.returns-clause-room
returns-clause-room c =
    let h = c.in_ok-header.header in
    let code = (functions_fit c.of-tables.result h.functions h.code c.rows.new.self.file.now c.rows.new.self.at c.in_ok-functions.functions.items c.rows_after.new.self.at c.in_ok-functions.ensures.gives).1 in
    let few = c.in_ok-header.ensures.statics in
    let words = arrays_fit c.of-tables.result c.deref-4.result.now h.arrays h.statics c.field_types.new.reader.file.now c.field_types.new.reader.at c.in_ok-arrays.arrays.items c.rows_after-2.new.self.at c.in_ok-arrays.ensures.gives few in
    record {
      classes = c.in_ok-header.ensures.classes;
      kinds = c.in_ok-header.ensures.kinds;
      code = rw (← code_length-sum c.in_ok-functions.functions.items) (omega (arith, code, c.in_ok-header.ensures.code));
      arrays = rw (← array_space-sum c.in_ok-arrays.arrays.items) (omega (arith, words));
    }
