use Rattle.std.proofs.Common.{◌∙◌, ap, map}
use Rattle.object_layout.specs.declared.rows.FunRow.{FunRow}
use Rattle.std.proofs.lemmas.Result.{err_from_is_err_and}
use Rattle.tal_image.specs.ImageReading.{front_parts_of}
use Rattle.tal_image.proofs.Reading.Steps.{no_blocks, no_marks, code_read}
use Rattle.tal_image.proofs.image_reader.code_rows.Goals as goal

pub returns-in_err-blocks-clause-gives : goal.returns-in_err-blocks-clause-gives
returns-in_err-blocks-clause-gives c =
    let p = err_from_is_err_and c.from_residual-in_err-blocks.result c.from_residual-in_err-blocks.ensures.1 in
    let f = c.in_ok-starts.ensures.file in
    rw (p.1, p.2) (no_blocks (front_parts_of c.args.front.now) _ _ _ _ (rw c.deref-2.ensures.value at c.in_ok-starts.ensures.gives) _ (rw (f, c.of-tables.ensures, c.deref-3.ensures.value, c.deref-4.ensures.value, c.in_ok-firsts.ensures, c.deref.ensures.value) at c.in_err-blocks.ensures.gives))

pub returns-in_err-marks-clause-gives : goal.returns-in_err-marks-clause-gives
returns-in_err-marks-clause-gives c =
    let p = err_from_is_err_and c.from_residual-in_err-marks.result c.from_residual-in_err-marks.ensures.1 in
    let f = c.in_ok-starts.ensures.file in
    let f2 = c.in_ok-blocks.ensures.file ∙ f in
    rw (p.1, p.2) (no_marks (front_parts_of c.args.front.now) _ _ _ _ (rw c.deref-2.ensures.value at c.in_ok-starts.ensures.gives) _ _ (rw (f, c.of-tables.ensures, c.deref-3.ensures.value, c.deref-4.ensures.value, c.in_ok-firsts.ensures, c.deref.ensures.value) at c.in_ok-blocks.ensures.gives) _ _ _ c.in_ok-words.ensures.tables (ap (map (λ (row : FunRow). row.address)) c.in_ok-words.ensures.funs) c.in_ok-words.ensures.places _ (rw (f2, c.deref-5.ensures.value) at c.in_err-marks.ensures.gives))

pub returns-clause-gives : goal.returns-clause-gives
returns-clause-gives c =
    let f = c.in_ok-starts.ensures.file in
    let f2 = c.in_ok-blocks.ensures.file ∙ f in
    code_read (front_parts_of c.args.front.now) _ _ _ _ (rw c.deref-2.ensures.value at c.in_ok-starts.ensures.gives) _ _ (rw (f, c.of-tables.ensures, c.deref-3.ensures.value, c.deref-4.ensures.value, c.in_ok-firsts.ensures, c.deref.ensures.value) at c.in_ok-blocks.ensures.gives) _ _ _ c.in_ok-words.ensures.tables (ap (map (λ (row : FunRow). row.address)) c.in_ok-words.ensures.funs) c.in_ok-words.ensures.places _ _ _ (rw (f2, c.deref-5.ensures.value) at c.in_ok-marks.ensures.gives) (rw f at c.in_ok-code.ensures.bytes)
