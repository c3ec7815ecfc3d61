use Rattle.std.proofs.Common.{◌∙◌}
use Rattle.std.proofs.lemmas.Result.{err_from_is_err_and}
use Rattle.file_fields.specs.Reading.{run}
use Rattle.file_fields.specs.Composed.{passed_on}
use Rattle.tal_image.specs.Fields.{image_fields}
use Rattle.tal_image.specs.ImageReading.{image_at}
use Rattle.tal_image.proofs.Reading.Images.{image_run}
use Rattle.tal_image.proofs.image_reader.PlacedRowsRowUnit.read.Goals as goal

pub returns-in_err-rows-clause-gives : goal.returns-in_err-rows-clause-gives
returns-in_err-rows-clause-gives c =
    let p = err_from_is_err_and c.from_residual.result c.from_residual.ensures.1 in
    let r = c.args.reader.now in
    let same = image_run c.decoded_law.ensures r.file.now c.are_bytes.ensures r.at in
    rw (p.1, p.2) (passed_on c.in_err-rows.field-0.0 (image_at r.file.now r.at) (run image_fields r.file.now r.at) (λ f q. same ∙ q) c.in_err-rows.ensures.gives)

pub returns-clause-gives : goal.returns-clause-gives
returns-clause-gives c =
    let r = c.args.reader.now in
    image_run c.decoded_law.ensures r.file.now c.are_bytes.ensures r.at ∙ c.in_ok-rows.ensures.gives
