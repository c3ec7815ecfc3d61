use Rattle.std.proofs.Common.{◌≡◌, refl, ◌∙◌, arith, map}
use Rattle.std.proofs.lemmas.Result.{err_from_is_err_and}
use Rattle.tal_image.specs.Conditions.{class_view, parent_fits}
use Rattle.file_fields.specs.Grammar.{checked}
use Rattle.file_fields.specs.Reading.{run}
use Rattle.tal_image.specs.Fields.{class_fields, with_class}
use Rattle.tal_image.specs.ClassReading.{behind_parent, function_signature}
use Rattle.file_fields.specs.Composed.{passed_on}
use Rattle.tal_image.proofs.Classes.Sizes.{with_size}
use Rattle.tal_image.proofs.Classes.Readings.{class_is, class_refused}
use Rattle.tal_image.proofs.class_reader.class.Goals as goal

pub returns-in_err-number-clause-gives : goal.returns-in_err-number-clause-gives
returns-in_err-number-clause-gives c =
    let s = class_view c.args.functions.now c.args.classes.now in
    let p = err_from_is_err_and c.from_residual.result c.from_residual.ensures.1 in
    rw (p.1, p.2) (passed_on c.in_err-number.field-0.0 (run (checked (parent_fits s) 16) c.args.reader.now.file.now c.args.reader.now.at) (run (class_fields c.args.tables.now c.args.functions.now c.args.classes.now) c.args.reader.now.file.now c.args.reader.now.at) (λ f q. class_refused c.args.tables.now c.args.functions.now c.args.classes.now c.args.reader.now.file.now c.args.reader.now.at f q) (c.in_err-number.ensures.gives s c.requires))

pub returns-in_err-row-clause-gives : goal.returns-in_err-row-clause-gives
returns-in_err-row-clause-gives c =
    let s = class_view c.args.functions.now c.args.classes.now in
    let p = err_from_is_err_and c.from_residual-in_err-row.result c.from_residual-in_err-row.ensures.1 in
    let above = c.in_ok-number.ensures.above s c.requires in
    let one = run (behind_parent c.args.tables.now c.args.functions.now c.in_ok-number.number c.in_ok-number.above.fields (map (function_signature c.args.functions.now) c.methods_above-taken.result.now)) c.parent.new.reader.file.now c.parent.new.reader.at in
    let all = run (class_fields c.args.tables.now c.args.functions.now c.args.classes.now) c.args.reader.now.file.now c.args.reader.now.at in
    let same : all ≡ one = rw c.in_ok-number.ensures.file (class_is c.args.tables.now c.args.functions.now c.args.classes.now c.args.reader.now.file.now c.args.reader.now.at c.in_ok-number.number c.parent.new.reader.at c.in_ok-number.above.fields c.methods_above-taken.result.now (c.in_ok-number.ensures.gives s c.requires) above.fields (c.methods_above-taken.ensures s refl)) in
    rw (p.1, p.2) (passed_on c.in_err-row.field-0.0 one all (λ f q. same ∙ q) c.in_err-row.ensures.gives)

pub overflow_add-size : goal.overflow_add-size
overflow_add-size c =
    let above = c.in_ok-number.ensures.above (class_view c.args.functions.now c.args.classes.now) c.requires in
    omega (arith, above.shallow)

pub returns-clause-gives : goal.returns-clause-gives
returns-clause-gives c =
    let s = class_view c.args.functions.now c.args.classes.now in
    let above = c.in_ok-number.ensures.above s c.requires in
    let one = run (behind_parent c.args.tables.now c.args.functions.now c.in_ok-number.number c.in_ok-number.above.fields (map (function_signature c.args.functions.now) c.methods_above-taken.result.now)) c.parent.new.reader.file.now c.parent.new.reader.at in
    let all = run (class_fields c.args.tables.now c.args.functions.now c.args.classes.now) c.args.reader.now.file.now c.args.reader.now.at in
    let same : all ≡ one = rw c.in_ok-number.ensures.file (class_is c.args.tables.now c.args.functions.now c.args.classes.now c.args.reader.now.file.now c.args.reader.now.at c.in_ok-number.number c.parent.new.reader.at c.in_ok-number.above.fields c.methods_above-taken.result.now (c.in_ok-number.ensures.gives s c.requires) above.fields (c.methods_above-taken.ensures s refl)) in
    same ∙ c.in_ok-row.ensures.gives

pub returns-clause-sized : goal.returns-clause-sized
returns-clause-sized c =
    let s = class_view c.args.functions.now c.args.classes.now in
    let above = c.in_ok-number.ensures.above s c.requires in
    rw c.items.ensures (with_size c.args.functions.now c.args.classes.now c.in_ok-row.row c.args.sizes.now c.requires (c.lineage_laws.ensures (class_view c.args.functions.now (with_class c.args.classes.now c.in_ok-row.row))) c.in_ok-number.number c.in_ok-number.above above c.in_ok-row.ensures.parent)
