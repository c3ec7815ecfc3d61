use Rattle.std.proofs.Common.{◌∙◌, ◌+◌, ap, sym, List, drop, get_or, arith}
use Rattle.std.proofs.lemmas.Result.{err_from_is_err_and}
use Rattle.tal_image.specs.declared.parts.FunctionPart.{FunctionPart}
use Rattle.tal_image.specs.CodeReading.{body_at, bodies_at, starts_behind, code_at}
use Rattle.file_fields.specs.Composed.{passed_on}
use Rattle.tal_image.proofs.Reading.Bodies.{function_on, function_fails, functions_done}
use Rattle.std.proofs.lemmas.List.{drop_more, drop_all}
use Rattle.tal_image.proofs.code_reader.code.Goals as goal

pub returns-in_err-body-clause-gives : goal.returns-in_err-body-clause-gives
returns-in_err-body-clause-gives c =
    let p = err_from_is_err_and c.from_residual.result c.from_residual.ensures.1 in
    let r = c.loop-function.reader in
    let i = c.loop-function.function-index in
    let fs = c.args.functions.now in
    let d : FunctionPart = record { length = 0; sig = 0 } in
    let f = get_or fs i d in
    let begun = c.loop-function.starts.items in
    let next = drop_more fs i d c.loop-function-test.true in
    rw (p.1, p.2) (passed_on c.in_err-body.field-0.0 (starts_behind begun (body_at f.length r.file.now r.at)) (code_at fs c.args.reader.now.file.now c.args.reader.now.at)
    (λ h q. sym c.loop-function.invariant.read ∙ ap (λ (xs : List FunctionPart). starts_behind begun (bodies_at xs r.file.now r.at)) next ∙ function_fails begun f (drop (i + 1) fs) r.file.now r.at h q) c.in_err-body.ensures.gives)

pub loop-function-preserved : goal.loop-function-preserved
loop-function-preserved c =
    let r = c.loop-function.reader in
    let i = c.loop-function.function-index in
    let fs = c.args.functions.now in
    let d : FunctionPart = record { length = 0; sig = 0 } in
    let f = get_or fs i d in
    let begun = c.loop-function.starts.items in
    let next = drop_more fs i d c.loop-function-test.true in
    record {
      read = rw c.in_ok-body.ensures.file (sym (function_on begun f (drop (i + 1) fs) r.file.now r.at c.body.new.starts.items c.body.new.reader.at c.in_ok-body.ensures.gives) ∙ ap (λ (xs : List FunctionPart). starts_behind begun (bodies_at xs r.file.now r.at)) (sym next) ∙ c.loop-function.invariant.read);
      onward = omega (arith, c.loop-function.invariant.onward, c.in_ok-body.ensures.onward);
      file = c.in_ok-body.ensures.file ∙ c.loop-function.invariant.file;
    }

pub returns-clause-gives : goal.returns-clause-gives
returns-clause-gives c =
    let r = c.loop-function.reader in
    let begun = c.loop-function.starts.items in
    sym c.loop-function.invariant.read ∙ ap (λ (xs : List FunctionPart). starts_behind begun (bodies_at xs r.file.now r.at)) (drop_all c.loop-function.function-index c.args.functions.now c.loop-function-test.false) ∙ functions_done begun r.file.now r.at
