use Rattle.std.proofs.Common.{◌≡◌, ◌∙◌, ◌-◌, ◌+◌, suc, arith, map}
use Rattle.std.proofs.lemmas.List.{drop-drop}
use Rattle.std.proofs.lemmas.Result.{err_from_is_err_and}
use Rattle.tal_image.specs.ClassReading.{function_signature}
use Rattle.file_fields.specs.Composed.{goes_on, ends, is_done}
use Rattle.tal_image.proofs.class_reader.methods.Goals as goal

pub returns-in_err-one-clause-gives : goal.returns-in_err-one-clause-gives
returns-in_err-one-clause-gives c =
    let p = err_from_is_err_and c.from_residual.result c.from_residual.ensures.1 in
    let e : c.args.count - c.loop-i.i ≡ suc (c.args.count - c.loop-i.i - 1) = omega arith in
    rw (p.1, p.2) (ends c.loop-i.invariant.read _ e c.in_err-one.ensures.gives)

pub loop-i-preserved : goal.loop-i-preserved
loop-i-preserved c =
    let e : c.args.count - c.loop-i.i ≡ suc (c.args.count - (c.loop-i.i + 1)) = omega arith in
    let slots = map (function_signature c.args.functions.now) c.args.above.now in
    record {
      read = rw (c.in_ok-push.ensures.ok, c.in_ok-one.ensures.file, ← drop-drop 1 c.loop-i.i slots) (goes_on c.loop-i.invariant.read e c.in_ok-one.ensures.gives);
      file = c.in_ok-one.ensures.file ∙ c.loop-i.invariant.file;
    }

pub returns-clause-gives : goal.returns-clause-gives
returns-clause-gives c = is_done c.loop-i.invariant.read (omega (arith, c.loop-i-test.false))
