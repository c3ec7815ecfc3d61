use Rattle.std.proofs.Common.{◌≡◌, ◌∙◌, ◌-◌, ◌+◌, suc, [], ◌∷◌, arith}
use Rattle.std.proofs.lemmas.List.{length-append}
use Rattle.std.proofs.lemmas.Result.{err_from_is_err_and}
use Rattle.file_fields.specs.Composed.{goes_on, ends, is_done}
use Rattle.unit_files.proofs.Reading.Classes.{named_more}
use Rattle.unit_files.proofs.class_reader.classes.Goals as goal

pub returns-in_err-mention-clause-gives : goal.returns-in_err-mention-clause-gives
returns-in_err-mention-clause-gives c =
    let p = err_from_is_err_and c.from_residual.result c.from_residual.ensures.1 in
    let e : c.args.header.now.image.classes - c.loop-i.i ≡ suc (c.args.header.now.image.classes - c.loop-i.i - 1) = omega arith in
    rw (p.1, p.2) (ends c.loop-i.invariant.read _ e (rw c.deref.ensures.value at c.in_err-mention.ensures.gives))

pub loop-i-preserved : goal.loop-i-preserved
loop-i-preserved c =
    let e : c.args.header.now.image.classes - c.loop-i.i ≡ suc (c.args.header.now.image.classes - (c.loop-i.i + 1)) = omega arith in
    let same = c.loop-i.invariant.same in
    record {
      read = rw (c.in_ok-push.ensures.items, c.in_ok-push-2.ensures.items, c.in_ok-mention.ensures.file, named_more c.loop-i.mentions.items c.loop-i.rows.items c.in_ok-mention.mention c.in_ok-mention.one.row same) (goes_on c.loop-i.invariant.read e (rw c.deref.ensures.value at c.in_ok-mention.ensures.gives));
      known = rw (c.in_ok-push-2.ensures.items, c.in_ok-push-3.ensures.items) (rw (c.deref.ensures.value, c.deref-in-loop-i.ensures.value) at c.in_ok-mention.ensures.sized);
      same = let l = length-append c.loop-i.mentions.items (c.in_ok-mention.mention ∷ []) in let l2 = length-append c.loop-i.rows.items (c.in_ok-mention.one.row ∷ []) in rw (c.in_ok-push.ensures.items, c.in_ok-push-2.ensures.items) (omega (arith, l, l2, same));
      file = c.in_ok-mention.ensures.file ∙ c.loop-i.invariant.file;
    }

pub returns-clause-gives : goal.returns-clause-gives
returns-clause-gives c = rw c.in_ok-named.ensures (is_done c.loop-i.invariant.read (omega (arith, c.loop-i-test.false)))
