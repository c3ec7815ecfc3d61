use Rattle.std.proofs.Common.{refl, ap, ◌∙◌, sym, arith, ◌≡◌, take, length}
use Rattle.std.proofs.lemmas.List.{length-set, take_all, get_or-set_other}
use Rattle.tal_types.specs.declared.types.Ty.TheVariants.{Junk}
use Rattle.tal_types.proofs.Meanings.{filled-more}
use Rattle.tal_types.proofs.contexts.fill.Goals as goal

pub loop-i-init : goal.loop-i-init
loop-i-init c = record {
  long = c.told-all;
  slots = refl;
  rest = c.requires.rest;
}

pub loop-i-preserved : goal.loop-i-preserved
loop-i-preserved c =
    let kept = c.loop-i.invariant in
    record {
      long = length-set _ _ _ ∙ kept.long;
      slots = filled-more c.loop-i.all c.args.slots.now c.loop-i.i kept.long (omega arith) c.loop-i-test.true kept.slots;
      rest = λ k l. get_or-set_other c.loop-i.all c.loop-i.i k _ Junk (omega (arith, c.loop-i-test.true)) ∙ kept.rest k l;
    }

pub returns : goal.returns
returns c =
    let kept = c.loop-i.invariant in
    let end : c.loop-i.i ≡ length c.args.slots.now = omega arith in
    record {
      slots = ap (λ n. take n c.loop-i.all) (sym end) ∙ kept.slots ∙ take_all c.loop-i.i c.args.slots.now (omega arith);
      rest = kept.rest;
    }
