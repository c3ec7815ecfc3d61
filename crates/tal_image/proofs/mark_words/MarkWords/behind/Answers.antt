use Rattle.std.proofs.Common.{◌≤◌, sym, subst}
use Rattle.tal_image.specs.Conditions.{Tables, most_words}
use Rattle.tal_image.proofs.Finding.DataArrays.{places-behind, offsets-few}
use Rattle.tal_image.proofs.mark_words.MarkWords.behind.Goals as goal

pub invariant_of-result : goal.invariant_of-result
invariant_of-result c = record {
  classes = subst (λ (t : Tables). t.classes ≤ 1024) (sym c.of.ensures) c.requires.classes;
  kinds = subst (λ (t : Tables). t.kinds ≤ 256) (sym c.of.ensures) c.requires.kinds;
  few = rw (c.in_ok-offsets.ensures, c.deref-2.ensures.value) (offsets-few c.args.front.now.header.statics most_words c.args.front.now.arrays.items c.requires.arrays);
}

pub returns-clause-places : goal.returns-clause-places
returns-clause-places c = rw (c.in_ok-offsets.ensures, c.deref-2.ensures.value) (sym (places-behind c.args.front.now.header.statics c.args.front.now.arrays.items))
