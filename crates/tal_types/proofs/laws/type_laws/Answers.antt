use Rattle.tal_types.proofs.Meanings.{pair_in-zero}
use Rattle.tal_types.proofs.Orders.{same-refl, same-true, same-cases, every-all, every-from, within-refl, within-trans, sub-refl, sub-trans, all_sub-refl, kind_below-refl, kind_below-trans, ContextBelow-refl, ContextBelow-trans, context_below-told, context_below-from}
use Rattle.tal_types.proofs.Registers.{number-below}
use Rattle.tal_types.proofs.laws.type_laws.Goals as goal

pub returns : goal.returns
returns c = record {
  register_below_8 = number-below;
  same_reflexive = same-refl;
  same_told = same-true;
  same_or_not = same-cases;
  every_told = every-all;
  every_tells = every-from;
  no_pairs = pair_in-zero;
  within_reflexive = within-refl;
  within_transitive = within-trans;
  types_reflexive = sub-refl;
  types_transitive = sub-trans;
  lists_reflexive = all_sub-refl;
  kinds_reflexive = kind_below-refl;
  kinds_transitive = kind_below-trans;
  contexts_reflexive = ContextBelow-refl;
  contexts_transitive = ContextBelow-trans;
  context_told = context_below-told;
  context_tells = context_below-from;
}
