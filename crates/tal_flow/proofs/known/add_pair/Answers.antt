use Rattle.std.proofs.Common.{refl}
use Rattle.tal_flow.specs.Edges.{add_pair}
use Rattle.tal_flow.proofs.Fields.{same_live}
use Rattle.tal_flow.proofs.known.add_pair.Goals as goal

pub returns-clause-known : goal.returns-clause-known
unfolding add_pair
returns-clause-known c = same_live _ _ (λ r. refl) refl refl c.with_pair-context.ensures (λ t r. refl)
