use Rattle.std.proofs.Common.{refl}
use Rattle.tal_flow.specs.Afterwards.{add_head}
use Rattle.tal_flow.proofs.Fields.{same_live}
use Rattle.tal_flow.proofs.known.add_head.Goals as goal

pub returns-clause-known : goal.returns-clause-known
unfolding add_head
returns-clause-known c = same_live _ _ (λ r. refl) refl refl (λ i a. refl) c.with_pair-context.ensures
