use Rattle.std.proofs.Common.{refl}
use Rattle.tal_flow.specs.Afterwards.{after_call}
use Rattle.tal_flow.proofs.Fields.{same_live, kept_type-first}
use Rattle.tal_flow.proofs.known.after_call.Goals as goal

pub returns-clause-known : goal.returns-clause-known
unfolding after_call
returns-clause-known c = same_live _ _ (kept_type-first c.args.t) refl refl c.type_laws.ensures.no_pairs c.type_laws.ensures.no_pairs
