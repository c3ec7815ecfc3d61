use Rattle.std.proofs.Common.{◌∙◌}
use Rattle.tal_flow.proofs.EdgeRules.{refined}
use Rattle.tal_flow.proofs.flowing.taken.Goals as goal

pub returns : goal.returns
returns g c = c.refine.ensures ∙ refined _ _ _ c.args.context.now.kind _ _ c.shapes.ensures.value c.told_by_branch.ensures
