use Rattle.std.proofs.Common.{ap, sym, ◌∙◌}
use Rattle.tal_flow.specs.Edges.{target_of}
use Rattle.tal_flow.proofs.EdgeRules.{dead-context, jump_branches, taken-branches, dead-branches, nowhere-branches}
use Rattle.tal_flow.proofs.flowing.edge.Goals as goal

pub returns-then-context : goal.returns-then-context
returns-then-context g c = dead-branches _ c.args.context.now c.args.form.now c.if-context.true

pub returns-in-Jump : goal.returns-in-Jump
unfolding target_of
returns-in-Jump g c = (ap target_of c.in-Jump.is, jump_branches _ c.args.context.now c.args.form.now _ c.if-context.false c.in-Jump.is, c.if-context.false)

pub returns-then-taken : goal.returns-then-taken
returns-then-taken g c =
    sym (taken-branches _ c.args.context.now c.args.form.now _ _ _ c.if-context.false c.in-Branch.is c.taken-taken.ensures) ∙ dead-context c.taken-taken.result c.if-taken.true

pub returns-else-taken : goal.returns-else-taken
unfolding target_of
returns-else-taken g c =
    (ap target_of c.in-Branch.is, taken-branches _ c.args.context.now c.args.form.now _ _ _ c.if-context.false c.in-Branch.is c.taken-taken.ensures, c.if-taken.false)

pub returns-in_default : goal.returns-in_default
returns-in_default g c = nowhere-branches _ c.args.context.now c.args.form.now c.if-context.false c.in_default.not-Jump c.in_default.not-Branch
