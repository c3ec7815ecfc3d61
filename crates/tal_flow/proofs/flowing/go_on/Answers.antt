use Rattle.std.proofs.Common.{◌∙◌}
use Rattle.tal_types.specs.Kept.{live_of, context_of}
use Rattle.tal_flow.proofs.EdgeRules.{refined, left-falls, branch-falls, nothing-falls}
use Rattle.tal_flow.proofs.Seeing.{seen-may}
use Rattle.tal_flow.proofs.flowing.go_on.Goals as goal

pub step-requires : goal.step-requires
step-requires g c = let may = seen-may _ _ c.args.pc c.args.form.now c.args.seen.now c.requires.seen c.requires.rules in record { rules = may.0; stored = may.1 }

pub returns-in-Branch : goal.returns-in-Branch
returns-in-Branch g c =
    branch-falls _ (live_of c.args.context.now) c.args.pc c.args.form.now _ _ _ c.in-Branch.is
    (c.refine.ensures ∙ refined _ _ _ c.args.context.now.kind _ _ c.shapes.ensures.value c.told_by_fall.ensures)

pub returns-in-Return : goal.returns-in-Return
unfolding context_of
returns-in-Return g c = nothing-falls _ (live_of c.args.context.now) c.args.pc c.args.form.now c.in-Return.is

pub returns-in_default : goal.returns-in_default
returns-in_default g c =
    left-falls _ (live_of c.args.context.now) c.args.pc c.args.form.now c.args.seen.now c.step.new.context (c.step.ensures.dead ∙ c.requires.alive) c.step.ensures.known c.requires.seen
    c.in_default.not-Return c.in_default.not-Jump c.in_default.not-Branch
