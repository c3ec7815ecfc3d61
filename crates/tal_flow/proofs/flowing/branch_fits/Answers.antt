use Rattle.tal_types.specs.Kept.{live_of}
use Rattle.tal_flow.proofs.EdgeRules.{jump_fits, taken-fits, elsewhere_fits}
use Rattle.tal_flow.proofs.flowing.branch_fits.Goals as goal

pub returns-in-Jump : goal.returns-in-Jump
returns-in-Jump g c = jump_fits (g.V.ImageView.shown c.args.image.now) c.args.context.now c.args.form.now _ c.fits.result c.requires c.in-Jump.is c.fits.ensures

pub returns-in-Branch : goal.returns-in-Branch
returns-in-Branch g c = taken-fits (g.V.ImageView.shown c.args.image.now) c.args.context.now c.args.form.now _ _ _ _ c.in-Branch.is c.taken.ensures c.fits-in-Branch.ensures

pub returns-in_default : goal.returns-in_default
returns-in_default g c = elsewhere_fits (g.V.ImageView.shown c.args.image.now) (live_of c.args.context.now) c.args.form.now c.in_default.not-Jump c.in_default.not-Branch
