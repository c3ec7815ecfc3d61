use Rattle.std.proofs.Common.{sym, ◌∙◌}
use Rattle.tal_types.specs.Kept.{live_of}
use Rattle.tal_flow.proofs.EdgeRules.{operand-fails, edges-decide}
use Rattle.tal_flow.proofs.Seeing.{seen-rule}
use Rattle.tal_flow.proofs.flowing.pass_live.Goals as goal

pub returns-in-Some-clause-rule : goal.returns-in-Some-clause-rule
returns-in-Some-clause-rule g c =
    sym (operand-fails _ (live_of c.args.context.now) c.args.pc c.args.next c.in-Some.rule c.args.form.now
    (sym (seen-rule _ _ c.args.pc c.args.form.now c.see-seen.result c.see-seen.ensures) ∙ sym c.operand_rule.ensures ∙ c.in-Some.is))

pub go_on-requires : goal.go_on-requires
go_on-requires g c = record {
  alive = c.requires;
  seen = c.see-seen.ensures;
  rules = sym (seen-rule _ _ c.args.pc c.args.form.now c.see-seen.result c.see-seen.ensures) ∙ sym c.operand_rule.ensures ∙ c.in_default.is;
}

pub returns-clause-rule : goal.returns-clause-rule
returns-clause-rule g c =
    c.edge_rule.ensures
    ∙ edges-decide _ (live_of c.args.context.now) c.args.pc c.args.next c.args.form.now _ _
    (sym (seen-rule _ _ c.args.pc c.args.form.now c.see-seen.result c.see-seen.ensures) ∙ sym c.operand_rule.ensures ∙ c.in_default.is)
    c.branch_fits-branch_fits.ensures c.go_on.ensures
