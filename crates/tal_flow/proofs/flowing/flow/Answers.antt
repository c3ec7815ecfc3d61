use Rattle.std.proofs.Common.{not, ap, sym, ◌∙◌}
use Rattle.tal_types.specs.Kept.{context_of}
use Rattle.tal_flow.specs.Forms.{form_of}
use Rattle.tal_flow.proofs.EdgeRules.{dead-of, whole-branch}
use Rattle.tal_flow.proofs.flowing.flow.Goals as goal

pub returns-clause-ok : goal.returns-clause-ok
returns-clause-ok g c = record {
  none_fails = c.in_default.ensures.none;
  falls = c.in_default.ensures.falls;
  falls_on = ap not (sym (dead-of c.pass.new.context));
  branch = whole-branch _ (context_of c.args.context.now) c.args.pc _ c.args.inst.now c.args.len _ (c.form_of-form.ensures ∙ ap (λ x. form_of x c.args.inst.now) c.next_address.ensures) c.edge.ensures;
}
