use Rattle.std.proofs.Common.{None, Some, sym, ◌∙◌}
use Rattle.tal_types.specs.Kept.{context_of}
use Rattle.tal_flow.proofs.EdgeRules.{whole-rule, whole-falls}
use Rattle.tal_flow.proofs.LeastRules.{rule_least, rule_none}
use Rattle.tal_flow.proofs.flowing.pass.Goals as goal

pub returns-in-None-clause-none : goal.returns-in-None-clause-none
returns-in-None-clause-none g c =
    rule_none _ (context_of c.args.context.now) c.args.pc c.args.inst.now c.args.len
    (whole-rule _ (context_of c.args.context.now) c.args.pc c.next_address-next.result c.form_of-form.result c.args.inst.now c.args.len None
    c.next_address-next.ensures c.form_of-form.ensures (sym c.in-None.is ∙ c.pass_form.ensures.rule))

pub returns-in-None-clause-falls : goal.returns-in-None-clause-falls
returns-in-None-clause-falls g c =
    whole-falls _ (context_of c.args.context.now) c.args.pc c.next_address-next.result c.form_of-form.result c.args.inst.now c.args.len _
    c.next_address-next.ensures c.form_of-form.ensures (c.pass_form.ensures.falls c.in-None.is)

pub returns-in-Some-clause-rule : goal.returns-in-Some-clause-rule
returns-in-Some-clause-rule g c =
    rw c.rule_number.ensures
    (rule_least _ (context_of c.args.context.now) c.args.pc c.args.inst.now c.args.len _
    (whole-rule _ (context_of c.args.context.now) c.args.pc c.next_address-next.result c.form_of-form.result c.args.inst.now c.args.len (Some c.in-Some.rule)
    c.next_address-next.ensures c.form_of-form.ensures (sym c.in-Some.is ∙ c.pass_form.ensures.rule)))
