use Rattle.std.proofs.Common.{◌≡◌, true, false, arith}
use Rattle.tal_flow.proofs.EdgeRules.{dead-rule, dead-falls, live-rule, live-falls}
use Rattle.tal_flow.proofs.flowing.pass_form.Goals as goal

pub returns-then-not-context-clause-rule : goal.returns-then-not-context-clause-rule
returns-then-not-context-clause-rule g c =
    let t = c.if-not-context.true in
    let e : c.args.context.now.dead ≡ false = grind arith in
    live-rule _ c.args.context.now c.args.pc c.args.next c.args.form.now _ e c.pass_live.ensures.rule

pub returns-then-not-context-clause-falls : goal.returns-then-not-context-clause-falls
returns-then-not-context-clause-falls g c = λ none.
    let t = c.if-not-context.true in
    let e : c.args.context.now.dead ≡ false = grind arith in
    live-falls _ c.args.context.now c.args.pc c.args.form.now _ e (c.pass_live.ensures.falls none)

pub returns-then-is_refused-clause-rule : goal.returns-then-is_refused-clause-rule
returns-then-is_refused-clause-rule g c =
    let t = c.if-not-context.false in
    let e : c.args.context.now.dead ≡ true = grind arith in
    let u = c.if-is_refused.true in
    let r = c.is_refused.ensures in
    dead-rule _ c.args.context.now c.args.pc c.args.next c.args.form.now true e (grind arith)

pub returns-clause-rule : goal.returns-clause-rule
returns-clause-rule g c =
    let t = c.if-not-context.false in
    let e : c.args.context.now.dead ≡ true = grind arith in
    let u = c.if-is_refused.false in
    let r = c.is_refused.ensures in
    dead-rule _ c.args.context.now c.args.pc c.args.next c.args.form.now false e (grind arith)

pub returns-clause-falls : goal.returns-clause-falls
returns-clause-falls g c = λ none.
    let t = c.if-not-context.false in
    let e : c.args.context.now.dead ≡ true = grind arith in
    dead-falls _ c.args.context.now c.args.pc c.args.form.now e
