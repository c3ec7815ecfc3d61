use Rattle.std.proofs.Common.{sym, ◌∙◌, arith, below_more}
use Rattle.object_layout.proofs.Fronts.{is_front-shorter, is_front-apart, is_front-from, signature-at, length-signatures}
use Rattle.object_layout.specs.Layout.{given_rows}
use Rattle.object_layout.proofs.laying.Rows.keeps.Goals as goal

pub returns-then-inherited-methods : goal.returns-then-inherited-methods
returns-then-inherited-methods c =
    let s = given_rows c.args.self.now in
    is_front-shorter _ _ (omega (arith, length-signatures s c.args.inherited.now, length-signatures s c.args.methods.now))

pub returns-then-signature : goal.returns-then-signature
returns-then-signature c =
    let s = given_rows c.args.self.now in let slot = c.loop-slot.slot in
    let first = signature-at s c.args.inherited.now slot c.loop-slot-test.true in
    let second = signature-at s c.args.methods.now slot (omega arith) in
    is_front-apart _ _ slot
    (omega (arith, length-signatures s c.args.inherited.now))
    (λ e. c.if-signature.true (c.signature.ensures ∙ sym first ∙ e ∙ second ∙ sym c.signature-in-loop-slot.ensures))

pub loop-slot-preserved : goal.loop-slot-preserved
loop-slot-preserved c =
    let s = given_rows c.args.self.now in let slot = c.loop-slot.slot in
    let first = signature-at s c.args.inherited.now slot c.loop-slot-test.true in
    let second = signature-at s c.args.methods.now slot (omega arith) in
    below_more _ _ c.loop-slot.invariant (first ∙ sym c.signature.ensures ∙ c.if-signature.false ∙ c.signature-in-loop-slot.ensures ∙ sym second)

pub returns : goal.returns
returns c =
    let s = given_rows c.args.self.now in
    let first = length-signatures s c.args.inherited.now in
    is_front-from _ _ (omega (arith, length-signatures s c.args.methods.now)) (λ k h. c.loop-slot.invariant k (omega arith))
