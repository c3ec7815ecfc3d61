use Rattle.tal_types.proofs.Orders.{all_sub-lengths, all_sub-apart, all_sub-from, all_sub-more}
use Rattle.std.proofs.Common.{sym, ◌∙◌, arith}
use Rattle.tal_types.proofs.order.all_sub.Goals as goal

pub returns-then-ts-us : goal.returns-then-ts-us
returns-then-ts-us c = all_sub-lengths _ _ _ c.if-ts-us.true

pub returns-then-not-sub : goal.returns-then-not-sub
returns-then-not-sub c = all_sub-apart _ _ _ c.loop-i.i _ _ c.loop-i-test.true (sym c.sub.ensures ∙ c.if-not-sub.true)

pub loop-i-preserved : goal.loop-i-preserved
loop-i-preserved c =
    all_sub-more _ _ _ c.loop-i.i c.loop-i.invariant c.loop-i-test.true (omega arith) _ _ (sym c.sub.ensures ∙ c.if-not-sub.false)

pub returns : goal.returns
returns c = all_sub-from _ _ _ c.if-ts-us.false (λ k d e l. c.loop-i.invariant k d e (omega arith))
