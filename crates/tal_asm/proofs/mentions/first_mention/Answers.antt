use Rattle.std.proofs.Common.{sym, ◌∙◌}
use Rattle.tal_asm.proofs.Mentioned.{first_here, first_behind}
use Rattle.tal_asm.proofs.mentions.first_mention.Goals as goal

pub returns-then-mentions : goal.returns-then-mentions
returns-then-mentions c = sym (first_here _ _ _ _ c.loop-line-test.true c.line-item.is (sym c.mentions.ensures ∙ c.if-mentions.true)) ∙ c.loop-line.invariant

pub loop-line-preserved : goal.loop-line-preserved
loop-line-preserved c = sym (first_behind _ _ _ _ c.loop-line-test.true c.line-item.is (sym c.mentions.ensures ∙ c.if-mentions.false)) ∙ c.loop-line.invariant
