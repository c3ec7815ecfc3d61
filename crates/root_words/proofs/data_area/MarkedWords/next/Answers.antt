use Rattle.std.proofs.Common.{sym, ◌∙◌}
use Rattle.root_words.proofs.Steps.{marked-short}
use Rattle.root_words.proofs.data_area.MarkedWords.next.Goals as goal

pub returns-in-None : goal.returns-in-None
returns-in-None c = (sym c.loop-mark.invariant ∙ marked-short _ _ c.in-None.ensures.cases, marked-short _ _ c.in-None.ensures.cases)
