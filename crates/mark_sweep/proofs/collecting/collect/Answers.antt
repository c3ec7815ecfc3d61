use Rattle.mark_sweep.proofs.Collects.{all_good_kept, collects, keeps-only, apart-only}
use Rattle.mark_sweep.proofs.Keeping.{blocks-sym}
use Rattle.mark_sweep.proofs.Sweeps.{keeps-trans}
use Rattle.mark_sweep.proofs.collecting.collect.Goals as goal

pub mark-requires-clause-good : goal.mark-requires-clause-good
mark-requires-clause-good g c =
    all_good_kept c.block_laws.ensures _ _ _ _
    (c.block_laws.ensures.headers.formed _ _ (blocks-sym _ _ c.clear_marks.ensures.kept.blocks) c.clear_marks.ensures.formed) c.clear_marks.ensures.kept c.requires.good

pub returns-clause-collected : goal.returns-clause-collected
returns-clause-collected g c =
    collects _ _ _ _ _ _ _ c.clear_marks.ensures.kept c.mark.ensures.marks c.sweep.ensures.swept c.sweep.ensures.formed
    (keeps-trans _ _ _ c.merge.ensures.kept (keeps-only c.link_laws.ensures _ _ c.merge.ensures.formed c.rebuild.ensures.only))
    (apart-only c.link_laws.ensures _ _ c.rebuild.ensures.only c.merge.ensures.apart)

pub returns-clause-used : goal.returns-clause-used
returns-clause-used g c = (returns-clause-collected g c).used

pub returns-clause-sizes : goal.returns-clause-sizes
returns-clause-sizes g c = (returns-clause-collected g c).sizes

pub returns-clause-words : goal.returns-clause-words
returns-clause-words g c = (returns-clause-collected g c).words

pub returns-clause-size : goal.returns-clause-size
returns-clause-size g c = (returns-clause-collected g c).size

pub returns-clause-apart : goal.returns-clause-apart
returns-clause-apart g c = (returns-clause-collected g c).apart
