use Rattle.mark_sweep.proofs.Steps.{listing_first, listing_placed, listing_step, scanned_first}
use Rattle.mark_sweep.proofs.marking.mark_listed.Goals as goal

pub roots-init : goal.roots-init
roots-init g c = listing_first _ _ c.requires.formed c.requires.white

pub mark_word-first-requires-clause-placed : goal.mark_word-first-requires-clause-placed
mark_word-first-requires-clause-placed g c = listing_placed _ _ _ _ _ _ _ c.roots.invariant c.requires.placed c.in-Some.ensures

pub roots-preserved : goal.roots-preserved
roots-preserved g c = listing_step _ _ _ _ _ _ _ _ _ c.roots.invariant c.in-Some.ensures c.mark_word-first.ensures.marks c.mark_word-first.ensures.formed

pub returns-clause-waits : goal.returns-clause-waits
returns-clause-waits g c = λ s a. scanned_first _ _ _ _ _ _ (c.roots.invariant.rooted s a) c.in_default.ensures
