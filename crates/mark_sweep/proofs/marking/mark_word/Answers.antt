use Rattle.std.proofs.Common.{refl, sym, ◌∙◌}
use Rattle.mark_sweep.proofs.Keeping.{pushed}
use Rattle.mark_sweep.proofs.Steps.{named_block, named-high, skips, pushes}
use Rattle.mark_sweep.proofs.marking.mark_word.Goals as goal

pub overflow_sub-at-2 : goal.overflow_sub-at-2
overflow_sub-at-2 c = named-high _ _ c.requires.placed c.if-word-lt-HEAP_START.false

pub marked-requires : goal.marked-requires
marked-requires c = (named_block _ _ c.requires.placed c.if-word-lt-HEAP_START.false).1

pub returns-then-marked-clause-marks : goal.returns-then-marked-clause-marks
returns-then-marked-clause-marks c = skips _ _ _ c.requires.placed c.if-word-lt-HEAP_START.false (sym c.marked.ensures ∙ c.if-marked.true)

pub set_marked-requires : goal.set_marked-requires
set_marked-requires c = (named_block _ _ c.requires.placed c.if-word-lt-HEAP_START.false).1

pub set_link-requires : goal.set_link-requires
set_link-requires c = c.set_marked.ensures.same.forth _ (named_block _ _ c.requires.placed c.if-word-lt-HEAP_START.false).1

pub returns-clause-marks : goal.returns-clause-marks
returns-clause-marks c =
    pushes _ _ _ _ _ c.requires.placed c.if-word-lt-HEAP_START.false
    (pushed c.block_laws.ensures _ _ _ _ _ _ c.requires.formed (named_block _ _ c.requires.placed c.if-word-lt-HEAP_START.false).1
    (sym c.marked.ensures ∙ c.if-marked.false) c.set_marked.ensures.words c.set_marked.ensures.same
    c.set_marked.ensures.used c.set_marked.ensures.marked c.set_link.ensures.words c.set_link.ensures.same c.set_marked.ensures.formed) refl
