use Rattle.std.proofs.Common.{ℕ, ◌<◌, slice_index}
use Rattle.mark_sweep.specs.Reached.{IsGood}
use Rattle.heap_cases.proofs.good_roots.are_good.Given as goal

-- the words before this one are good
abbrev pub invariant-loop-word : goal.invariant-loop-word
invariant-loop-word l = (k : ℕ) → k < l.word-index → IsGood l.shapes l.heap (slice_index l.words k)
