use Rattle.heap_allocation.proofs.Gaps.{gap_clear}
use Rattle.heap_allocation.proofs.laws.gaps_are_clear.Goals as goal

pub returns : goal.returns
returns c = gap_clear
