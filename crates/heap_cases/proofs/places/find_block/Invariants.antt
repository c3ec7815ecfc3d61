use Rattle.std.proofs.Common.{◌-◌, ◌≤◌}
use Rattle.heap_words.specs.Blocks.{Begins}
use Rattle.heap_cases.proofs.places.find_block.Given as goal

abbrev pub invariant-loop-next : goal.invariant-loop-next
invariant-loop-next l = record { begins : Begins l.heap l.at; behind : l.at ≤ l.i }

abbrev pub decreases-loop-next : goal.decreases-loop-next
decreases-loop-next l = l.size - l.at
