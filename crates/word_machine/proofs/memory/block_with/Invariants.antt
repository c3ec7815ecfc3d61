use Rattle.std.proofs.Common.{◌≤◌, ◌-◌}
use Rattle.heap_words.specs.Blocks.{Begins}
use Rattle.word_machine.proofs.memory.block_with.Given as goal

abbrev pub invariant-loop-at : goal.invariant-loop-at
invariant-loop-at l = record { begins : Begins l.heap l.at; behind : l.at ≤ l.index }

abbrev pub decreases-loop-at : goal.decreases-loop-at
decreases-loop-at l = l.index - l.at
