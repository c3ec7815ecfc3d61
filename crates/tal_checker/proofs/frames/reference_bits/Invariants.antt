use Rattle.std.proofs.Common.{◌≡◌, ◌≤◌, length, drop}
use Rattle.tal_checker.specs.Frames.{reference_bits}
use Rattle.tal_checker.proofs.frames.reference_bits.Given as goal

abbrev pub invariant-loop-at : goal.invariant-loop-at
invariant-loop-at l = record { value : l.bits ≡ reference_bits (drop l.at l.types); within : l.at ≤ length l.types }

abbrev pub decreases-loop-at : goal.decreases-loop-at
decreases-loop-at l = l.at
