use Rattle.mark_sweep.specs.Marking.{Scanning}
use Rattle.mark_sweep.proofs.marking.scan.Given as goal

abbrev pub invariant-words : goal.invariant-words
invariant-words l = Scanning l.shapes l.fn.heap l.at l.next l.k l.heap l.first
