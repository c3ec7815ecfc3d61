use Rattle.std.proofs.Common.{length}
use Rattle.unit_files.proofs.Reading.Words.{TableLeft}
use Rattle.unit_files.proofs.code_places.code_table.Given as goal

abbrev pub invariant-loop-text : goal.invariant-loop-text
invariant-loop-text l = TableLeft l.code l.table.items l.rest

abbrev pub decreases-loop-text : goal.decreases-loop-text
decreases-loop-text l = length l.rest
