use Rattle.std.proofs.Common.{◌≡◌, length}
use Rattle.root_words.specs.DataArea.{marked_words}
use Rattle.root_words.proofs.data_area.MarkedWords.next.Given as goal

abbrev pub invariant-loop-mark : goal.invariant-loop-mark
invariant-loop-mark l = marked_words l.self-inside.marks.now l.self-inside.words.now ≡ l.fn.self

abbrev pub decreases-loop-mark : goal.decreases-loop-mark
decreases-loop-mark l = length l.self-inside.marks.now
