use Rattle.object_layout.specs.Classes.{table_word}
use Rattle.tal_image.specs.Shown.{shapes_of}
use Rattle.word_machine.proofs.FirstRows.{AreRows}
use Rattle.word_machine.proofs.memory.table_words.Given as goal

abbrev pub invariant-loop-i : goal.invariant-loop-i
invariant-loop-i l = AreRows (table_word (shapes_of l.image)) 64 l.words.items l.i
