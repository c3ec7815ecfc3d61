use Rattle.std.proofs.Common.{sym, ◌∙◌, arith}
use Rattle.tal_image.specs.Shown.{shown, shapes_of}
use Rattle.object_layout.specs.Classes.{table_word}
use Rattle.word_machine.proofs.FirstRows.{more_rows}
use Rattle.word_machine.proofs.memory.table_words.Goals as goal

pub overflow_mul-i-end : goal.overflow_mul-i-end
unfolding shown shapes_of
overflow_mul-i-end c = omega (arith, c.shapes-shapes.ensures.laws.few_classes)

pub unwrap-requires : goal.unwrap-requires
unfolding shown shapes_of
unwrap-requires c =
    let there = rw c.shapes-shapes.ensures.value at c.table_word-word.ensures.there in
    there.1 (omega arith, omega arith)

pub loop-i-preserved : goal.loop-i-preserved
unfolding shown shapes_of
loop-i-preserved c =
    let is = rw c.shapes-shapes.ensures.value at c.table_word-word.ensures.value in
    rw c.in_ok-push.ensures.items (more_rows (table_word (shapes_of c.args.image.now)) 64 c.loop-i.words.items c.loop-i.i c.unwrap.result c.loop-i.invariant (sym is ∙ c.unwrap.ensures))
