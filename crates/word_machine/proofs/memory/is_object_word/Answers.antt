use Rattle.std.specs.Prelude.{nat_le, ◌&&◌}
use Rattle.std.proofs.Common.{◌+◌, sym, ◌∙◌, ap}
use Rattle.word_machine.proofs.Heaps.{object_test}
use Rattle.word_machine.proofs.memory.is_object_word.Goals as goal

pub returns-then-used : goal.returns-then-used
returns-then-used c =
    let block = c.block_with-at in
    let test = object_test c.heap_lawful.ensures c.args.heap.now block.ensures.formed block.result c.args.index block.ensures.begins block.ensures.behind block.ensures.before in
    sym (test ∙ ap (λ b. b && nat_le (block.result + 2) c.args.index) (sym c.used.ensures ∙ c.if-used.true))

pub returns-else-used : goal.returns-else-used
returns-else-used c =
    let block = c.block_with-at in
    let test = object_test c.heap_lawful.ensures c.args.heap.now block.ensures.formed block.result c.args.index block.ensures.begins block.ensures.behind block.ensures.before in
    c.if-used.false ∙ sym (test ∙ ap (λ b. b && nat_le (block.result + 2) c.args.index) (sym c.used.ensures ∙ c.if-used.false))
