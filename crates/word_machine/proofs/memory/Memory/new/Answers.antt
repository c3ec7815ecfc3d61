use Rattle.std.proofs.Common.{◌∙◌}
use Rattle.std.proofs.lemmas.List.{length-set, length-replicate}
use Rattle.word_machine.proofs.FirstState.{first_stands}
use Rattle.word_machine.proofs.memory.Memory.new.Goals as goal

pub returns : goal.returns
returns c live =
    first_stands c.args.image.now c.formed.ensures (c.formed_shapes.ensures c.args.image.now c.formed.ensures) _ (record {
      tables = c.in_ok-table_words.ensures;
      descriptors = c.in_ok-descriptor_words.ensures;
      statics = c.in_ok-static_words.ensures;
      stacks = rw c.stacks.ensures at c.in_ok-zeros.ensures;
      heap = c.in_ok-new.ensures.formed;
      size = rw c.in_ok-new.ensures.words (length-set _ _ _ ∙ length-replicate _ _ ∙ c.heap_words.ensures);
    }) live
