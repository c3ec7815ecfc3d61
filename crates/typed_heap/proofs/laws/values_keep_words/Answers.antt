use Rattle.typed_heap.proofs.Growing.{values-keep_words}
use Rattle.typed_heap.proofs.laws.values_keep_words.Goals as goal

pub returns : goal.returns
returns c = values-keep_words
