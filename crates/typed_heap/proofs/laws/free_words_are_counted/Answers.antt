use Rattle.typed_heap.proofs.Counting.{free-words_counted}
use Rattle.typed_heap.proofs.laws.free_words_are_counted.Goals as goal

pub returns : goal.returns
returns c = free-words_counted record { lie_within = c.references_lie_within.ensures; come_back = c.shapes_come_back.ensures; classes = c.formed_shapes.ensures; least = c.reach_is_least.ensures }
