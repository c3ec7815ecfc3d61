use Rattle.typed_heap.proofs.Reaching.{words-agree}
use Rattle.typed_heap.proofs.laws.words_agree.Goals as goal

pub returns : goal.returns
returns c = words-agree record { lie_within = c.references_lie_within.ensures; come_back = c.shapes_come_back.ensures; classes = c.formed_shapes.ensures; least = c.reach_is_least.ensures }
