use Rattle.typed_heap.proofs.Growing.{told_collections_stand}
use Rattle.typed_heap.proofs.laws.collections_stand.Goals as goal

pub returns : goal.returns
returns c = told_collections_stand record { lie_within = c.references_lie_within.ensures; come_back = c.shapes_come_back.ensures; classes = c.formed_shapes.ensures; least = c.reach_is_least.ensures }
