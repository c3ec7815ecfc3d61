use Rattle.heap_changes.proofs.Beginning.{first-heap-free}
use Rattle.heap_changes.proofs.laws.first_heap_is_free.Goals as goal

pub returns : goal.returns
returns c = first-heap-free c.formed_shapes.ensures
