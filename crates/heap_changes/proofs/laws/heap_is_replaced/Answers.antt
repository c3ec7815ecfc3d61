use Rattle.heap_changes.proofs.Replacing.{heap_replaced}
use Rattle.heap_changes.proofs.laws.heap_is_replaced.Goals as goal

pub returns : goal.returns
returns c = heap_replaced c.block_laws.ensures c.formed_shapes.ensures
