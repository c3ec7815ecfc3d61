use Rattle.free_index.proofs.Standing.{object_write}
use Rattle.free_index.proofs.laws.object_write_keeps_lists.Goals as goal

pub returns : goal.returns
returns c = object_write c.block_laws.ensures
