use Rattle.typed_heap.proofs.Rooting.{roots-refer}
use Rattle.typed_heap.proofs.laws.typed_roots_refer.Goals as goal

pub returns : goal.returns
returns c = roots-refer
