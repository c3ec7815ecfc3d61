use Rattle.mark_sweep.specs.Objects.{shape_word}
use Rattle.heap_allocation.proofs.laying.shape_word.Goals as goal

pub returns-in-Class : goal.returns-in-Class
unfolding shape_word
returns-in-Class c = rw c.in-Class.is c.table_address.ensures

pub returns-in-Kind : goal.returns-in-Kind
unfolding shape_word
returns-in-Kind c = rw c.in-Kind.is c.descriptor_address.ensures
