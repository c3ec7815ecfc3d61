use Rattle.std.proofs.Common.{arith}
use Rattle.tal_image.specs.Image.{parts_of}
use Rattle.tal_image.proofs.Finding.KeptRows.{functions_hold, arrays_hold}
use Rattle.tal_image.proofs.image.Image.of.Goals as goal

pub fun_rows-requires : goal.fun_rows-requires
fun_rows-requires c = rw c.deref.ensures.value (functions_hold (parts_of c.args.rows) c.requires)

pub array_offsets-requires : goal.array_offsets-requires
array_offsets-requires c = let few = arrays_hold (parts_of c.args.rows) c.requires in rw c.deref-2.ensures.value (omega arith)
