use Rattle.std.proofs.Common.{arith}
use Rattle.unit_files.proofs.unit_reader.are_bytes.Goals as goal

pub returns : goal.returns
returns c = λ i. omega (arith, c.type_inv.file i)
