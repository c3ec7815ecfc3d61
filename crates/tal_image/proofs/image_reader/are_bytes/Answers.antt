use Rattle.std.proofs.Common.{arith}
use Rattle.tal_image.proofs.image_reader.are_bytes.Goals as goal

pub returns : goal.returns
returns c = λ i. omega (arith, c.type_inv.file i)
