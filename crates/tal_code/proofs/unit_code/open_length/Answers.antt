use Rattle.std.proofs.Common.{length, sym, ap, ◌∙◌}
use Rattle.tal_code.proofs.Zeroes.{length-open_bytes}
use Rattle.tal_code.proofs.unit_code.open_length.Goals as goal

pub returns-clause-bytes : goal.returns-clause-bytes
returns-clause-bytes c = ap length c.bytes.ensures.bytes ∙ sym (length-open_bytes c.args.holed.now c.requires)
