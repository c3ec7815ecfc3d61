use Rattle.ia32_code.proofs.Encoded.{canonical_spells}
use Rattle.ia32_code.proofs.encoding.len_of.Goals as goal

pub returns-in-Some-clause-spelling : goal.returns-in-Some-clause-spelling
returns-in-Some-clause-spelling c = canonical_spells c.args.inst.now c.in_range.ensures
