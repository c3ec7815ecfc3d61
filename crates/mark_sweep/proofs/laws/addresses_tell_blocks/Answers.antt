use Rattle.mark_sweep.proofs.Addresses.{address-apart, address-high}
use Rattle.mark_sweep.proofs.laws.addresses_tell_blocks.Goals as goal

pub returns-clause-apart : goal.returns-clause-apart
returns-clause-apart c = address-apart

pub returns-clause-in_heap : goal.returns-clause-in_heap
returns-clause-in_heap c = address-high
