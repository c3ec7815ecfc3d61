use Rattle.device_model.proofs.Counts.{awaited_first, awaited_steps}
use Rattle.device_model.proofs.laws.awaited_bytes.Goals as goal

pub returns : goal.returns
returns c = record { first = awaited_first; next = awaited_steps }
