use Rattle.device_model.proofs.Grants.{grantable_is}
use Rattle.device_model.proofs.laws.granted_line.Goals as goal

pub returns : goal.returns
returns c = grantable_is
