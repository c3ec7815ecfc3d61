use Rattle.std.proofs.Common.{[], refl}
use Rattle.tal_code.proofs.laws.no_code_leads.Goals as goal

pub returns : goal.returns
returns c m = record { condition_9 = refl; condition_10 = refl; condition_11 = refl; fixups_30 = refl; bodies = []; condition_23 = tt; code = refl; blocks = tt; marks = tt; fixups = tt }
