use Rattle.tal_flow.proofs.JunkEsp.{at-esp}
use Rattle.tal_flow.proofs.laws.esp_is_junk.Goals as goal

pub returns : goal.returns
returns c = at-esp c.type_laws.ensures
