use Rattle.tal_checker.proofs.StrongestLaw.{esp_is_junk}
use Rattle.tal_checker.proofs.laws.esp_is_junk.Goals as goal

pub returns : goal.returns
returns c = esp_is_junk c.strongest_decides.ensures c.esp_is_junk.ensures
