use Rattle.heap_changes.proofs.Within.{states_keep}
use Rattle.heap_changes.proofs.laws.states_keep_words.Goals as goal

pub returns : goal.returns
returns c = states_keep
