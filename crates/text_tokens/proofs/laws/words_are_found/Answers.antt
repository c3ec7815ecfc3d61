use Rattle.text_tokens.proofs.WordTable.{words_found}
use Rattle.text_tokens.proofs.laws.words_are_found.Goals as goal

pub returns : goal.returns
returns c = words_found
