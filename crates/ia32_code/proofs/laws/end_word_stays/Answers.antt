use Rattle.ia32_code.proofs.FilledWords.{end_stays}
use Rattle.ia32_code.proofs.laws.end_word_stays.Goals as goal

pub returns : goal.returns
returns c = λ spelling inner outer word fits h k. end_stays spelling inner outer word fits h k
