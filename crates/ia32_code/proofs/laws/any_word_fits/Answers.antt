use Rattle.ia32_code.proofs.FilledWords.{fills}
use Rattle.ia32_code.proofs.laws.any_word_fits.Goals as goal

pub returns : goal.returns
returns c = λ place spelling filling fits e. fills place spelling filling fits e
