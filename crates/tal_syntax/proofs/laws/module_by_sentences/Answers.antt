use Rattle.tal_syntax.proofs.ModuleLaws.{text_is, text_said}
use Rattle.tal_syntax.proofs.laws.module_by_sentences.Goals as goal

pub returns : goal.returns
returns c = λ bytes found. (text_is bytes found, text_said bytes found)
