use Rattle.std.proofs.Common.{◌≡◌, Option, Some, None, sym, ◌∙◌}
use Rattle.std.specs.Prelude.{IfSome}
use Rattle.ia32_code.specs.declared.instruction.Inst.{Inst}
use Rattle.code_words.specs.declared.words.Words.{Words}
use Rattle.code_words.specs.Saying.{said_of}
use Rattle.code_words.specs.Meaning.{meant_by}
use Rattle.code_words.proofs.WordsMean.{words_mean}
use Rattle.code_words.proofs.MeantSays.{meant_says}
use Rattle.code_words.proofs.meaning.meant.Goals as goal

-- An instruction that is found says the words.
found : (w : Words) (o : Option Inst) → o ≡ meant_by w → IfSome o (λ i. said_of i ≡ Some w)
found w None e = tt
found w (Some i) e = meant_says w i (sym e)

pub returns-clause-says : goal.returns-clause-says
returns-clause-says c = found c.args.words c.meant_by.result c.meant_by.ensures

pub returns-clause-means : goal.returns-clause-means
returns-clause-means c = λ i byte says. c.meant_by.ensures ∙ words_mean i c.args.words byte says
