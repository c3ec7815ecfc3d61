use Rattle.code_words.proofs.WordsMean.{words_say_one}
use Rattle.code_words.proofs.laws.words_say_one_instruction.Goals as goal

pub returns : goal.returns
returns c = λ i j w byte_i byte_j says_i says_j. words_say_one i j w byte_i byte_j says_i says_j
