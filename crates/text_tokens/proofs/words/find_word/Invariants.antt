use Rattle.std.proofs.Common.{◌≡◌, drop}
use Rattle.text_tokens.specs.Words.{first_written}
use Rattle.text_tokens.proofs.words.find_word.Given as goal

abbrev pub invariant-loop-word : goal.invariant-loop-word
invariant-loop-word l = first_written (drop l.word-index l.words) l.letters ≡ first_written l.fn.words l.fn.letters
