-- Each word is found by its letters.
use Rattle.std.proofs.Common.{◌≡◌, Some, refl}
use Rattle.ia32_code.specs.declared.instruction.Reg.{Reg}
use Rattle.ia32_code.specs.declared.instruction.Reg.TheVariants.{Eax}
use Rattle.ia32_code.specs.declared.instruction.Alu.TheVariants.{Add}
use Rattle.ia32_code.specs.declared.instruction.Shift.TheVariants.{Shl}
use Rattle.ia32_code.specs.declared.instruction.Cond.TheVariants.{O}
use Rattle.code_words.specs.declared.words.Mnemonic.{Mnemonic}
use Rattle.code_words.specs.declared.words.Mnemonic.TheVariants as m
use Rattle.text_tokens.specs.declared.token.Keyword.{Keyword}
use Rattle.text_tokens.specs.declared.token.Keyword.TheVariants as key
use Rattle.text_tokens.specs.declared.words.Word.{Word}
use Rattle.text_tokens.specs.declared.words.Word.TheVariants as word
use Rattle.text_tokens.specs.Words.{word_letters, word_written, first_written}
use Rattle.text_tokens.specs.Laws.{EachWordIsFound}

-- each keyword, by comparing its letters with the table
keyword_found : (k : Keyword) → word_written (word_letters (word.Key k)) ≡ Some (word.Key k)
unfolding word_written first_written
keyword_found key.Heap = refl
keyword_found _ = refl

-- each register
register_found : (r : Reg) → word_written (word_letters (word.Register r)) ≡ Some (word.Register r)
unfolding word_written first_written
register_found Eax = refl
register_found _ = refl

-- each mnemonic
mnemonic_found : (x : Mnemonic) → word_written (word_letters (word.Mnemonic x)) ≡ Some (word.Mnemonic x)
unfolding word_written first_written
mnemonic_found (m.Alu Add) = refl
mnemonic_found (m.Shift Shl) = refl
mnemonic_found (m.Jcc O) = refl
mnemonic_found _ = refl

pub words_found : EachWordIsFound
words_found (word.Key k) = keyword_found k
words_found (word.Register r) = register_found r
words_found (word.Mnemonic x) = mnemonic_found x
