-- What the table of words keeps.
use Rattle.std.specs.Prelude.{◌≡◌, Some}
use Rattle.text_tokens.specs.declared.words.Word.{Word}
use Rattle.text_tokens.specs.Words.{word_letters, word_written}

-- each word is found by its letters: none is missing, and no two are written the same
abbrev pub EachWordIsFound : Type 0
EachWordIsFound = (word : Word) → word_written (word_letters word) ≡ Some word
