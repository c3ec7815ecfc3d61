-- The words that are no names.
use Rattle.std.specs.Prelude.{ℕ, List, [], ◌∷◌, Option, Some, None, codes, if◌then◌else◌}
use Rattle.std.specs.Str.{bytes_eq}
use Rattle.code_words.specs.Texts.{register_text, mnemonic_text}
use Rattle.text_tokens.specs.declared.token.Keyword.{Keyword}
use Rattle.text_tokens.specs.declared.token.Keyword.TheVariants as key
use Rattle.text_tokens.specs.declared.words.Word.{Word}
use Rattle.text_tokens.specs.declared.words.Word.TheVariants.{Key, Register, Mnemonic}
use Rattle.text_tokens.specs.declared.words.TheConstants.{WORDS}

-- the letters of the words of line forms, of types and of operands
abbrev pub keyword_text : Keyword → List ℕ
keyword_text key.Heap = codes "heap"
keyword_text key.Stacks = codes "stacks"
keyword_text key.Entry = codes "entry"
keyword_text key.Sig = codes "sig"
keyword_text key.Kind = codes "kind"
keyword_text key.Static = codes "static"
keyword_text key.Data = codes "data"
keyword_text key.Class = codes "class"
keyword_text key.Below = codes "below"
keyword_text key.Field = codes "field"
keyword_text key.Method = codes "method"
keyword_text key.Func = codes "func"
keyword_text key.End = codes "end"
keyword_text key.Extern = codes "extern"
keyword_text key.Num = codes "num"
keyword_text key.Ref = codes "ref"
keyword_text key.Obj = codes "obj"
keyword_text key.ArrRef = codes "arrref"
keyword_text key.Arr = codes "arr"
keyword_text key.Fun = codes "fun"
keyword_text key.Code = codes "code"
keyword_text key.Tab = codes "tab"
keyword_text key.Desc = codes "desc"
keyword_text key.Junk = codes "junk"
keyword_text key.Null = codes "null"
keyword_text key.Display = codes "display"
keyword_text key.Nucleus = codes "nucleus"
keyword_text key.Cl = codes "cl"

-- the letters of a word
abbrev pub word_letters : Word → List ℕ
word_letters (Key k) = keyword_text k
word_letters (Register r) = register_text r
word_letters (Mnemonic m) = mnemonic_text m

-- the first of some words that is written so
unfoldable pub first_written : List Word → List ℕ → Option Word
first_written [] letters = None
first_written (w ∷ ws) letters = if bytes_eq (word_letters w) letters then Some w else first_written ws letters

-- the word that is written so
unfoldable pub word_written : List ℕ → Option Word
word_written letters = first_written WORDS letters
