-- What begins at a place of a line: the longest token that begins there, or none.
use Rattle.std.specs.Prelude.{◌≡◌, ℕ, ◌-◌, List, length, drop, Bool, true, false, ◌&&◌, ◌==◌, Option, Some, None, if◌then◌else◌}
use Rattle.std.specs.List.{take_while}
use Rattle.std.specs.Char.{is_ascii_digit}
use Rattle.text_tokens.specs.Bytes.{is_blank, is_letter, is_name_byte, is_mark_byte, is_allowed}
use Rattle.text_tokens.specs.declared.token.Token.{Token}
use Rattle.text_tokens.specs.declared.pieces.Piece.{Piece}
use Rattle.text_tokens.specs.Token.{seen, Lexeme, Key, Register, Mnemonic, Name, Number, Mark, Bad}
use Rattle.text_tokens.specs.Words.{word_written}
use Rattle.text_tokens.specs.Numbers.{byte_or_zero, unsigned, number_token}
use Rattle.text_tokens.specs.declared.words.Word.TheVariants as word
use Rattle.text_tokens.specs.declared.pieces.Mode.{Mode}
use Rattle.text_tokens.specs.declared.pieces.Mode.TheVariants.{Line, Label, Inside, Behind, Comment}

-- a word is one of the forms' words, a register, a mnemonic or else a name
abbrev pub token_of : List ℕ → Lexeme
token_of letters = elim (word_written letters) [
  | Some w ↦ elim w [ word.Key k ↦ Key k | word.Register r ↦ Register r | word.Mnemonic m ↦ Mnemonic m ]
  | None ↦ Name letters
]

-- In a memory operand, behind a name, a register or a number, `-` is a token by itself.
abbrev pub glues : Mode → List ℕ → Bool
glues Behind bytes = false
glues _ bytes = is_ascii_digit (byte_or_zero bytes 1)

-- how to go on behind a name, a register or a number
abbrev pub behind_value : Mode → Mode
behind_value Inside = Behind
behind_value m = m

-- behind a word that is none of these
abbrev pub behind_other : Mode → Mode
behind_other Behind = Inside
behind_other m = m

-- behind letters
abbrev pub behind_word : Lexeme → Mode → Mode
behind_word (Key k) m = behind_other m
behind_word (Mnemonic x) m = behind_other m
behind_word t m = behind_value m

-- Behind a mark. A colon begins a label's lists, and a bracket elsewhere a memory operand, up to its end.
abbrev pub behind_mark : ℕ → Mode → Mode
behind_mark m Line = if m == 58 then Label else (if m == 91 then Inside else Line)
behind_mark m Inside = if m == 93 then Line else Inside
behind_mark m Behind = if m == 93 then Line else Inside
behind_mark m Label = Label
behind_mark m Comment = Comment

-- a token or nothing, how many bytes it has after the first, and how to go on
pub record PieceView : Type 0 where
  pub token : Option Lexeme
  pub more : ℕ
  pub mode : Mode

-- one byte alone
abbrev pub one_byte : Option Lexeme → Mode → PieceView
one_byte token mode = record { token = token; more = 0; mode = mode }

-- letters
abbrev pub word_piece : Mode → List ℕ → PieceView
word_piece mode bytes =
    let letters = take_while is_name_byte bytes in
    record { token = Some (token_of letters); more = length letters - 1; mode = behind_word (token_of letters) mode }

-- a number without a sign
abbrev pub number_piece : Mode → List ℕ → PieceView
number_piece mode bytes = record { token = Some (number_token false (unsigned bytes).value); more = (unsigned bytes).bytes - 1; mode = behind_value mode }

-- a number behind its `-`
abbrev pub negative_piece : Mode → List ℕ → PieceView
negative_piece mode bytes = record { token = Some (number_token true (unsigned (drop 1 bytes)).value); more = (unsigned (drop 1 bytes)).bytes; mode = behind_value mode }

-- what the first of some bytes begins, outside a comment: a blank and `;` begin nothing
unfoldable pub piece_in : Mode → ℕ → List ℕ → PieceView
piece_in mode b bytes =
    if is_blank b then one_byte None mode
    else (if b == 59 then one_byte None Comment
    else (if is_letter b then word_piece mode bytes
    else (if is_ascii_digit b then number_piece mode bytes
    else (if b == 45 && glues mode bytes then negative_piece mode bytes
    else (if is_mark_byte b then one_byte (Some (Mark b)) (behind_mark b mode)
    else one_byte (Some (Bad (if is_allowed b then 3 else 1))) mode)))))

-- what it begins in any place: a comment has no tokens, but for bytes that are not allowed
unfoldable pub piece_at : Mode → ℕ → List ℕ → PieceView
piece_at Comment b bytes = one_byte (if is_allowed b then None else Some (Bad 1)) Comment
piece_at mode b bytes = piece_in mode b bytes

-- a token of the code, if there is one
abbrev pub seen_option : Option Token → Option Lexeme
seen_option None = None
seen_option (Some t) = Some (seen t)

-- a piece of the code, without where it lies in memory
pub record IsPiece (p : Piece) (view : PieceView) : Type 0 where
  pub token : seen_option p.token ≡ view.token
  pub more : p.more ≡ view.more
  pub mode : p.mode ≡ view.mode
