-- The names among the tokens of a line are names.
use Rattle.std.proofs.Common.{◌≡◌, ℕ, zero, suc, ◌+◌, Bool, true, false, ◌||◌, cond, List, [], ◌∷◌, Option, Some, None, if◌then◌else◌, refl, ap, subst, ◌∙◌}
use Rattle.std.specs.Prelude.{◌&&◌, ◌==◌, nat_le, slice_index_or, pos, neg_ℤ}
use Rattle.std.specs.Char.{is_ascii_digit}
use Rattle.std.specs.List.{take_while, list_all}
use Rattle.std.proofs.lemmas.List.Sums.{take_while-cons}
use Rattle.text_tokens.specs.declared.pieces.Mode.{Mode}
use Rattle.text_tokens.specs.declared.pieces.Mode.TheVariants.{Line, Label, Inside, Behind, Comment}
use Rattle.text_tokens.specs.declared.words.Word.{Word}
use Rattle.text_tokens.specs.declared.words.Word.TheVariants as word
use Rattle.text_tokens.specs.Bytes.{is_blank, is_letter, is_name_byte, is_mark_byte, is_allowed}
use Rattle.text_tokens.specs.Numbers.{number_token}
use Rattle.text_tokens.specs.Token.{Lexeme, Key, Register, Mnemonic, Name, Number, Mark, Bad, PlacedLexeme, lexemes_of}
use Rattle.text_tokens.specs.Pieces.{token_of, glues, piece_in, piece_at, PieceView, one_byte, word_piece, number_piece, negative_piece, behind_mark}
use Rattle.text_tokens.specs.Words.{word_written}
use Rattle.text_tokens.specs.Lexing.{placed, tokens_from, line_tokens}
use Rattle.unit_files.specs.Conditions.{is_name}

-- a token is no name, or one that meets a test
abbrev pub NameMeets : (List ℕ → Type 0) → Lexeme → Type 0
NameMeets P (Name n) = P n
NameMeets P _ = Unit {0}

-- each name among tokens does
abbrev pub NamesMeet : (List ℕ → Type 0) → List Lexeme → Type 0
NamesMeet P [] = Unit {0}
NamesMeet P (t ∷ ts) = NameMeets P t × NamesMeet P ts

-- a name but for its length
abbrev pub HasNameLetters : List ℕ → Type 0
HasNameLetters n = is_name n ≡ true

-- ---- letters

-- What is taken while a test holds meets the test.
all_taken : (p : ℕ → Bool) (xs : List ℕ) → list_all p (take_while p xs) ≡ true
all_taken p [] = refl
all_taken p (x ∷ xs) = ap (list_all p) (take_while-cons p x xs) ∙ by_test (p x) refl (all_taken p xs)
  where
    by_test : (b : Bool) → p x ≡ b → list_all p (take_while p xs) ≡ true → list_all p (cond b (x ∷ take_while p xs) []) ≡ true
    by_test true is all = rw (is, all) refl
    by_test false is all = refl

-- A byte of names is the first that is taken.
first_taken : (b : ℕ) (bytes : List ℕ) → is_name_byte b ≡ true → take_while is_name_byte (b ∷ bytes) ≡ b ∷ take_while is_name_byte bytes
first_taken b bytes e = take_while-cons is_name_byte b bytes ∙ ap (λ c. cond c (b ∷ take_while is_name_byte bytes) []) e

-- Name bytes that begin with a letter are a name where they are no other word.
letters_spell : (b : ℕ) (word : List ℕ) → is_letter b ≡ true → slice_index_or word 0 0 ≡ b → list_all is_name_byte word ≡ true → word_written word ≡ None → HasNameLetters word
unfolding is_name
letters_spell b word letter first all none = rw (first, letter, all, none) refl

word_spelled : (b : ℕ) (bytes : List ℕ) → is_letter b ≡ true → word_written (take_while is_name_byte (b ∷ bytes)) ≡ None → HasNameLetters (take_while is_name_byte (b ∷ bytes))
word_spelled b bytes letter none =
    letters_spell b (take_while is_name_byte (b ∷ bytes)) letter
    (ap (λ xs. slice_index_or xs 0 0) (first_taken b bytes (ap (λ c. c || is_ascii_digit b) letter))) (all_taken is_name_byte (b ∷ bytes)) none

-- The token of such a word has name letters where it is a name.
word_meets : (b : ℕ) (bytes : List ℕ) → is_letter b ≡ true → NameMeets HasNameLetters (token_of (take_while is_name_byte (b ∷ bytes)))
word_meets b bytes letter = by_word (word_written (take_while is_name_byte (b ∷ bytes))) refl
  where
    by_word : (o : Option Word) → word_written (take_while is_name_byte (b ∷ bytes)) ≡ o
        → NameMeets HasNameLetters (elim o as (λ _. Lexeme) [
          | Some w ↦ elim w as (λ _. Lexeme) [ word.Key k ↦ Key k | word.Register r ↦ Register r | word.Mnemonic m ↦ Mnemonic m ]
          | None ↦ Name (take_while is_name_byte (b ∷ bytes))
        ])
    by_word None e = word_spelled b bytes letter e
    by_word (Some (word.Key k)) e = tt
    by_word (Some (word.Register r)) e = tt
    by_word (Some (word.Mnemonic m)) e = tt

-- ---- pieces

-- what a piece begins has name letters where it is a name
record PieceMeets (p : PieceView) : Type 0 where
  pub meets : (t : Lexeme) → p.token ≡ Some t → NameMeets HasNameLetters t

-- No token is no name.
no_token_meets : (p : PieceView) → p.token ≡ None → PieceMeets p
no_token_meets p none = record { meets = λ t e. absurd cc }

-- One token meets what it does.
token_meets : (p : PieceView) (s : Lexeme) → p.token ≡ Some s → NameMeets HasNameLetters s → PieceMeets p
token_meets p s is meets = record { meets = λ t e. subst (NameMeets HasNameLetters) (let same : s ≡ t = cc in same) meets }

-- A number is no name.
number_meets : (negative : Bool) (value : ℕ) → NameMeets HasNameLetters (number_token negative value)
unfolding number_token
number_meets true value = by_size (nat_le value 2147483648)
  where
    by_size : (b : Bool) → NameMeets HasNameLetters (if b then Number (neg_ℤ (pos value)) else Bad 2)
    by_size true = tt
    by_size false = tt
number_meets false value = by_size (nat_le value 4294967295)
  where
    by_size : (b : Bool) → NameMeets HasNameLetters (if b then Number (pos value) else Bad 2)
    by_size true = tt
    by_size false = tt

-- Whatever a test says.
either : (c : Bool) (p q : PieceView) → (c ≡ true → PieceMeets p) → PieceMeets q → PieceMeets (if c then p else q)
either true p q holds fails = holds refl
either false p q holds fails = fails

-- Of the pieces outside comments only a word may be a name.
in_meets : (mode : Mode) (b : ℕ) (bytes : List ℕ) → PieceMeets (piece_in mode b (b ∷ bytes))
unfolding piece_in
in_meets mode b bytes =
    either (is_blank b) _ _ (λ _. no_token_meets _ refl)
    (either (b == 59) _ _ (λ _. no_token_meets _ refl)
    (either (is_letter b) _ _ (λ letter. token_meets (word_piece mode (b ∷ bytes)) _ refl (word_meets b bytes letter))
    (either (is_ascii_digit b) _ _ (λ _. token_meets (number_piece mode (b ∷ bytes)) _ refl (number_meets false _))
    (either (b == 45 && glues mode (b ∷ bytes)) _ _ (λ _. token_meets (negative_piece mode (b ∷ bytes)) _ refl (number_meets true _))
    (either (is_mark_byte b) _ _ (λ _. token_meets (one_byte (Some (Mark b)) (behind_mark b mode)) (Mark b) refl tt)
    (token_meets (one_byte (Some (Bad (if is_allowed b then 3 else 1))) mode) _ refl tt))))))

-- Nor is what a comment has.
at_meets : (mode : Mode) (b : ℕ) (bytes : List ℕ) → PieceMeets (piece_at mode b (b ∷ bytes))
unfolding piece_at
at_meets Comment b bytes = by_test (is_allowed b)
  where
    by_test : (c : Bool) → PieceMeets (one_byte (if c then None else Some (Bad 1)) Comment)
    by_test true = no_token_meets _ refl
    by_test false = token_meets _ (Bad 1) refl tt
at_meets Line b bytes = in_meets Line b bytes
at_meets Label b bytes = in_meets Label b bytes
at_meets Inside b bytes = in_meets Inside b bytes
at_meets Behind b bytes = in_meets Behind b bytes

-- ---- lines

-- The names among the tokens from a column on.
from_meets : (skip : ℕ) (mode : Mode) (column : ℕ) (bytes : List ℕ) → NamesMeet HasNameLetters (lexemes_of (tokens_from skip mode column bytes))
unfolding tokens_from
from_meets skip mode column [] = (tt, tt)
from_meets (suc skip) mode column (b ∷ bytes) = from_meets skip mode (column + 1) bytes
from_meets zero mode column (b ∷ bytes) = by_token (piece_at mode b (b ∷ bytes)) (at_meets mode b bytes) (λ skip mode. from_meets skip mode (column + 1) bytes)
  where
    by_token : (p : PieceView) → PieceMeets p → ((skip : ℕ) (mode : Mode) → NamesMeet HasNameLetters (lexemes_of (tokens_from skip mode (column + 1) bytes)))
        → NamesMeet HasNameLetters (lexemes_of (elim p.token as (λ _. List PlacedLexeme) [
          | None ↦ tokens_from 0 p.mode (column + 1) bytes
          | Some t ↦ placed column t ∷ tokens_from p.more p.mode (column + 1) bytes
        ]))
    by_token p meets later = by_option p.token refl
      where
        by_option : (o : Option Lexeme) → p.token ≡ o
            → NamesMeet HasNameLetters (lexemes_of (elim o as (λ _. List PlacedLexeme) [
              | None ↦ tokens_from 0 p.mode (column + 1) bytes
              | Some t ↦ placed column t ∷ tokens_from p.more p.mode (column + 1) bytes
            ]))
        by_option None e = later 0 p.mode
        by_option (Some t) e = (PieceMeets.meets meets t e, later p.more p.mode)

-- The names among the tokens of a line are a letter or `_` with letters, digits and `_` behind it, and no word of assembly text.
pub line_meets : (bytes : List ℕ) → NamesMeet HasNameLetters (lexemes_of (line_tokens bytes))
line_meets bytes = from_meets 0 Line 1 bytes
