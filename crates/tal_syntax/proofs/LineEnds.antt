-- The line's end is a line's last token and no other, and the last token of each sentence.
use Rattle.std.proofs.Common.{◌≡◌, ℕ, zero, suc, ◌+◌, Bool, true, false, cond, drop, List, [], ◌∷◌, ◌++◌, Option, Some, None, refl, sym, ap, ◌∙◌, append_assoc}
use Rattle.std.specs.Prelude.{ℤ, pos, neg_ℤ, nat_le, ◌==◌, ◌&&◌}
use Rattle.std.specs.List.{take_while}
use Rattle.std.specs.Char.{is_ascii_digit}
use Rattle.text_tokens.specs.Bytes.{is_blank, is_letter, is_name_byte, is_mark_byte, is_allowed}
use Rattle.text_tokens.specs.Token.{Lexeme, Key, Register, Mnemonic, Name, Number, Bad, EndOfLine, PlacedLexeme, lexemes_of}
use Rattle.text_tokens.specs.Lexing.{placed, tokens_from, line_tokens}
use Rattle.text_tokens.specs.Pieces.{PieceView, piece_in, piece_at, token_of, glues}
use Rattle.text_tokens.specs.Numbers.{number_token, unsigned}
use Rattle.text_tokens.specs.Words.{word_written}
use Rattle.text_tokens.specs.declared.words.Word.{Word}
use Rattle.text_tokens.specs.declared.words.Word.TheVariants as word
use Rattle.text_tokens.specs.declared.pieces.Mode.{Mode}
use Rattle.text_tokens.specs.declared.pieces.Mode.TheVariants.{Line, Comment}
use Rattle.tal_syntax.specs.declared.form.Form.{Form}
use Rattle.tal_syntax.specs.declared.form.Form.TheVariants as form
use Rattle.tal_syntax.specs.declared.form.Scope.{Scope}
use Rattle.tal_syntax.specs.declared.form.Scope.TheVariants.{Outside, InClass, InFunc}
use Rattle.tal_syntax.specs.declared.form.TypeText.{TypeText}
use Rattle.tal_syntax.specs.declared.form.Arg.{Arg}
use Rattle.tal_syntax.specs.declared.instructions.Operands.{Operands}
use Rattle.tal_syntax.specs.declared.instructions.Operands.TheVariants as operands
use Rattle.tal_syntax.specs.Operands.{operands_of}
use Rattle.tal_syntax.specs.Sentences.{Joined, ◌⊕◌}
use Rattle.tal_syntax.specs.Grammar.{end_lexeme, parent_says, numbers_says, slots_says, alone_says, pair_says, up_to_three_say, none_says, args_say, outside_says, member_says, code_says, form_says}

-- ---- tokens of a line

-- no token of the line's end
abbrev IsPlain : Lexeme → Type 0
IsPlain EndOfLine = ⊥
IsPlain _ = Unit {0}

abbrev BringsPlain : Option Lexeme → Type 0
BringsPlain None = Unit {0}
BringsPlain (Some t) = IsPlain t

-- a choice brings what its branches do
either : (r : Bool) (x y : PieceView) → BringsPlain x.token → BringsPlain y.token → BringsPlain (cond r x y).token
either true x y p q = p
either false x y p q = q

-- a word is no line's end,
word_plain : (o : Option Word) (letters : List ℕ) → IsPlain (elim o [ Some w ↦ elim w [ word.Key k ↦ Key k | word.Register r ↦ Register r | word.Mnemonic m ↦ Mnemonic m ] | None ↦ Name letters ])
word_plain None letters = tt
word_plain (Some (word.Key k)) letters = tt
word_plain (Some (word.Register r)) letters = tt
word_plain (Some (word.Mnemonic m)) letters = tt

-- nor are letters,
token_plain : (letters : List ℕ) → IsPlain (token_of letters)
token_plain letters = word_plain (word_written letters) letters

-- nor is a number in range or out of it,
number_plain : (r : Bool) (n : ℤ) → IsPlain (cond r (Number n) (Bad 2))
number_plain true n = tt
number_plain false n = tt

-- with a sign or without,
signed_plain : (negative : Bool) (value : ℕ) → IsPlain (number_token negative value)
unfolding number_token
signed_plain true value = number_plain (nat_le value 2147483648) (neg_ℤ (pos value))
signed_plain false value = number_plain (nat_le value 4294967295) (pos value)

-- nor anything that a byte begins,
piece_plain : (mode : Mode) (b : ℕ) (bytes : List ℕ) → BringsPlain (piece_in mode b bytes).token
unfolding piece_in
piece_plain mode b bytes =
    either (is_blank b) _ _ tt
    (either (b == 59) _ _ tt
    (either (is_letter b) _ _ (token_plain (take_while is_name_byte bytes))
    (either (is_ascii_digit b) _ _ (signed_plain false (unsigned bytes).value)
    (either (b == 45 && glues mode bytes) _ _ (signed_plain true (unsigned (drop 1 bytes)).value)
    (either (is_mark_byte b) _ _ tt tt)))))

-- a byte of a comment,
comment_plain : (r : Bool) → BringsPlain (cond r None (Some (Bad 1)))
comment_plain true = tt
comment_plain false = tt

-- in any place
some_plain : (mode : Mode) (b : ℕ) (bytes : List ℕ) → BringsPlain (piece_at mode b bytes).token
unfolding piece_at
some_plain Comment b bytes = comment_plain (is_allowed b)
some_plain mode b bytes = piece_plain mode b bytes

-- the line's end stands last, and nowhere else
abbrev pub EndsOnce : List Lexeme → Type 0
EndsOnce [] = ⊥
EndsOnce (EndOfLine ∷ ts) = ts ≡ []
EndsOnce (t ∷ ts) = EndsOnce ts

-- a token before tokens that end once
ends_behind_plain : (t : Lexeme) (ts : List Lexeme) → IsPlain t → EndsOnce ts → EndsOnce (t ∷ ts)
ends_behind_plain EndOfLine ts p e = absurd p
ends_behind_plain t ts p e = e

-- a token or none before them
ends_after : (o : Option Lexeme) (column : ℕ) (here there : List PlacedLexeme) → BringsPlain o → EndsOnce (lexemes_of here) → EndsOnce (lexemes_of there) → EndsOnce (lexemes_of (elim o [ None ↦ here | Some t ↦ placed column t ∷ there ]))
ends_after None column here there p e f = e
ends_after (Some t) column here there p e f = ends_behind_plain t (lexemes_of there) p f

-- the tokens from any place on end once
tokens_end : (skip : ℕ) (mode : Mode) (column : ℕ) (bytes : List ℕ) → EndsOnce (lexemes_of (tokens_from skip mode column bytes))
unfolding tokens_from
tokens_end zero mode column [] = refl
tokens_end (suc skip) mode column [] = refl
tokens_end (suc skip) mode column (b ∷ bytes) = tokens_end skip mode (column + 1) bytes
tokens_end zero mode column (b ∷ bytes) =
    let piece = piece_at mode b (b ∷ bytes) in
    ends_after piece.token column _ _ (some_plain mode b (b ∷ bytes)) (tokens_end 0 piece.mode (column + 1) bytes) (tokens_end piece.more piece.mode (column + 1) bytes)

-- the tokens of a line end once
pub line_ends : (bytes : List ℕ) → EndsOnce (lexemes_of (line_tokens bytes))
line_ends bytes = tokens_end 0 Line 1 bytes

-- there is something
not_none : (front rest : List Lexeme) → (front ++ EndOfLine ∷ []) ++ rest ≡ [] → ⊥
not_none [] rest e = cc
not_none (t ∷ front) rest e = cc

-- nothing stands behind the line's end
pub none_behind : (front rest : List Lexeme) → EndsOnce ((front ++ EndOfLine ∷ []) ++ rest) → rest ≡ []
none_behind [] rest e = e
none_behind (EndOfLine ∷ front) rest e = absurd (not_none front rest e)
none_behind (t ∷ front) rest e = none_behind front rest e

-- ---- sentences

-- tokens whose last is the line's end
pub record Ends (ts : List Lexeme) : Type 0 where
  pub front : List Lexeme
  pub parts : ts ≡ front ++ EndOfLine ∷ []

-- the line's end alone
ended : {ts : List Lexeme} → end_lexeme ts → Ends ts
ended s = record { front = []; parts = s }

-- a sentence before one that ends
behind : {L M : List Lexeme → Type 0} {ts : List Lexeme} (s : Joined L M ts) → Ends s.back → Ends ts
behind s e = record { front = s.front ++ e.front; parts = s.parts ∙ ap (λ (l : List Lexeme). s.front ++ l) e.parts ∙ sym (append_assoc s.front e.front (EndOfLine ∷ [])) }

-- three behind one another, and the line's end; and five
row_ends : {K L M : List Lexeme → Type 0} {ts : List Lexeme} (s : (K ⊕ L ⊕ M ⊕ end_lexeme) ts) → Ends ts
row_ends s = behind s (behind s.two (behind s.two.two (ended s.two.two.two)))

sig_ends : {I J K L M : List Lexeme → Type 0} {ts : List Lexeme} (s : (I ⊕ J ⊕ K ⊕ L ⊕ M ⊕ end_lexeme) ts) → Ends ts
sig_ends s = behind s (behind s.two (row_ends s.two.two))

-- the sentences of each row end with the line's end
numbers_end : (o : Option (List ℤ)) (ts : List Lexeme) → numbers_says o ts → Ends ts
numbers_end None ts s = ended s
numbers_end (Some ns) ts s = behind s (behind s.two (ended s.two.two))

parent_ends : (o : Option (List ℕ)) (ts : List Lexeme) → parent_says o ts → Ends ts
parent_ends None ts s = ended s
parent_ends (Some p) ts s = behind s (behind s.two (ended s.two.two))

slots_end : (o : Option (List TypeText)) (ts : List Lexeme) → slots_says o ts → Ends ts
slots_end None ts s = ended s
slots_end (Some xs) ts s = behind s (behind s.two (ended s.two.two))

alone_ends : (says : Arg → List Lexeme → Type 0) (xs : List Arg) (ts : List Lexeme) → alone_says says xs ts → Ends ts
alone_ends says [] ts s = absurd s
alone_ends says (x ∷ []) ts s = behind s (ended s.two)
alone_ends says (x ∷ y ∷ ys) ts s = absurd s

pair_ends : (says : Arg → List Lexeme → Type 0) (xs : List Arg) (ts : List Lexeme) → pair_says says xs ts → Ends ts
pair_ends says [] ts s = absurd s
pair_ends says (x ∷ []) ts s = absurd s
pair_ends says (x ∷ y ∷ []) ts s = behind s (behind s.two (behind s.two.two (ended s.two.two.two)))
pair_ends says (x ∷ y ∷ z ∷ zs) ts s = absurd s

three_end : (xs : List Arg) (ts : List Lexeme) → up_to_three_say xs ts → Ends ts
three_end [] ts s = absurd s
three_end (x ∷ []) ts s = behind s (ended s.two)
three_end (x ∷ y ∷ []) ts s = behind s (behind s.two (behind s.two.two (ended s.two.two.two)))
three_end (x ∷ y ∷ z ∷ []) ts s = behind s (behind s.two (behind s.two.two (behind s.two.two.two (behind s.two.two.two.two (ended s.two.two.two.two.two)))))
three_end (x ∷ y ∷ z ∷ w ∷ ws) ts s = absurd s

none_ends : (xs : List Arg) (ts : List Lexeme) → none_says xs ts → Ends ts
none_ends [] ts s = ended s
none_ends (x ∷ xs) ts s = absurd s

args_end : (o : Operands) (xs : List Arg) (ts : List Lexeme) → args_say o xs ts → Ends ts
args_end operands.Zero xs ts s = none_ends xs ts s
args_end operands.One xs ts s = alone_ends _ xs ts s
args_end operands.Two xs ts s = pair_ends _ xs ts s
args_end operands.UpToThree xs ts s = three_end xs ts s
args_end operands.Shifted xs ts s = pair_ends _ xs ts s
args_end operands.Called xs ts s = alone_ends _ xs ts s
args_end operands.Target xs ts s = alone_ends _ xs ts s

outside_ends : (f : Form) (ts : List Lexeme) → outside_says f ts → Ends ts
outside_ends (form.Heap n) ts s = behind s (behind s.two (ended s.two.two))
outside_ends (form.Stacks n) ts s = behind s (behind s.two (ended s.two.two))
outside_ends (form.Entry n f) ts s = behind s (behind s.two (behind s.two.two (ended s.two.two.two)))
outside_ends (form.Sig false n rs t) ts s = sig_ends s
outside_ends (form.Sig true n rs t) ts s = behind s (sig_ends s.two)
outside_ends (form.Kind false n t) ts s = row_ends s
outside_ends (form.Kind true n t) ts s = behind s (row_ends s.two)
outside_ends (form.Static false n t) ts s = row_ends s
outside_ends (form.Static true n t) ts s = behind s (row_ends s.two)
outside_ends (form.DataArray false n k l ns) ts s = behind s (behind s.two (behind s.two.two (behind s.two.two.two (numbers_end ns _ s.two.two.two.two))))
outside_ends (form.DataArray true n k l None) ts s = behind s (behind s.two (behind s.two.two (behind s.two.two.two (behind s.two.two.two.two (ended s.two.two.two.two.two)))))
outside_ends (form.DataArray true n k l (Some ns)) ts s = absurd s
outside_ends (form.Class false n p) ts s = behind s (behind s.two (parent_ends p _ s.two.two))
outside_ends (form.Class true n p) ts s = behind s (behind s.two (behind s.two.two (parent_ends p _ s.two.two.two)))
outside_ends (form.Func false n f) ts s = row_ends s
outside_ends (form.Func true n f) ts s = behind s (row_ends s.two)
outside_ends _ ts s = absurd s

member_ends : (f : Form) (ts : List Lexeme) → member_says f ts → Ends ts
member_ends (form.Field n t) ts s = row_ends s
member_ends (form.Method n m f) ts s = behind s (row_ends s.two)
member_ends form.End ts s = behind s (ended s.two)
member_ends _ ts s = absurd s

code_ends : (f : Form) (ts : List Lexeme) → code_says f ts → Ends ts
code_ends form.End ts s = behind s (ended s.two)
code_ends (form.Label n rs slots) ts s = behind s (behind s.two (behind s.two.two (behind s.two.two.two (slots_end slots _ s.two.two.two.two))))
code_ends (form.Inst m xs) ts s = behind s (args_end (operands_of m) xs _ s.two)
code_ends _ ts s = absurd s

-- the last token of a sentence is the line's end
pub form_ends : (scope : Scope) (f : Form) (ts : List Lexeme) → form_says scope f ts → Ends ts
form_ends Outside f ts s = outside_ends f ts s
form_ends InClass f ts s = member_ends f ts s
form_ends InFunc f ts s = code_ends f ts s
