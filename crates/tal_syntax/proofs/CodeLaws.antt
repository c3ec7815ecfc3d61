-- The lines of a function are read exactly.
use Rattle.std.proofs.Common.{◌≡◌, List, [], ◌∷◌, Option, Some, None, refl}
use lib.Dec.{eqb}
use Rattle.text_tokens.specs.Token.{Lexeme, Key, Mnemonic as Operation, Name, Mark, EndOfLine}
use Rattle.text_tokens.specs.declared.token.Keyword.TheVariants as key
use Rattle.tal_syntax.specs.declared.form.TypeText.{TypeText}
use Rattle.tal_syntax.specs.declared.form.Form.{Form}
use Rattle.tal_syntax.specs.declared.form.Form.TheVariants as form
use Rattle.tal_syntax.specs.Grammar.{type_says, reg_type_says, list_says, slots_says, args_say, code_says}
use Rattle.tal_syntax.specs.Reading.{Read, rows_at}
use Rattle.tal_syntax.specs.Rows.{type_at}
use Rattle.tal_syntax.specs.Operands.{operands_of, inst_line_at}
use Rattle.tal_syntax.specs.Forms.{block_end_at, slots_behind, label_slots_at, label_at, code_of, function_line_at}
use Rattle.tal_syntax.proofs.Lawful.{Lawful, Made, Both, Nothing, nothing, Lawful-done, Lawful-both, Lawful-reads}
use Rattle.tal_syntax.proofs.LawfulChoices.{Chosen, Lawful-choose, Opened, opened_law, law_of, led, led_by_mark, lead}
use Rattle.tal_syntax.proofs.TokenLaws.{Lawful-mark, Lawful-end, marked, ended}
use Rattle.tal_syntax.proofs.TypeLaws.{Lawful-type, type_starts}
use Rattle.tal_syntax.proofs.ListLaws.{Lawful-rows}
use Rattle.tal_syntax.proofs.DeclarationLaws.{Lawful-params}
use Rattle.tal_syntax.proofs.ArgLaws.{Lawful-args}

-- ---- slots

-- types between commas are read exactly
Lawful-types : Lawful (rows_at 93 type_at) (list_says 93 type_says)
Lawful-types = Lawful-rows 93 type_at type_says Lawful-type refl type_starts

abbrev slots_rest : Lexeme → Option (List TypeText) → List Lexeme → Type 0
slots_rest EndOfLine = Nothing None
slots_rest (Mark b) = Opened 91 (Made (λ x. Some x.0) (Both (list_says 93 type_says) ended)) b
slots_rest _ = λ x ts. ⊥

-- each way to read slots
slots_laws : (t : Lexeme) (p : Read (Option (List TypeText))) → slots_behind t ≡ Some p → Lawful p (slots_rest t)
slots_laws EndOfLine p e = law_of (Lawful-done None) e
slots_laws (Mark b) p e = opened_law 91 b (eqb b 91) (Lawful-reads (λ x. Some x.0) (Lawful-both Lawful-types Lawful-end)) refl e
slots_laws _ p e = absurd cc

-- a token before what stands behind it
slots_there : (t : Lexeme) (x : Option (List TypeText)) (ts : List Lexeme) → slots_rest t x ts → slots_says x (t ∷ ts)
slots_there EndOfLine x ts s = rw (s.none, s.value) refl
slots_there (Mark b) x ts s = led_by_mark slots_says 91 b x ts s (λ y us j. j)
slots_there _ x ts s = absurd s

-- slots by their first token
slots_back : (x : Option (List TypeText)) (ts : List Lexeme) → slots_says x ts → Chosen slots_behind slots_rest x ts
slots_back None ts s = record { token = EndOfLine; back = []; parts = s; way = _; picks = refl; two = nothing None }
slots_back (Some xs) ts s = record { token = Mark 91; back = s.back; parts = lead (Mark 91) ts s; way = _; picks = refl; two = record { is = refl; two = record { of = (xs, tt); value = refl; says = s.two } } }

-- slots are read exactly
Lawful-slots : Lawful label_slots_at slots_says
unfolding label_slots_at
Lawful-slots = Lawful-choose slots_behind slots_rest slots_says slots_laws slots_there slots_back (record { value = None; text = EndOfLine ∷ []; says = refl })

-- ---- lines

-- what stands behind a line's first token
abbrev rest : Lexeme → Form → List Lexeme → Type 0
rest (Key key.End) = Made (λ u. form.End) ended
rest (Name n) = Made (λ x. form.Label n x.1.1.0 x.1.1.1) (Both (marked 58) (Both (marked 40) (Both (list_says 41 reg_type_says) slots_says)))
rest (Operation m) = Made (λ xs. form.Inst m xs) (args_say (operands_of m))
rest _ = λ x ts. ⊥

-- each way to read a line
laws : (t : Lexeme) (p : Read Form) → code_of t ≡ Some p → Lawful p (rest t)
unfolding block_end_at label_at inst_line_at
laws (Key key.End) p e = law_of (Lawful-reads (λ u. form.End) Lawful-end) e
laws (Name n) p e = law_of (Lawful-reads (λ x. form.Label n x.1.1.0 x.1.1.1) (Lawful-both (Lawful-mark 58) (Lawful-both (Lawful-mark 40) (Lawful-both Lawful-params Lawful-slots)))) e
laws (Operation m) p e = law_of (Lawful-reads (λ xs. form.Inst m xs) (Lawful-args (operands_of m))) e
laws _ p e = absurd cc

-- a token before what stands behind it in a line
there : (t : Lexeme) (x : Form) (ts : List Lexeme) → rest t x ts → code_says x (t ∷ ts)
there (Key key.End) x ts s = led code_says (Key key.End) x ts s (λ y us j. j)
there (Name n) x ts s = led code_says (Name n) x ts s (λ y us j. j)
there (Operation m) x ts s = led code_says (Operation m) x ts s (λ y us j. j)
there _ x ts s = absurd s

-- a line by its first token
back : (x : Form) (ts : List Lexeme) → code_says x ts → Chosen code_of rest x ts
back form.End ts s = record { token = Key key.End; back = s.back; parts = lead (Key key.End) ts s; way = _; picks = refl; two = record { of = tt; value = refl; says = s.two } }
back (form.Label n rs slots) ts s = record { token = Name n; back = s.back; parts = lead (Name n) ts s; way = _; picks = refl; two = record { of = (tt, (tt, (rs, slots))); value = refl; says = s.two } }
back (form.Inst m xs) ts s = record { token = Operation m; back = s.back; parts = lead (Operation m) ts s; way = _; picks = refl; two = record { of = xs; value = refl; says = s.two } }
back _ ts s = absurd s

-- a line of a function is read exactly
pub Lawful-code : Lawful function_line_at code_says
unfolding function_line_at
Lawful-code =
    Lawful-choose code_of rest code_says laws there back
    (record { value = form.End; text = Key key.End ∷ EndOfLine ∷ []; says = record { front = Key key.End ∷ []; back = EndOfLine ∷ []; parts = refl; one = refl; two = refl } })
