-- A text by the sentences of its lines.
use Rattle.std.specs.Prelude.{◌≡◌, ℕ, ◌+◌, List, [], ◌∷◌, ◌++◌, true, Option, Some, None, Result, Err}
use Rattle.text_tokens.specs.Token.{EndOfLine, PlacedLexeme, lexemes_of}
use Rattle.text_tokens.specs.Lexing.{line_tokens}
use Rattle.tal_syntax.specs.Faults.{NoLong}
use Rattle.tal_syntax.specs.Grammar.{form_says}
use Rattle.tal_syntax.specs.Lines.{lines}
use Rattle.tal_syntax.specs.Text.{after_line, is_outside, numbered_line}
use Rattle.tal_syntax.specs.declared.fault.TextAnswer.{TextAnswer}
use Rattle.tal_syntax.specs.declared.fault.TextAnswer.TheVariants as answer
use Rattle.tal_syntax.specs.declared.form.Form.{Form}
use Rattle.tal_syntax.specs.declared.form.Scope.{Scope}
use Rattle.tal_syntax.specs.declared.form.Scope.TheVariants.{Outside}
use Rattle.tal_syntax.specs.declared.module.TextLine.{TextLine}

-- A line is empty, or its tokens say a form and no name of it is too long.
abbrev pub LineOf : Scope → List PlacedLexeme → Option Form → Type 0
LineOf scope items None = lexemes_of items ≡ EndOfLine ∷ []
LineOf scope items (Some f) = form_says scope f (lexemes_of items) × NoLong (lexemes_of items)

-- The lines from a number on are these, and at their end no class and no function is left open.
abbrev pub LinesOf : ℕ → Scope → List (List ℕ) → List TextLine → Type 0
LinesOf n scope [] found = (found ≡ []) × (is_outside scope ≡ true)
LinesOf n scope (l ∷ ls) found = (o : Option Form) × (more : List TextLine) × LineOf scope (line_tokens l) o × (found ≡ numbered_line n o ++ more) × LinesOf (n + 1) (after_line scope o) ls more

-- The text is a module of these lines.
abbrev pub TextOf : List ℕ → List TextLine → Type 0
TextOf bytes found = LinesOf 1 Outside (lines bytes) found

-- The lines are those of some text.
abbrev pub IsModule : List TextLine → Type 0
IsModule found = (bytes : List ℕ) × TextOf bytes found

-- Where a fault is answered, the text is no module.
abbrev pub NoModule : Result (List TextLine) TextAnswer → List ℕ → Type 0
NoModule (Err (answer.Fault fault)) bytes = (found : List TextLine) → TextOf bytes found → ⊥
NoModule _ bytes = Unit {0}
