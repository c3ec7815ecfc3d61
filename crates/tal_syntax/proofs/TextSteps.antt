-- Reading a text line by line.
use Rattle.std.proofs.Common.{◌≡◌, ℕ, ◌+◌, Bool, false, List, [], ◌∷◌, ◌++◌, Option, Result, Ok, Err, refl, sym, ap, subst, ◌∙◌, append_assoc}
use Rattle.tal_syntax.specs.declared.form.Scope.{Scope}
use Rattle.tal_syntax.specs.declared.form.Form.{Form}
use Rattle.tal_syntax.specs.declared.module.TextLine.{TextLine}
use Rattle.tal_syntax.specs.declared.fault.TextFault.{TextFault}
use Rattle.tal_syntax.specs.declared.fault.TextAnswer.{TextAnswer}
use Rattle.tal_syntax.specs.declared.fault.TextAnswer.TheVariants as answer
use Rattle.text_tokens.specs.Lexing.{line_tokens}
use Rattle.tal_syntax.specs.Lines.{trimmed, without_cr, lines}
use Rattle.tal_syntax.specs.Text.{LineFault, is_last, line_at, line_fault, behind_line, numbered_line, after_line, text_end, read_lines, IsLineTaken, GivesText}
use Rattle.tal_syntax.proofs.FirstLine.{first_line}

joined : (a b : List TextLine) (r : Result (List TextLine) TextFault) → behind_line a (behind_line b r) ≡ behind_line (a ++ b) r
joined a b (Ok xs) = ap (λ (l : List TextLine). Ok l) (sym (append_assoc a b xs))
joined a b (Err f) = refl

-- there are always lines
pub record Cons (ls : List (List ℕ)) : Type 0 where
  pub first : List ℕ
  pub more : List (List ℕ)
  pub is : ls ≡ first ∷ more

trimmed_cons : (l : List ℕ) (ls : List (List ℕ)) → Cons (trimmed (l ∷ ls))
unfolding trimmed
trimmed_cons l [] = record { first = l; more = []; is = refl }
trimmed_cons l (m ∷ ms) = record { first = without_cr l; more = trimmed (m ∷ ms); is = refl }

pub some_lines : (bytes : List ℕ) → Cons (lines bytes)
some_lines bytes = subst (λ (ls : List (List ℕ)). Cons (trimmed ls)) (sym (first_line bytes)) (trimmed_cons _ _)

pub last_line : (n : ℕ) (scope : Scope) (l : List ℕ) (o : Option Form) (front : List TextLine) (total : Result (List TextLine) TextFault) → line_at scope (line_tokens l) ≡ Ok o
    → behind_line front (read_lines n scope (l ∷ [])) ≡ total → total ≡ behind_line (front ++ numbered_line n o) (text_end n (after_line scope o) l)
unfolding read_lines
last_line n scope l o front total e so_far =
    let k : read_lines n scope (l ∷ []) ≡ behind_line (numbered_line n o) (text_end n (after_line scope o) l) = rw (e, read_lines) refl in
    sym so_far ∙ ap (λ (r : Result (List TextLine) TextFault). behind_line front r) k ∙ joined front (numbered_line n o) (text_end n (after_line scope o) l)

line_behind : (n : ℕ) (scope : Scope) (l : List ℕ) (ls : List (List ℕ)) (o : Option Form) → Cons ls → line_at scope (line_tokens l) ≡ Ok o → read_lines n scope (l ∷ ls) ≡ behind_line (numbered_line n o) (read_lines (n + 1) (after_line scope o) ls)
unfolding read_lines
line_behind n scope l [] o some e = absurd (let h = some.is in cc)
line_behind n scope l (m ∷ ms) o some e = rw (e, read_lines) refl

pub next_line : (n : ℕ) (scope : Scope) (l rest : List ℕ) (o : Option Form) (front : List TextLine) (total : Result (List TextLine) TextFault) → line_at scope (line_tokens l) ≡ Ok o
    → behind_line front (read_lines n scope (l ∷ lines rest)) ≡ total → behind_line (front ++ numbered_line n o) (read_lines (n + 1) (after_line scope o) (lines rest)) ≡ total
next_line n scope l rest o front total e so_far =
    sym (joined front (numbered_line n o) (read_lines (n + 1) (after_line scope o) (lines rest)))
    ∙ ap (λ (r : Result (List TextLine) TextFault). behind_line front r) (sym (line_behind n scope l (lines rest) o (some_lines rest) e)) ∙ so_far

pub failed_line : (n : ℕ) (scope : Scope) (l : List ℕ) (ls : List (List ℕ)) (g : LineFault) (front : List TextLine) (total : Result (List TextLine) TextFault) → line_at scope (line_tokens l) ≡ Err g
    → behind_line front (read_lines n scope (l ∷ ls)) ≡ total → total ≡ Err (line_fault n scope l (is_last ls) g)
unfolding read_lines
failed_line n scope l ls g front total e so_far =
    let k : read_lines n scope (l ∷ ls) ≡ Err (line_fault n scope l (is_last ls) g) = rw (e, read_lines) refl in
    sym so_far ∙ ap (λ (r : Result (List TextLine) TextFault). behind_line front r) k

pub not_last : (rest : List ℕ) → is_last (lines rest) ≡ false
not_last rest = let some = some_lines rest in rw some.is refl

pub fails : (e : TextAnswer) (n : ℕ) (scope : Scope) (l : List ℕ) (ls : List (List ℕ)) (last : Bool) (front old new : List TextLine) (total : Result (List TextLine) TextFault) → is_last ls ≡ last
    → IsLineTaken (Err e) (line_at scope (line_tokens l)) n scope l last old new → behind_line front (read_lines n scope (l ∷ ls)) ≡ total → GivesText (Err e) total
fails (answer.Fault f) n scope l ls last front old new total same h so_far =
    failed_line n scope l ls h.0 front total h.1 so_far ∙ ap (λ (b : Bool). Err (line_fault n scope l b h.0)) same ∙ ap (λ (g : TextFault). Err g) (sym h.2)
fails answer.NoMemory n scope l ls last front old new total same h so_far = tt
