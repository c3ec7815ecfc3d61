-- What is read of a text is what its sentences say.
use Rattle.std.proofs.Common.{◌≡◌, ℕ, ◌+◌, Bool, true, false, cond, length, List, [], ◌∷◌, ◌++◌, Option, Some, None, Result, Ok, Err, refl, sym, ap, subst, ◌∙◌, append-nil}
use Rattle.text_tokens.specs.Token.{Lexeme, EndOfLine, PlacedLexeme, lexemes_of, long_name, is_long}
use Rattle.text_tokens.specs.Lexing.{line_tokens}
use Rattle.tal_syntax.specs.Faults.{NoLong}
use Rattle.tal_syntax.specs.Forms.{any_line_at, outside_at, member_at, function_line_at}
use Rattle.tal_syntax.specs.Grammar.{form_says}
use Rattle.tal_syntax.specs.Text.{LineFault, passed, whole, taken_or_long, no_token, line_at, after_line, is_outside, numbered_line, line_fault, is_last, fault, text_end, behind_line, read_lines, text_at, GivesText}
use Rattle.tal_syntax.specs.Modules.{LineOf, LinesOf, TextOf, NoModule}
use Rattle.std.specs.Prelude.{IfOk}
use Rattle.tal_syntax.specs.declared.fault.TextFault.{TextFault}
use Rattle.tal_syntax.specs.declared.fault.TextAnswer.{TextAnswer}
use Rattle.tal_syntax.specs.declared.fault.TextAnswer.TheVariants as answer
use Rattle.tal_syntax.specs.declared.form.Form.{Form}
use Rattle.tal_syntax.specs.declared.form.Scope.{Scope}
use Rattle.tal_syntax.specs.declared.form.Scope.TheVariants.{Outside, InClass, InFunc}
use Rattle.tal_syntax.specs.declared.module.TextLine.{TextLine}
use Rattle.tal_syntax.proofs.Lawful.{Lawful}
use Rattle.tal_syntax.proofs.FaultLaws.{no_long}
use Rattle.tal_syntax.proofs.LinePlaces.{passed_is}
use Rattle.tal_syntax.proofs.LineEnds.{EndsOnce, line_ends, none_behind, form_ends}
use Rattle.tal_syntax.proofs.MemberLaws.{Lawful-member}
use Rattle.tal_syntax.proofs.DeclarationLaws.{Lawful-outside}
use Rattle.tal_syntax.proofs.CodeLaws.{Lawful-code}
use Rattle.tal_syntax.proofs.TextSteps.{some_lines}

-- ---- any line

pub Lawful-form : (scope : Scope) → Lawful (any_line_at scope) (form_says scope)
unfolding any_line_at
Lawful-form Outside = Lawful-outside
Lawful-form InClass = Lawful-member
Lawful-form InFunc = Lawful-code

-- no form begins with the line's end
end_refused : (scope : Scope) (ts : List Lexeme) → any_line_at scope (EndOfLine ∷ ts) ≡ Err (EndOfLine ∷ ts)
unfolding any_line_at outside_at member_at function_line_at
end_refused Outside ts = refl
end_refused InClass ts = refl
end_refused InFunc ts = refl

-- a form that is read has all tokens of a line
all_read : (scope : Scope) (f : Form) (ts rest : List Lexeme) → EndsOnce ts → any_line_at scope ts ≡ Ok (f, rest) → (rest ≡ []) × form_says scope f ts
all_read scope f ts rest once e =
    let took = (Lawful-form scope).took ts f rest e in
    let ends = form_ends scope f took.front took.says in
    let none : rest ≡ [] = none_behind ends.front rest (subst EndsOnce (took.parts ∙ ap (λ (l : List Lexeme). l ++ rest) ends.parts) once) in
    (none, subst (λ (l : List Lexeme). form_says scope f l) (sym (took.parts ∙ ap (λ (l : List Lexeme). took.front ++ l) none ∙ append-nil took.front)) took.says)

-- and a sentence is read to its end
all_said : (scope : Scope) (f : Form) (ts : List Lexeme) → form_says scope f ts → any_line_at scope ts ≡ Ok (f, [])
all_said scope f ts s = ap (any_line_at scope) (sym (append-nil ts)) ∙ (Lawful-form scope).again f ts [] s

-- ---- a line

-- with none left all were passed
passed_all : (items : List PlacedLexeme) → passed items [] ≡ items
passed_all items = passed_is items items [] (sym (append-nil items))

-- one more name that is short
short_step : (i : PlacedLexeme) (is : List PlacedLexeme) → is_long i.token ≡ false → long_name is ≡ None → long_name (i ∷ is) ≡ None
unfolding long_name
short_step i is e h = rw (e, long_name) h

-- names of which none is too long
none_long : (is : List PlacedLexeme) → NoLong (lexemes_of is) → long_name is ≡ None
unfolding long_name
none_long [] h = refl
none_long (i ∷ is) h = short_step i is h.0 (none_long is h.1)

-- a form that is taken has no long name
taken_is : (o : Option ℕ) (f : Form) (found : Option Form) → taken_or_long o f ≡ Ok found → (o ≡ None) × (found ≡ Some f)
taken_is None f found e = (refl, cc)
taken_is (Some c) f found e = absurd cc

-- a form that is read is that of the line,
form_line : (scope : Scope) (items : List PlacedLexeme) (x : Form × List Lexeme) (o : Option Form) → EndsOnce (lexemes_of items) → any_line_at scope (lexemes_of items) ≡ Ok x → whole items (Ok x) ≡ Ok o → LineOf scope items o
form_line scope items x o once e h =
    let all = all_read scope x.0 (lexemes_of items) x.1 once e in
    let same : passed items x.1 ≡ items = ap (passed items) all.0 ∙ passed_all items in
    let k = taken_is (long_name (passed items x.1)) x.0 o h in
    subst (λ (p : Option Form). LineOf scope items p) (sym k.1) (all.1, no_long items (ap long_name (sym same) ∙ k.0))

-- whatever was read
read_line : (scope : Scope) (items : List PlacedLexeme) (r : Result (Form × List Lexeme) (List Lexeme)) (o : Option Form) → EndsOnce (lexemes_of items) → any_line_at scope (lexemes_of items) ≡ r → whole items r ≡ Ok o → LineOf scope items o
read_line scope items (Ok x) o once e h = form_line scope items x o once e h
read_line scope items (Err left) o once e h = absurd cc

-- no token before the line's end
empty_is : (ts : List Lexeme) → no_token ts ≡ true → EndsOnce ts → ts ≡ EndOfLine ∷ []
empty_is [] e once = absurd once
empty_is (EndOfLine ∷ ts) e once = ap (λ (l : List Lexeme). EndOfLine ∷ l) once
empty_is (t ∷ ts) e once = absurd cc

-- a line is empty or has a form
line_case : (scope : Scope) (items : List PlacedLexeme) (o : Option Form) (r : Bool) → no_token (lexemes_of items) ≡ r → EndsOnce (lexemes_of items) → cond r (Ok None) (whole items (any_line_at scope (lexemes_of items))) ≡ Ok o → LineOf scope items o
line_case scope items o true e once h =
    let same : None ≡ o = cc in
    subst (λ (p : Option Form). LineOf scope items p) same (empty_is (lexemes_of items) e once)
line_case scope items o false e once h = read_line scope items (any_line_at scope (lexemes_of items)) o once refl h

-- what is read of a line is what its tokens say
pub line_is : (scope : Scope) (bytes : List ℕ) (o : Option Form) → line_at scope (line_tokens bytes) ≡ Ok o → LineOf scope (line_tokens bytes) o
unfolding line_at
line_is scope bytes o e = line_case scope (line_tokens bytes) o (no_token (lexemes_of (line_tokens bytes))) refl (line_ends bytes) e

-- a sentence has a token
some_token : (scope : Scope) (f : Form) (ts : List Lexeme) → form_says scope f ts → no_token ts ≡ false
some_token scope f [] s = refl
some_token scope f (EndOfLine ∷ ts) s = absurd (let e = sym (end_refused scope ts) ∙ all_said scope f (EndOfLine ∷ ts) s in cc)
some_token scope f (t ∷ ts) s = refl

-- what the tokens of a line say is read
pub line_said : (scope : Scope) (items : List PlacedLexeme) (o : Option Form) → LineOf scope items o → line_at scope items ≡ Ok o
unfolding line_at
line_said scope items None s = rw s refl
line_said scope items (Some f) s =
    let e = some_token scope f (lexemes_of items) s.0 in
    let long : long_name (passed items []) ≡ None = ap long_name (passed_all items) ∙ none_long items s.1 in
    ap (λ (r : Bool). cond r (Ok None) (whole items (any_line_at scope (lexemes_of items)))) e ∙ ap (whole items) (all_said scope f (lexemes_of items) s.0) ∙ ap (λ (c : Option ℕ). taken_or_long c f) long

-- ---- a text

-- a list behind a front
behind_is : (front found : List TextLine) (r : Result (List TextLine) TextFault) → behind_line front r ≡ Ok found → (more : List TextLine) × (r ≡ Ok more) × (found ≡ front ++ more)
behind_is front found (Ok xs) e = (xs, refl, cc)
behind_is front found (Err f) e = absurd cc

-- at the end nothing is open
end_case : (b : Bool) (f : TextFault) (more : List TextLine) → cond b (Ok []) (Err f) ≡ Ok more → (more ≡ []) × (b ≡ true)
end_case true f more e = (cc, refl)
end_case false f more e = absurd cc

-- what stands behind a line
abbrev tail_at : ℕ → Scope → List ℕ → Option Form → List (List ℕ) → Result (List TextLine) TextFault
tail_at n scope l o [] = text_end n (after_line scope o) l
tail_at n scope l o (m ∷ ms) = read_lines (n + 1) (after_line scope o) (m ∷ ms)

-- a line with a form, and the lines behind it
line_then : (n : ℕ) (scope : Scope) (l : List ℕ) (ls : List (List ℕ)) (o : Option Form) → line_at scope (line_tokens l) ≡ Ok o → read_lines n scope (l ∷ ls) ≡ behind_line (numbered_line n o) (tail_at n scope l o ls)
unfolding read_lines
line_then n scope l [] o e = rw (e, read_lines) refl
line_then n scope l (m ∷ ms) o e = rw (e, read_lines) refl

-- a line with a fault
line_fails : (n : ℕ) (scope : Scope) (l : List ℕ) (ls : List (List ℕ)) (f : LineFault) → line_at scope (line_tokens l) ≡ Err f → read_lines n scope (l ∷ ls) ≡ Err (line_fault n scope l (is_last ls) f)
unfolding read_lines
line_fails n scope l ls f e = rw (e, read_lines) refl

-- a line, where what stands behind it is known,
step_is : (n : ℕ) (scope : Scope) (l : List ℕ) (ls : List (List ℕ)) (found : List TextLine) (r : Result (Option Form) LineFault) → line_at scope (line_tokens l) ≡ r → read_lines n scope (l ∷ ls) ≡ Ok found
    → ((o : Option Form) (more : List TextLine) → tail_at n scope l o ls ≡ Ok more → LinesOf (n + 1) (after_line scope o) ls more) → LinesOf n scope (l ∷ ls) found
step_is n scope l ls found (Err f) e h next = absurd (let k = sym (line_fails n scope l ls f e) ∙ h in cc)
step_is n scope l ls found (Ok o) e h next =
    let b = behind_is (numbered_line n o) found (tail_at n scope l o ls) (sym (line_then n scope l ls o e) ∙ h) in
    (o, b.0, line_is scope l o e, b.2, next o b.0 b.1)

-- and so all lines
read_is : (ls : List (List ℕ)) (n : ℕ) (scope : Scope) (l : List ℕ) (found : List TextLine) → read_lines n scope (l ∷ ls) ≡ Ok found → LinesOf n scope (l ∷ ls) found
read_is [] n scope l found e = step_is n scope l [] found (line_at scope (line_tokens l)) refl e (λ o more h. end_case (is_outside (after_line scope o)) (fault n (length l + 1) 5) more h)
read_is (m ∷ ms) n scope l found e = step_is n scope l (m ∷ ms) found (line_at scope (line_tokens l)) refl e (λ o more h. read_is ms (n + 1) (after_line scope o) m more h)

-- a line that is said is read,
step_said : (n : ℕ) (scope : Scope) (l : List ℕ) (ls : List (List ℕ)) (found : List TextLine) (o : Option Form) (more : List TextLine) → LineOf scope (line_tokens l) o → found ≡ numbered_line n o ++ more → tail_at n scope l o ls ≡ Ok more → read_lines n scope (l ∷ ls) ≡ Ok found
step_said n scope l ls found o more line parts next =
    line_then n scope l ls o (line_said scope (line_tokens l) o line) ∙ ap (λ (r : Result (List TextLine) TextFault). behind_line (numbered_line n o) r) next ∙ ap (λ (ts : List TextLine). Ok ts) (sym parts)

-- and so are all
said_is : (ls : List (List ℕ)) (n : ℕ) (scope : Scope) (l : List ℕ) (found : List TextLine) → LinesOf n scope (l ∷ ls) found → read_lines n scope (l ∷ ls) ≡ Ok found
said_is [] n scope l found s =
    step_said n scope l [] found s.0 s.1 s.2 s.3
    (ap (λ (b : Bool). let r : Result (List TextLine) TextFault = cond b (Ok []) (Err (fault n (length l + 1) 5)) in r) s.4.1 ∙ ap (λ (ts : List TextLine). Ok ts) (sym s.4.0))
said_is (m ∷ ms) n scope l found s = step_said n scope l (m ∷ ms) found s.0 s.1 s.2 s.3 (said_is ms (n + 1) (after_line scope s.0) m s.1 s.4)

-- what is read is a module of these lines,
pub text_is : (bytes : List ℕ) (found : List TextLine) → text_at bytes ≡ Ok found → TextOf bytes found
text_is bytes found e =
    let some = some_lines bytes in
    subst (λ (ls : List (List ℕ)). LinesOf 1 Outside ls found) (sym some.is) (read_is some.more 1 Outside some.first found (ap (λ (ls : List (List ℕ)). read_lines 1 Outside ls) (sym some.is) ∙ e))

-- and each module is read
pub text_said : (bytes : List ℕ) (found : List TextLine) → TextOf bytes found → text_at bytes ≡ Ok found
text_said bytes found s =
    let some = some_lines bytes in
    ap (λ (ls : List (List ℕ)). read_lines 1 Outside ls) some.is ∙ said_is some.more 1 Outside some.first found (subst (λ (ls : List (List ℕ)). LinesOf 1 Outside ls found) some.is s)

-- ---- what is answered

-- an answered module is one
pub gives_module : (r : Result (List TextLine) TextAnswer) (bytes : List ℕ) → GivesText r (text_at bytes) → IfOk r (λ found. TextOf bytes found)
gives_module (Ok found) bytes h = text_is bytes found h
gives_module (Err e) bytes h = tt

-- an answered fault means that there is none
pub gives_no_module : (r : Result (List TextLine) TextAnswer) (bytes : List ℕ) → GivesText r (text_at bytes) → NoModule r bytes
gives_no_module (Ok found) bytes h = tt
gives_no_module (Err (answer.Fault f)) bytes h = λ found s. let e = sym h ∙ text_said bytes found s in cc
gives_no_module (Err answer.NoMemory) bytes h = tt
