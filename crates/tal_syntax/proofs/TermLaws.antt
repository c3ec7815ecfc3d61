-- The terms of memory operands are read exactly. A register may have a factor behind it, so each term is looked at with what
-- follows it.
use Rattle.std.proofs.Common.{◌≡◌, ℕ, ℤ, pos, Bool, true, false, cond, List, [], ◌∷◌, ◌++◌, Option, Some, None, refl, sym, ap, subst, ◌∙◌, ◌⊎◌, inl, inr, append_assoc, arith}
use Rattle.std.proofs.lemmas.Bool.{eqb-true}
use Rattle.std.proofs.lemmas.Bool.Decides.{Decides-int_eq}
use Rattle.std.specs.Ordering.{int_eq}
use lib.Dec.{eqb}
use Rattle.ia32_code.specs.declared.instruction.Reg.{Reg}
use Rattle.text_tokens.specs.Token.{Lexeme, Key, Register, Number, Mark}
use Rattle.text_tokens.specs.declared.token.Keyword.TheVariants as key
use Rattle.tal_syntax.specs.declared.form.Term.{Term}
use Rattle.tal_syntax.specs.declared.form.Term.TheVariants as term
use Rattle.tal_syntax.specs.Grammar.{name, number_lexeme, factor_says, term_says, Negative, signed_says, terms_says}
use Rattle.tal_syntax.specs.Reading.{Read, pure, both, reads, cons, is_mark, if_mark, number_at, more_at, most, some_rows}
use Rattle.tal_syntax.specs.Operands.{factor, of_factor, factor_at, register_at, term_of, term_at, negated, signed_of, signed_at, terms_at}
use Rattle.tal_syntax.proofs.Lawful.{Lawful, Lives, Made, Both, Nothing, nothing, Lawful-done, Lawful-both, Lawful-reads, Lawful-same}
use Rattle.tal_syntax.proofs.LawfulChoices.{Chosen, Lawful-one, led, lead}
use Rattle.tal_syntax.proofs.LawfulFollowed.{Lawful-as, Lawful-choose_then, both_mark}
use Rattle.tal_syntax.proofs.TokenLaws.{Lawful-name, Lawful-number_lexeme, some_is}
use Rattle.tal_syntax.proofs.ListLaws.{Starts, Unless, More, Lawful-unless, Lawful-more}

-- ---- factors

-- the number that is tried is the factor
factor_row : (n : ℤ) (k : ℕ) (x : ℕ) (r : Bool) (o : Option ℕ) → int_eq n (pos k) ≡ r → (o ≡ Some x → n ≡ pos x) → cond r (Some k) o ≡ Some x → n ≡ pos x
factor_row n k x true o e rest h = (Decides-int_eq n (pos k)).0 e ∙ ap (λ (m : ℕ). pos m) (some_is k x h)
factor_row n k x false o e rest h = rest h

factor_is : (n : ℤ) (x : ℕ) → factor n ≡ Some x → n ≡ pos x
factor_is n x h =
    factor_row n 1 x (int_eq n (pos 1)) _ refl
    (factor_row n 2 x (int_eq n (pos 2)) _ refl
    (factor_row n 4 x (int_eq n (pos 4)) _ refl
    (factor_row n 8 x (int_eq n (pos 8)) None refl (λ e. absurd cc)))) h

factor_there : (x : ℕ) (t : Lexeme) → of_factor t ≡ Some x → factor_says x (t ∷ [])
factor_there x (Number n) e =
    let is = factor_is n x e in
    (ap (λ (m : ℤ). Number m ∷ []) is, ap factor (sym is) ∙ e)
factor_there x t e = absurd cc

-- a factor is read exactly
Lawful-factor : Lawful factor_at factor_says
unfolding factor_at
Lawful-factor = Lawful-one of_factor factor_says factor_there (λ x ts s. (Number (pos x), s.0, s.1)) (record { value = 1; text = Number (pos 1) ∷ []; says = (refl, refl) })

-- ---- terms, with what follows

-- what stands behind a register: its factor, or nothing
abbrev register_rest : Reg → Term → List Lexeme → Type 0
register_rest r = Unless 42 (Made (λ k. term.Scaled r k) factor_says) (Nothing (term.Register r))

abbrev term_rest : Lexeme → Term → List Lexeme → Type 0
term_rest (Register r) = register_rest r
term_rest (Number n) = Nothing (term.Number n)
term_rest (Key key.Field) = Made (λ x. term.FieldByte x.0 x.1) (Both name name)
term_rest (Key key.Method) = Made (λ x. term.MethodByte x.0 x.1) (Both name name)
term_rest (Key key.Display) = Made (λ n. term.DisplayByte n) name
term_rest (Key key.Static) = Made (λ n. term.StaticAt n) name
term_rest _ = λ x ts. ⊥

-- a token before what stands behind it
term_there : (t : Lexeme) (x : Term) (ts : List Lexeme) → term_rest t x ts → term_says x (t ∷ ts)
term_there (Register r) x ts (inl s) = subst (λ (y : Term). term_says y (Register r ∷ ts)) (sym s.two.value) (record { front = Register r ∷ []; back = ts; parts = refl; one = refl; two = record { front = s.front; back = s.back; parts = s.parts; one = s.one; two = s.two.says } })
term_there (Register r) x ts (inr s) = rw (s.none, s.value) refl
term_there (Number n) x ts s = rw (s.none, s.value) refl
term_there (Key key.Field) x ts s = led term_says (Key key.Field) x ts s (λ y us j. j)
term_there (Key key.Method) x ts s = led term_says (Key key.Method) x ts s (λ y us j. j)
term_there (Key key.Display) x ts s = led term_says (Key key.Display) x ts s (λ y us j. j)
term_there (Key key.Static) x ts s = led term_says (Key key.Static) x ts s (λ y us j. j)
term_there t x ts s = absurd s

-- a term by its first token
term_back : (x : Term) (ts : List Lexeme) → term_says x ts → Chosen term_of term_rest x ts
term_back (term.Register r) ts s = record { token = Register r; back = []; parts = s; way = _; picks = refl; two = inr (nothing (term.Register r)) }
term_back (term.Scaled r k) ts s =
    let f = s.two in
    record { token = Register r; back = s.back; parts = lead (Register r) ts s; way = _; picks = refl; two = inl (record { front = f.front; back = f.back; parts = f.parts; one = f.one; two = record { of = k; value = refl; says = f.two } }) }
term_back (term.Number n) ts s = record { token = Number n; back = []; parts = s; way = _; picks = refl; two = nothing (term.Number n) }
term_back (term.FieldByte c f) ts s = record { token = Key key.Field; back = s.back; parts = lead (Key key.Field) ts s; way = _; picks = refl; two = record { of = (c, f); value = refl; says = s.two } }
term_back (term.MethodByte c f) ts s = record { token = Key key.Method; back = s.back; parts = lead (Key key.Method) ts s; way = _; picks = refl; two = record { of = (c, f); value = refl; says = s.two } }
term_back (term.DisplayByte c) ts s = record { token = Key key.Display; back = s.back; parts = lead (Key key.Display) ts s; way = _; picks = refl; two = record { of = c; value = refl; says = s.two } }
term_back (term.StaticAt n) ts s = record { token = Key key.Static; back = s.back; parts = lead (Key key.Static) ts s; way = _; picks = refl; two = record { of = n; value = refl; says = s.two } }

-- a number whose negative is meant, by either sign
abbrev SignRest : ℕ → Term → List Lexeme → Type 0
SignRest b x ts = ((b ≡ 43) × term_says x ts) ⊎ ((b ≡ 45) × Negative x ts)

abbrev signed_rest : Lexeme → Term → List Lexeme → Type 0
signed_rest (Mark b) = SignRest b
signed_rest _ = λ x ts. ⊥

-- a sign before what stands behind it
signed_there : (t : Lexeme) (x : Term) (ts : List Lexeme) → signed_rest t x ts → signed_says x (t ∷ ts)
signed_there (Mark b) x ts (inl s) = inl (record { front = Mark b ∷ []; back = ts; parts = refl; one = ap (λ (n : ℕ). Mark n ∷ []) s.0; two = s.1 })
signed_there (Mark b) x ts (inr s) = inr (record { front = Mark b ∷ []; back = ts; parts = refl; one = ap (λ (n : ℕ). Mark n ∷ []) s.0; two = s.1 })
signed_there t x ts s = absurd s

-- a further term by its sign
signed_back : (x : Term) (ts : List Lexeme) → signed_says x ts → Chosen signed_of signed_rest x ts
signed_back x ts (inl s) = record { token = Mark 43; back = s.back; parts = lead (Mark 43) ts s; way = _; picks = refl; two = inl (refl, s.two) }
signed_back x ts (inr s) = record { token = Mark 45; back = s.back; parts = lead (Mark 45) ts s; way = _; picks = refl; two = inr (refl, s.two) }

-- the negative of a number is read exactly
Lawful-negative : Lawful (reads negated number_at) Negative
Lawful-negative = Lawful-same (reads negated number_at) (Made negated number_lexeme) Negative (Lawful-reads negated Lawful-number_lexeme) (λ x ts s. record { written = s.of; value = s.value; says = s.says }) (λ x ts s. record { of = s.written; value = s.value; says = s.says })

-- one sign is not the other
plus_alone : (b : ℕ) (x : Term) (ts : List Lexeme) → eqb b 43 ≡ true → SignRest b x ts → term_says x ts
plus_alone b x ts e (inl s) = s.1
plus_alone b x ts e (inr s) = absurd (let h = eqb-true b 43 e in let g = s.0 in omega arith)

minus_alone : (b : ℕ) (x : Term) (ts : List Lexeme) → eqb b 45 ≡ true → SignRest b x ts → Negative x ts
minus_alone b x ts e (inl s) = absurd (let h = eqb-true b 45 e in let g = s.0 in omega arith)
minus_alone b x ts e (inr s) = s.1

module _ {B : Type 0} (q : Read B) (T : B → List Lexeme → Type 0) (lq : Lawful q T) (apart : (y : B) (ts : List Lexeme) → T y ts → Starts (is_mark 42) ts) where
  abbrev scaled : Reg → Read Term
  scaled r = reads (λ k. term.Scaled r k) factor_at

  abbrev scaled_says : Reg → Term → List Lexeme → Type 0
  scaled_says r = Made (λ k. term.Scaled r k) factor_says

  -- no factor stands behind a register alone
  alone_starts : (r : Reg) (z : Term × B) (ts : List Lexeme) → Both (Nothing (term.Register r)) T z ts → Starts (is_mark 42) ts
  alone_starts r z ts s =
      let a = apart z.1 s.back s.two in
      record { token = a.token; back = a.back; parts = s.parts ∙ ap (λ (l : List Lexeme). l ++ s.back) s.one.none ∙ a.parts; is = a.is }

  -- a register with what follows, by whether a factor is there
  with_factor : (r : Reg) (z : Term × B) (ts : List Lexeme) → Unless 42 (Both (scaled_says r) T) (Both (Nothing (term.Register r)) T) z ts → Both (register_rest r) T z ts
  with_factor r z ts (inl s) =
      let t = s.two in
      record {
        front = s.front ++ t.front;
        back = t.back;
        parts = s.parts ∙ ap (λ (l : List Lexeme). s.front ++ l) t.parts ∙ sym (append_assoc s.front t.front t.back);
        one = inl (record { front = s.front; back = t.front; parts = refl; one = s.one; two = t.one });
        two = t.two;
      }
  with_factor r z ts (inr s) = record { front = s.front; back = s.back; parts = s.parts; one = inr s.one; two = s.two }

  -- and the same the other way
  factor_first : (r : Reg) (z : Term × B) (ts front back : List Lexeme) → ts ≡ front ++ back → register_rest r z.0 front → T z.1 back → Unless 42 (Both (scaled_says r) T) (Both (Nothing (term.Register r)) T) z ts
  factor_first r z ts front back parts (inl f) two =
      inl (record {
        front = f.front;
        back = f.back ++ back;
        parts = parts ∙ ap (λ (l : List Lexeme). l ++ back) f.parts ∙ append_assoc f.front f.back back;
        one = f.one;
        two = record { front = f.back; back = back; parts = refl; one = f.two; two = two };
      })
  factor_first r z ts front back parts (inr n) two = inr (record { front = front; back = back; parts = parts; one = n; two = two })

  -- a register with its factor
  register_then : (r : Reg) → Lawful (both (register_at r) q) (Both (register_rest r) T)
  unfolding register_at
  register_then r =
      Lawful-as (both (if_mark 42 (scaled r) (pure (term.Register r))) q) (if_mark 42 (both (scaled r) q) (both (pure (term.Register r)) q)) (Both (register_rest r) T)
      (both_mark 42 (scaled r) (pure (term.Register r)) q)
      (Lawful-same (if_mark 42 (both (scaled r) q) (both (pure (term.Register r)) q)) (Unless 42 (Both (scaled_says r) T) (Both (Nothing (term.Register r)) T)) (Both (register_rest r) T)
      (Lawful-unless 42 (both (scaled r) q) (both (pure (term.Register r)) q) (Both (scaled_says r) T) (Both (Nothing (term.Register r)) T)
      (Lawful-both (Lawful-reads (λ k. term.Scaled r k) Lawful-factor) lq) (Lawful-both (Lawful-done (term.Register r)) lq) (alone_starts r))
      (with_factor r) (λ z ts s. factor_first r z ts s.front s.back s.parts s.one s.two))

  -- the law of the reader that is picked, with the other behind it
  then_of : {p r : Read Term} (S : Term → List Lexeme → Type 0) → Lawful (both p q) (Both S T) → (let l : Option (Read Term) = Some p in l) ≡ Some r → Lawful (both r q) (Both S T)
  then_of {p} {r} S l e = let same : p ≡ r = cc in subst (λ (x : Read Term). Lawful (both x q) (Both S T)) same l

  -- each way to read a term
  term_laws : (t : Lexeme) (p : Read Term) → term_of t ≡ Some p → Lawful (both p q) (Both (term_rest t) T)
  term_laws (Register r) p e = then_of _ (register_then r) e
  term_laws (Number n) p e = then_of _ (Lawful-both (Lawful-done (term.Number n)) lq) e
  term_laws (Key key.Field) p e = then_of _ (Lawful-both (Lawful-reads (λ x. term.FieldByte x.0 x.1) (Lawful-both Lawful-name Lawful-name)) lq) e
  term_laws (Key key.Method) p e = then_of _ (Lawful-both (Lawful-reads (λ x. term.MethodByte x.0 x.1) (Lawful-both Lawful-name Lawful-name)) lq) e
  term_laws (Key key.Display) p e = then_of _ (Lawful-both (Lawful-reads (λ n. term.DisplayByte n) Lawful-name) lq) e
  term_laws (Key key.Static) p e = then_of _ (Lawful-both (Lawful-reads (λ n. term.StaticAt n) Lawful-name) lq) e
  term_laws t p e = absurd cc

  -- some term
  term_lives : Lives (Both term_says T)
  term_lives = record { value = (term.Number (pos 0), lq.lives.value); text = Number (pos 0) ∷ lq.lives.text; says = record { front = Number (pos 0) ∷ []; back = lq.lives.text; parts = refl; one = refl; two = lq.lives.says } }

  pub Lawful-term_then : Lawful (both term_at q) (Both term_says T)
  unfolding term_at
  Lawful-term_then = Lawful-choose_then term_of term_rest term_says q T term_laws term_there term_back term_lives

  -- either sign
  sign_law : (b : ℕ) (plus minus : Bool) (p : Read Term) → eqb b 43 ≡ plus → eqb b 45 ≡ minus → cond plus (Some term_at) (cond minus (Some (reads negated number_at)) None) ≡ Some p → Lawful (both p q) (Both (SignRest b) T)
  sign_law b true minus p e f h =
      then_of (SignRest b) (Lawful-same (both term_at q) (Both term_says T) (Both (SignRest b) T) Lawful-term_then
      (λ z ts s. record { front = s.front; back = s.back; parts = s.parts; one = inl (eqb-true b 43 e, s.one); two = s.two })
      (λ z ts s. record { front = s.front; back = s.back; parts = s.parts; one = plus_alone b z.0 s.front e s.one; two = s.two })) h
  sign_law b false true p e f h =
      then_of (SignRest b) (Lawful-same (both (reads negated number_at) q) (Both Negative T) (Both (SignRest b) T) (Lawful-both Lawful-negative lq)
      (λ z ts s. record { front = s.front; back = s.back; parts = s.parts; one = inr (eqb-true b 45 f, s.one); two = s.two })
      (λ z ts s. record { front = s.front; back = s.back; parts = s.parts; one = minus_alone b z.0 s.front f s.one; two = s.two })) h
  sign_law b false false p e f h = absurd cc

  -- each way to read a further term
  signed_laws : (t : Lexeme) (p : Read Term) → signed_of t ≡ Some p → Lawful (both p q) (Both (signed_rest t) T)
  signed_laws (Mark b) p e = sign_law b (eqb b 43) (eqb b 45) p refl refl e
  signed_laws t p e = absurd cc

  -- some further term
  signed_lives : Lives (Both signed_says T)
  signed_lives = record { value = (term.Number (pos 0), lq.lives.value); text = Mark 43 ∷ Number (pos 0) ∷ lq.lives.text; says = record { front = Mark 43 ∷ Number (pos 0) ∷ []; back = lq.lives.text; parts = refl; one = inl (record { front = Mark 43 ∷ []; back = Number (pos 0) ∷ []; parts = refl; one = refl; two = refl }); two = lq.lives.says } }

  pub Lawful-signed_then : Lawful (both signed_at q) (Both signed_says T)
  unfolding signed_at
  Lawful-signed_then = Lawful-choose_then signed_of signed_rest signed_says q T signed_laws signed_there signed_back signed_lives

-- ---- all terms of an operand

-- a further term begins with its sign,
signed_starts : (m : ℕ) → eqb 43 m ≡ false → eqb 45 m ≡ false → (x : Term) (ts : List Lexeme) → signed_says x ts → Starts (is_mark m) ts
signed_starts m e f x ts (inl s) = record { token = Mark 43; back = s.back; parts = lead (Mark 43) ts s; is = e }
signed_starts m e f x ts (inr s) = record { token = Mark 45; back = s.back; parts = lead (Mark 45) ts s; is = f }

-- and so do further terms, or with the bracket
more_starts : (n : ℕ) (xs : List Term) (ts : List Lexeme) → More 93 signed_says n xs ts → Starts (is_mark 42) ts
more_starts n [] ts s = record { token = Mark 93; back = []; parts = s.0; is = refl }
more_starts n (x ∷ xs) ts s =
    let j = s.0 in
    let a = signed_starts 42 refl refl x j.front j.one in
    record { token = a.token; back = a.back ++ j.back; parts = j.parts ∙ ap (λ (l : List Lexeme). l ++ j.back) a.parts; is = a.is }

-- further terms are read exactly
Lawful-further : (n : ℕ) → Lawful (more_at 93 signed_at n) (More 93 signed_says n)
Lawful-further = Lawful-more 93 signed_at signed_says (λ n l. Lawful-signed_then (more_at 93 signed_at n) (More 93 signed_says n) l (more_starts n)) (signed_starts 93 refl refl)

abbrev Terms : List Term → List Lexeme → Type 0
Terms = Made cons (Both term_says (More 93 signed_says most))

-- all terms by the first and the others
terms_there : (xs : List Term) (ts : List Lexeme) → Terms xs ts → terms_says xs ts
terms_there xs ts s =
    let j = s.says in
    subst (λ (l : List Term). terms_says l ts) (sym s.value) (record { front = j.front; back = j.back; parts = j.parts; one = j.one; two = j.two.0 }, j.two.1)

-- and the same the other way
terms_back : (xs : List Term) (ts : List Lexeme) → terms_says xs ts → Terms xs ts
terms_back [] ts s = absurd s
terms_back (x ∷ xs) ts s =
    let j = s.0 in
    record { of = (x, xs); value = refl; says = record { front = j.front; back = j.back; parts = j.parts; one = j.one; two = (j.two, s.1) } }

pub Lawful-terms : Lawful terms_at terms_says
unfolding terms_at some_rows
Lawful-terms =
    Lawful-same (reads cons (both term_at (more_at 93 signed_at most))) Terms terms_says
    (Lawful-reads cons (Lawful-term_then (more_at 93 signed_at most) (More 93 signed_says most) (Lawful-further most) (more_starts most))) terms_there terms_back
