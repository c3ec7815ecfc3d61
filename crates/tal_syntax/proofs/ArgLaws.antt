-- Operands are read exactly.
use Rattle.std.proofs.Common.{◌≡◌, List, [], ◌∷◌, Option, Some, None, refl, sym, subst}
use Rattle.std.specs.Option.{option_to_list}
use lib.Dec.{eqb}
use Rattle.ia32_code.specs.declared.instruction.Reg.TheVariants.{Eax}
use Rattle.text_tokens.specs.Token.{Lexeme, Key, Register, Name, Number, Mark, EndOfLine}
use Rattle.text_tokens.specs.declared.token.Keyword.TheVariants as key
use Rattle.tal_syntax.specs.declared.form.Arg.{Arg}
use Rattle.tal_syntax.specs.declared.form.Arg.TheVariants as arg
use Rattle.tal_syntax.specs.declared.instructions.Operands.{Operands}
use Rattle.tal_syntax.specs.declared.instructions.Operands.TheVariants as operands
use Rattle.tal_syntax.specs.Sentences.{◌⊕◌}
use Rattle.tal_syntax.specs.Grammar.{mark, name, number_lexeme, end_lexeme, comma, type_says, terms_says, arg_says, count_says, called_says, target_says, alone_says, pair_says, up_to_three_say, none_says, args_say}
use Rattle.tal_syntax.specs.Reading.{Read, reads, cons, name_at, line_end_at}
use Rattle.tal_syntax.specs.Operands.{arg_of, arg_at, count_arg_of, count_at, called_of, called_at, target_at, last_at, alone, two_args_at, third_of, third_at, second_of, second_at, up_to_three_at, args_at}
use Rattle.tal_syntax.proofs.Lawful.{Lawful, Made, Both, Nothing, nothing, Lawful-done, Lawful-both, Lawful-reads, Lawful-same}
use Rattle.tal_syntax.proofs.LawfulChoices.{Chosen, Lawful-choose, Opened, opened_law, law_of, led, led_by_mark, lead}
use Rattle.tal_syntax.proofs.TokenLaws.{Lawful-name, Lawful-number_lexeme, Lawful-end, ended}
use Rattle.tal_syntax.proofs.TypeLaws.{Lawful-type}
use Rattle.tal_syntax.proofs.ListLaws.{Lawful-comma}
use Rattle.tal_syntax.proofs.TermLaws.{Lawful-terms}

-- ---- any operand

-- a memory operand behind its bracket
abbrev Memory : Arg → List Lexeme → Type 0
Memory = Made (λ xs. arg.Memory xs) terms_says

abbrev arg_rest : Lexeme → Arg → List Lexeme → Type 0
arg_rest (Register r) = Nothing (arg.Register r)
arg_rest (Number n) = Nothing (arg.Number n)
arg_rest (Key key.Null) = Made (λ t. arg.Null t) type_says
arg_rest (Key key.Tab) = Made (λ n. arg.Tab n) name
arg_rest (Key key.Desc) = Made (λ n. arg.Desc n) name
arg_rest (Key key.Code) = Made (λ n. arg.Code n) name
arg_rest (Key key.Data) = Made (λ n. arg.DataOf n) name
arg_rest (Mark b) = Opened 91 Memory b
arg_rest _ = λ x ts. ⊥

-- each way to read an operand
arg_laws : (t : Lexeme) (p : Read Arg) → arg_of t ≡ Some p → Lawful p (arg_rest t)
arg_laws (Register r) p e = law_of (Lawful-done (arg.Register r)) e
arg_laws (Number n) p e = law_of (Lawful-done (arg.Number n)) e
arg_laws (Key key.Null) p e = law_of (Lawful-reads (λ t. arg.Null t) Lawful-type) e
arg_laws (Key key.Tab) p e = law_of (Lawful-reads (λ n. arg.Tab n) Lawful-name) e
arg_laws (Key key.Desc) p e = law_of (Lawful-reads (λ n. arg.Desc n) Lawful-name) e
arg_laws (Key key.Code) p e = law_of (Lawful-reads (λ n. arg.Code n) Lawful-name) e
arg_laws (Key key.Data) p e = law_of (Lawful-reads (λ n. arg.DataOf n) Lawful-name) e
arg_laws (Mark b) p e = opened_law 91 b (eqb b 91) (Lawful-reads (λ xs. arg.Memory xs) Lawful-terms) refl e
arg_laws _ p e = absurd cc

-- a token before what stands behind it
arg_there : (t : Lexeme) (x : Arg) (ts : List Lexeme) → arg_rest t x ts → arg_says x (t ∷ ts)
arg_there (Register r) x ts s = rw (s.none, s.value) refl
arg_there (Number n) x ts s = rw (s.none, s.value) refl
arg_there (Key key.Null) x ts s = led arg_says (Key key.Null) x ts s (λ y us j. j)
arg_there (Key key.Tab) x ts s = led arg_says (Key key.Tab) x ts s (λ y us j. j)
arg_there (Key key.Desc) x ts s = led arg_says (Key key.Desc) x ts s (λ y us j. j)
arg_there (Key key.Code) x ts s = led arg_says (Key key.Code) x ts s (λ y us j. j)
arg_there (Key key.Data) x ts s = led arg_says (Key key.Data) x ts s (λ y us j. j)
arg_there (Mark b) x ts s = led_by_mark arg_says 91 b x ts s (λ y us j. j)
arg_there _ x ts s = absurd s

-- an operand by its first token
arg_back : (x : Arg) (ts : List Lexeme) → arg_says x ts → Chosen arg_of arg_rest x ts
arg_back (arg.Register r) ts s = record { token = Register r; back = []; parts = s; way = _; picks = refl; two = nothing (arg.Register r) }
arg_back (arg.Number n) ts s = record { token = Number n; back = []; parts = s; way = _; picks = refl; two = nothing (arg.Number n) }
arg_back (arg.Null t) ts s = record { token = Key key.Null; back = s.back; parts = lead (Key key.Null) ts s; way = _; picks = refl; two = record { of = t; value = refl; says = s.two } }
arg_back (arg.Tab n) ts s = record { token = Key key.Tab; back = s.back; parts = lead (Key key.Tab) ts s; way = _; picks = refl; two = record { of = n; value = refl; says = s.two } }
arg_back (arg.Desc n) ts s = record { token = Key key.Desc; back = s.back; parts = lead (Key key.Desc) ts s; way = _; picks = refl; two = record { of = n; value = refl; says = s.two } }
arg_back (arg.Code n) ts s = record { token = Key key.Code; back = s.back; parts = lead (Key key.Code) ts s; way = _; picks = refl; two = record { of = n; value = refl; says = s.two } }
arg_back (arg.DataOf n) ts s = record { token = Key key.Data; back = s.back; parts = lead (Key key.Data) ts s; way = _; picks = refl; two = record { of = n; value = refl; says = s.two } }
arg_back (arg.Memory xs) ts s = record { token = Mark 91; back = s.back; parts = lead (Mark 91) ts s; way = _; picks = refl; two = record { is = refl; two = record { of = xs; value = refl; says = s.two } } }
arg_back _ ts s = absurd s

-- an operand is read exactly
Lawful-arg : Lawful arg_at arg_says
unfolding arg_at
Lawful-arg = Lawful-choose arg_of arg_rest arg_says arg_laws arg_there arg_back (record { value = arg.Register Eax; text = Register Eax ∷ []; says = refl })

-- ---- the count of a shift

abbrev count_rest : Lexeme → Arg → List Lexeme → Type 0
count_rest (Key key.Cl) = Nothing arg.Cl
count_rest t = arg_rest t

-- each way to read a count
count_laws : (t : Lexeme) (p : Read Arg) → count_arg_of t ≡ Some p → Lawful p (count_rest t)
count_laws (Key key.Cl) p e = law_of (Lawful-done arg.Cl) e
count_laws t p e = arg_laws t p e

-- each operand may be a count
may_count : (x : Arg) (ts : List Lexeme) → arg_says x ts → count_says x ts
may_count arg.Cl ts s = absurd s
may_count x ts s = s

-- a token before what stands behind it in a count
count_there : (t : Lexeme) (x : Arg) (ts : List Lexeme) → count_rest t x ts → count_says x (t ∷ ts)
count_there (Key key.Cl) x ts s = rw (s.none, s.value) refl
count_there t x ts s = may_count x (t ∷ ts) (arg_there t x ts s)

-- an operand is read alike as a count,
as_count : (x : Arg) (t : Lexeme) (way : Read Arg) (ts : List Lexeme) → arg_of t ≡ Some way → arg_rest t x ts → (count_arg_of t ≡ Some way) × count_rest t x ts
as_count x (Key key.Cl) way ts e s = absurd cc
as_count x t way ts e s = (e, s)

-- by the same token
chosen_count : (x : Arg) (ts : List Lexeme) → Chosen arg_of arg_rest x ts → Chosen count_arg_of count_rest x ts
chosen_count x ts b =
    let c = as_count x b.token b.way b.back b.picks b.two in
    record { token = b.token; back = b.back; parts = b.parts; way = b.way; picks = c.0; two = c.1 }

-- a count by its first token
count_back : (x : Arg) (ts : List Lexeme) → count_says x ts → Chosen count_arg_of count_rest x ts
count_back arg.Cl ts s = record { token = Key key.Cl; back = []; parts = s; way = _; picks = refl; two = nothing arg.Cl }
count_back x ts s = chosen_count x ts (arg_back x ts s)

-- a count is read exactly
Lawful-count : Lawful count_at count_says
unfolding count_at
Lawful-count = Lawful-choose count_arg_of count_rest count_says count_laws count_there count_back (record { value = arg.Cl; text = Key key.Cl ∷ []; says = refl })

-- ---- what a call goes to, and labels

abbrev called_rest : Lexeme → Arg → List Lexeme → Type 0
called_rest (Register r) = Nothing (arg.Register r)
called_rest (Name n) = Nothing (arg.Target n)
called_rest (Key key.Nucleus) = Made (λ k. arg.Nucleus k) number_lexeme
called_rest (Mark b) = Opened 91 Memory b
called_rest _ = λ x ts. ⊥

-- each way to read what a call goes to
called_laws : (t : Lexeme) (p : Read Arg) → called_of t ≡ Some p → Lawful p (called_rest t)
called_laws (Register r) p e = law_of (Lawful-done (arg.Register r)) e
called_laws (Name n) p e = law_of (Lawful-done (arg.Target n)) e
called_laws (Key key.Nucleus) p e = law_of (Lawful-reads (λ k. arg.Nucleus k) Lawful-number_lexeme) e
called_laws (Mark b) p e = opened_law 91 b (eqb b 91) (Lawful-reads (λ xs. arg.Memory xs) Lawful-terms) refl e
called_laws _ p e = absurd cc

-- a token before what stands behind it in a call
called_there : (t : Lexeme) (x : Arg) (ts : List Lexeme) → called_rest t x ts → called_says x (t ∷ ts)
called_there (Register r) x ts s = rw (s.none, s.value) refl
called_there (Name n) x ts s = rw (s.none, s.value) refl
called_there (Key key.Nucleus) x ts s = led called_says (Key key.Nucleus) x ts s (λ y us j. j)
called_there (Mark b) x ts s = led_by_mark called_says 91 b x ts s (λ y us j. j)
called_there _ x ts s = absurd s

-- what a call goes to by its first token
called_back : (x : Arg) (ts : List Lexeme) → called_says x ts → Chosen called_of called_rest x ts
called_back (arg.Register r) ts s = record { token = Register r; back = []; parts = s; way = _; picks = refl; two = nothing (arg.Register r) }
called_back (arg.Target n) ts s = record { token = Name n; back = []; parts = s; way = _; picks = refl; two = nothing (arg.Target n) }
called_back (arg.Nucleus k) ts s = record { token = Key key.Nucleus; back = s.back; parts = lead (Key key.Nucleus) ts s; way = _; picks = refl; two = record { of = k; value = refl; says = s.two } }
called_back (arg.Memory xs) ts s = record { token = Mark 91; back = s.back; parts = lead (Mark 91) ts s; way = _; picks = refl; two = record { is = refl; two = record { of = xs; value = refl; says = s.two } } }
called_back _ ts s = absurd s

-- what a call goes to is read exactly
Lawful-called : Lawful called_at called_says
unfolding called_at
Lawful-called = Lawful-choose called_of called_rest called_says called_laws called_there called_back (record { value = arg.Register Eax; text = Register Eax ∷ []; says = refl })

-- a label by its name
target_back : (x : Arg) (ts : List Lexeme) → target_says x ts → Made (λ n. arg.Target n) name x ts
target_back (arg.Target n) ts s = record { of = n; value = refl; says = s }
target_back _ ts s = absurd s

-- a label is read exactly
Lawful-target : Lawful target_at target_says
Lawful-target = Lawful-same (reads (λ n. arg.Target n) name_at) (Made (λ n. arg.Target n) name) target_says (Lawful-reads (λ n. arg.Target n) Lawful-name) (λ x ts s. subst (λ (y : Arg). target_says y ts) (sym s.value) s.says) target_back

-- ---- the operands of an instruction, and the line's end

module _ (p : Read Arg) (S : Arg → List Lexeme → Type 0) (lp : Lawful p S) where
  -- an operand, and the line's end
  abbrev last_says : Arg → List Lexeme → Type 0
  last_says x = S x ⊕ end_lexeme

  Lawful-last : Lawful (last_at p) last_says
  Lawful-last =
      Lawful-same (last_at p) (Made (λ (x : Arg × Unit {0}). x.0) (Both S ended)) last_says (Lawful-reads (λ (x : Arg × Unit {0}). x.0) (Lawful-both lp Lawful-end))
      (λ x ts s. subst (λ (y : Arg). last_says y ts) (sym s.value) s.says) (λ x ts s. record { of = (x, tt); value = refl; says = s })

  -- one operand alone, from the list
  alone_back : (xs : List Arg) (ts : List Lexeme) → alone_says S xs ts → Made (λ x. x ∷ []) last_says xs ts
  alone_back [] ts s = absurd s
  alone_back (x ∷ []) ts s = record { of = x; value = refl; says = s }
  alone_back (x ∷ y ∷ ys) ts s = absurd s

  Lawful-alone : Lawful (alone p) (alone_says S)
  Lawful-alone = Lawful-same (alone p) (Made (λ x. x ∷ []) last_says) (alone_says S) (Lawful-reads (λ x. x ∷ []) Lawful-last) (λ xs ts s. subst (λ (l : List Arg). alone_says S l ts) (sym s.value) s.says) alone_back

  abbrev two_made : List Arg → List Lexeme → Type 0
  two_made = Made (λ (x : Arg × Arg). x.0 ∷ x.1 ∷ []) (Both arg_says (comma last_says))

  -- two operands, from the list
  pair_back : (xs : List Arg) (ts : List Lexeme) → pair_says S xs ts → two_made xs ts
  pair_back [] ts s = absurd s
  pair_back (x ∷ []) ts s = absurd s
  pair_back (x ∷ y ∷ []) ts s = record { of = (x, y); value = refl; says = s }
  pair_back (x ∷ y ∷ z ∷ zs) ts s = absurd s

  Lawful-two_args_at : Lawful (two_args_at p) (pair_says S)
  Lawful-two_args_at =
      Lawful-same (two_args_at p) two_made (pair_says S) (Lawful-reads (λ (x : Arg × Arg). x.0 ∷ x.1 ∷ []) (Lawful-both Lawful-arg (Lawful-comma (last_at p) last_says Lawful-last)))
      (λ xs ts s. subst (λ (l : List Arg). pair_says S l ts) (sym s.value) s.says) pair_back

-- the third operand, where there is one
abbrev third_says : Option Arg → List Lexeme → Type 0
third_says None = end_lexeme
third_says (Some z) = mark 44 ⊕ arg_says z ⊕ end_lexeme

abbrev third_rest : Lexeme → Option Arg → List Lexeme → Type 0
third_rest EndOfLine = Nothing None
third_rest (Mark b) = Opened 44 (Made (λ x. Some x) (last_says arg_at arg_says Lawful-arg)) b
third_rest _ = λ x ts. ⊥

-- each way to go on behind the second
third_laws : (t : Lexeme) (p : Read (Option Arg)) → third_of t ≡ Some p → Lawful p (third_rest t)
third_laws EndOfLine p e = law_of (Lawful-done None) e
third_laws (Mark b) p e = opened_law 44 b (eqb b 44) (Lawful-reads (λ x. Some x) (Lawful-last arg_at arg_says Lawful-arg)) refl e
third_laws _ p e = absurd cc

-- a token before what stands behind the second
third_there : (t : Lexeme) (x : Option Arg) (ts : List Lexeme) → third_rest t x ts → third_says x (t ∷ ts)
third_there EndOfLine x ts s = rw (s.none, s.value) refl
third_there (Mark b) x ts s = led_by_mark third_says 44 b x ts s (λ y us j. j)
third_there _ x ts s = absurd s

-- the third by its first token
third_back : (x : Option Arg) (ts : List Lexeme) → third_says x ts → Chosen third_of third_rest x ts
third_back None ts s = record { token = EndOfLine; back = []; parts = s; way = _; picks = refl; two = nothing None }
third_back (Some z) ts s = record { token = Mark 44; back = s.back; parts = lead (Mark 44) ts s; way = _; picks = refl; two = record { is = refl; two = record { of = z; value = refl; says = s.two } } }

-- a third operand is read exactly
Lawful-third : Lawful third_at third_says
unfolding third_at
Lawful-third = Lawful-choose third_of third_rest third_says third_laws third_there third_back (record { value = None; text = EndOfLine ∷ []; says = refl })

-- the second, and what stands behind it
abbrev second_says : List Arg → List Lexeme → Type 0
second_says [] = end_lexeme
second_says (y ∷ []) = mark 44 ⊕ arg_says y ⊕ end_lexeme
second_says (y ∷ z ∷ []) = mark 44 ⊕ arg_says y ⊕ mark 44 ⊕ arg_says z ⊕ end_lexeme
second_says _ = λ ts. ⊥

-- the second with a third perhaps
abbrev Second : List Arg → List Lexeme → Type 0
Second = Made (λ x. x.0 ∷ option_to_list x.1) (Both arg_says third_says)

abbrev second_rest : Lexeme → List Arg → List Lexeme → Type 0
second_rest EndOfLine = Nothing []
second_rest (Mark b) = Opened 44 Second b
second_rest _ = λ x ts. ⊥

-- each way to go on behind the first
second_laws : (t : Lexeme) (p : Read (List Arg)) → second_of t ≡ Some p → Lawful p (second_rest t)
second_laws EndOfLine p e = law_of (Lawful-done []) e
second_laws (Mark b) p e = opened_law 44 b (eqb b 44) (Lawful-reads (λ x. x.0 ∷ option_to_list x.1) (Lawful-both Lawful-arg Lawful-third)) refl e
second_laws _ p e = absurd cc

-- the second with a third or none
with_third : (y : Arg) (o : Option Arg) (ts : List Lexeme) → (mark 44 ⊕ arg_says y ⊕ third_says o) ts → second_says (y ∷ option_to_list o) ts
with_third y None ts s = s
with_third y (Some z) ts s = s

-- a token before what stands behind the first
second_there : (t : Lexeme) (xs : List Arg) (ts : List Lexeme) → second_rest t xs ts → second_says xs (t ∷ ts)
second_there EndOfLine xs ts s = rw (s.none, s.value) refl
second_there (Mark b) xs ts s = led_by_mark second_says 44 b xs ts s (λ y us j. with_third y.0 y.1 us j)
second_there _ xs ts s = absurd s

-- the others by their first token
second_back : (xs : List Arg) (ts : List Lexeme) → second_says xs ts → Chosen second_of second_rest xs ts
second_back [] ts s = record { token = EndOfLine; back = []; parts = s; way = _; picks = refl; two = nothing [] }
second_back (y ∷ []) ts s = record { token = Mark 44; back = s.back; parts = lead (Mark 44) ts s; way = _; picks = refl; two = record { is = refl; two = record { of = (y, None); value = refl; says = s.two } } }
second_back (y ∷ z ∷ []) ts s = record { token = Mark 44; back = s.back; parts = lead (Mark 44) ts s; way = _; picks = refl; two = record { is = refl; two = record { of = (y, Some z); value = refl; says = s.two } } }
second_back (y ∷ z ∷ w ∷ ws) ts s = absurd s

-- further operands are read exactly
Lawful-second : Lawful second_at second_says
unfolding second_at
Lawful-second = Lawful-choose second_of second_rest second_says second_laws second_there second_back (record { value = []; text = EndOfLine ∷ []; says = refl })

abbrev Counted : List Arg → List Lexeme → Type 0
Counted = Made cons (Both arg_says second_says)

-- the first with the others
with_second : (x : Arg) (xs : List Arg) (ts : List Lexeme) → (arg_says x ⊕ second_says xs) ts → up_to_three_say (x ∷ xs) ts
with_second x [] ts s = s
with_second x (y ∷ []) ts s = s
with_second x (y ∷ z ∷ []) ts s = s
with_second x (y ∷ z ∷ w ∷ ws) ts s = absurd s.two

-- one to three operands, from the list
three_back : (xs : List Arg) (ts : List Lexeme) → up_to_three_say xs ts → Counted xs ts
three_back [] ts s = absurd s
three_back (x ∷ []) ts s = record { of = (x, []); value = refl; says = s }
three_back (x ∷ y ∷ []) ts s = record { of = (x, y ∷ []); value = refl; says = s }
three_back (x ∷ y ∷ z ∷ []) ts s = record { of = (x, y ∷ z ∷ []); value = refl; says = s }
three_back (x ∷ y ∷ z ∷ w ∷ ws) ts s = absurd s

-- one to three operands are read exactly
Lawful-three : Lawful up_to_three_at up_to_three_say
Lawful-three =
    Lawful-same up_to_three_at Counted up_to_three_say (Lawful-reads cons (Lawful-both Lawful-arg Lawful-second))
    (λ xs ts s. subst (λ (l : List Arg). up_to_three_say l ts) (sym s.value) (with_second s.of.0 s.of.1 ts s.says)) three_back

-- no operand, from the list
none_back : (xs : List Arg) (ts : List Lexeme) → none_says xs ts → Made (λ (u : Unit {0}). []) ended xs ts
none_back [] ts s = record { of = tt; value = refl; says = s }
none_back (x ∷ xs) ts s = absurd s

-- no operand is read exactly
Lawful-none : Lawful (reads (λ u. []) line_end_at) none_says
Lawful-none = Lawful-same (reads (λ u. []) line_end_at) (Made (λ (u : Unit {0}). []) ended) none_says (Lawful-reads (λ u. []) Lawful-end) (λ xs ts s. subst (λ (l : List Arg). none_says l ts) (sym s.value) s.says) none_back

-- the operands that stand behind a mnemonic are read exactly
pub Lawful-args : (o : Operands) → Lawful (args_at o) (args_say o)
unfolding args_at
Lawful-args operands.Zero = Lawful-none
Lawful-args operands.One = Lawful-alone arg_at arg_says Lawful-arg
Lawful-args operands.Two = Lawful-two_args_at arg_at arg_says Lawful-arg
Lawful-args operands.UpToThree = Lawful-three
Lawful-args operands.Shifted = Lawful-two_args_at count_at count_says Lawful-count
Lawful-args operands.Called = Lawful-alone called_at called_says Lawful-called
Lawful-args operands.Target = Lawful-alone target_at target_says Lawful-target
