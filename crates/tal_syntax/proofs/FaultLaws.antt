-- A lawful reader stops at the first fault of a line.
use Rattle.std.proofs.Common.{◌≡◌, inl, inr, ℕ, ◌≤◌, Bool, true, false, cond, List, [], ◌∷◌, ◌++◌, Option, Some, None, Result, Ok, Err, refl, sym, ap, subst, ◌∙◌, append_assoc, append-nil, arith}
use Rattle.text_tokens.specs.Token.{Lexeme, Name, Bad, EndOfLine, PlacedLexeme, lexemes_of, long_name, is_long}
use Rattle.tal_syntax.specs.Reading.{Read}
use Rattle.tal_syntax.specs.Text.{column_behind, passed, LineFault, At, whole, refusal, refused_or_long, taken_or_long}
use Rattle.tal_syntax.specs.Faults.{BeginsForm, NoLong, TokenFault, FirstTokenFault}
use Rattle.tal_syntax.specs.declared.form.Form.{Form}
use Rattle.tal_syntax.proofs.Lawful.{Lawful, Stuck}
use Rattle.tal_syntax.proofs.LinePlaces.{place_is, passed_is}

-- ---- a line's items, cut where its tokens are

pub record Cut (items : List PlacedLexeme) (front left : List Lexeme) : Type 0 where
  pub before : List PlacedLexeme
  pub after : List PlacedLexeme
  pub parts : items ≡ before ++ after
  pub one : lexemes_of before ≡ front
  pub two : lexemes_of after ≡ left

cut : (items : List PlacedLexeme) (front left : List Lexeme) → lexemes_of items ≡ front ++ left → Cut items front left
cut items [] left e = record { before = []; after = items; parts = refl; one = refl; two = e }
cut [] (t ∷ front) left e = absurd cc
cut (i ∷ is) (t ∷ front) left e =
    let same : i.token ≡ t = cc in
    let rest : lexemes_of is ≡ front ++ left = cc in
    let c = cut is front left rest in
    record { before = i ∷ c.before; after = c.after; parts = ap (λ (l : List PlacedLexeme). i ∷ l) c.parts; one = ap (λ (l : List Lexeme). i.token ∷ l) c.one ∙ ap (λ (u : Lexeme). u ∷ front) same; two = c.two }

-- ---- long names

pub record LongAt (is : List PlacedLexeme) (column : ℕ) : Type 0 where
  pub front : List PlacedLexeme
  pub item : PlacedLexeme
  pub back : List PlacedLexeme
  pub parts : is ≡ front ++ item ∷ back
  pub short : NoLong (lexemes_of front)
  pub long : is_long item.token ≡ true
  pub place : item.column ≡ column

some_is : (x y : ℕ) → (let l : Option ℕ = Some x in l) ≡ Some y → x ≡ y
some_is x y e = cc

no_long_step : (i : PlacedLexeme) (is : List PlacedLexeme) (r : Bool) → is_long i.token ≡ r → (long_name is ≡ None → NoLong (lexemes_of is)) → cond r (Some i.column) (long_name is) ≡ None → NoLong (lexemes_of (i ∷ is))
no_long_step i is true e rest h = absurd cc
no_long_step i is false e rest h = (e, rest h)

pub no_long : (is : List PlacedLexeme) → long_name is ≡ None → NoLong (lexemes_of is)
unfolding long_name
no_long [] h = tt
no_long (i ∷ is) h = no_long_step i is (is_long i.token) refl (no_long is) h

long_step : (i : PlacedLexeme) (is : List PlacedLexeme) (column : ℕ) (r : Bool) → is_long i.token ≡ r → (long_name is ≡ Some column → LongAt is column) → cond r (Some i.column) (long_name is) ≡ Some column → LongAt (i ∷ is) column
long_step i is column true e rest h = record { front = []; item = i; back = is; parts = refl; short = tt; long = e; place = some_is i.column column h }
long_step i is column false e rest h =
    let l = rest h in
    record { front = i ∷ l.front; item = l.item; back = l.back; parts = ap (λ (x : List PlacedLexeme). i ∷ x) l.parts; short = (e, l.short); long = l.long; place = l.place }

long_at : (is : List PlacedLexeme) (column : ℕ) → long_name is ≡ Some column → LongAt is column
unfolding long_name
long_at [] column h = absurd cc
long_at (i ∷ is) column h = long_step i is column (is_long i.token) refl (long_at is column) h

lexemes_append : (a b : List PlacedLexeme) → lexemes_of (a ++ b) ≡ lexemes_of a ++ lexemes_of b
lexemes_append [] b = refl
lexemes_append (i ∷ a) b = ap (λ (l : List Lexeme). i.token ∷ l) (lexemes_append a b)

-- ---- the reader of a grammar

module _ (p : Read Form) (S : Form → List Lexeme → Type 0) (l : Lawful p S) where
  -- no form goes on with a token that is refused
  no_more : (front : List Lexeme) (t : Lexeme) → ((more : List Lexeme) → p (front ++ t ∷ more) ≡ Err (t ∷ more)) → BeginsForm S (front ++ t ∷ []) → ⊥
  no_more front t stuck b =
      let e = append_assoc front (t ∷ []) b.more in
      let read = l.again b.form (front ++ t ∷ b.more) [] (subst (λ (ts : List Lexeme). S b.form ts) e b.says) in
      let fails : p ((front ++ t ∷ b.more) ++ []) ≡ Err (t ∷ b.more ++ []) = ap p (append_assoc front (t ∷ b.more) []) ∙ stuck (b.more ++ []) in
      let clash = sym read ∙ fails in
      cc

  long_fault : (front : List Lexeme) (t : Lexeme) → is_long t ≡ true → TokenFault S front t 4
  long_fault front (Name w) h = inr (refl, h)
  long_fault front t h = absurd cc

  long_least : (front : List Lexeme) (t : Lexeme) (c : ℕ) → is_long t ≡ true → BeginsForm S (front ++ t ∷ []) → TokenFault S front t c → 4 ≤ c
  long_least front (Name w) c h b (inl f) = absurd (f.1 b)
  long_least front (Name w) c h b (inr f) = let e = f.0 in omega (arith, e)
  long_least front t c h b f = absurd cc

  -- a name that is too long, among tokens that begin a form
  first_long : (items before after : List PlacedLexeme) (column : ℕ) → items ≡ before ++ after → BeginsForm S (lexemes_of before) → LongAt before column → FirstTokenFault S items column 4
  first_long items before after column parts b k =
      let text : lexemes_of before ≡ lexemes_of k.front ++ k.item.token ∷ lexemes_of k.back = ap lexemes_of k.parts ∙ lexemes_append k.front (k.item ∷ k.back) in
      let says = subst (λ (ts : List Lexeme). S b.form (ts ++ b.more)) text b.says in
      let here : BeginsForm S (lexemes_of k.front) = record { form = b.form; more = k.item.token ∷ lexemes_of k.back ++ b.more; says = subst (λ (ts : List Lexeme). S b.form ts) (append_assoc (lexemes_of k.front) (k.item.token ∷ lexemes_of k.back) b.more) says } in
      let next : BeginsForm S (lexemes_of k.front ++ k.item.token ∷ []) = record { form = b.form; more = lexemes_of k.back ++ b.more; says = subst (λ (ts : List Lexeme). S b.form ts) (append_assoc (lexemes_of k.front) (k.item.token ∷ lexemes_of k.back) b.more ∙ sym (append_assoc (lexemes_of k.front) (k.item.token ∷ []) (lexemes_of k.back ++ b.more))) says } in
      record {
        front = k.front;
        item = k.item;
        back = k.back ++ after;
        parts = parts ∙ ap (λ (is : List PlacedLexeme). is ++ after) k.parts ∙ append_assoc k.front (k.item ∷ k.back) after;
        place = k.place;
        begins = here;
        short = k.short;
        fault = long_fault (lexemes_of k.front) k.item.token k.long;
        least = λ c f. long_least (lexemes_of k.front) k.item.token c k.long next f;
      }

  -- the code of a token that is refused
  refused_fault : (front : List Lexeme) (t : Lexeme) (ts : List Lexeme) (items : List PlacedLexeme) (column code : ℕ) → ((more : List Lexeme) → p (front ++ t ∷ more) ≡ Err (t ∷ more)) → refusal items (t ∷ ts) ≡ At column code → TokenFault S front t code
  refused_fault front (Bad d) ts items column code stuck e = cc
  refused_fault front EndOfLine ts items column code stuck e = absurd cc
  refused_fault front t ts items column code stuck e = inl (cc, no_more front t stuck)

  refused_least : (front : List Lexeme) (t : Lexeme) (ts : List Lexeme) (items : List PlacedLexeme) (column code c : ℕ) → refusal items (t ∷ ts) ≡ At column code → TokenFault S front t c → code ≤ c
  refused_least front (Bad d) ts items column code c e f = let same : d ≡ code = cc in omega (arith, same, f)
  refused_least front EndOfLine ts items column code c e f = absurd f
  refused_least front t ts items column code c e (inl f) = let same : 3 ≡ code = cc in let g = f.0 in omega (arith, same, g)
  refused_least front t ts items column code c e (inr f) = let same : 3 ≡ code = cc in let g = f.0 in omega (arith, same, g)

  refused_place : (t : Lexeme) (ts : List Lexeme) (items : List PlacedLexeme) (column code : ℕ) → refusal items (t ∷ ts) ≡ At column code → column_behind items (t ∷ ts) ≡ column
  refused_place EndOfLine ts items column code e = absurd cc
  refused_place (Bad d) ts items column code e = cc
  refused_place t ts items column code e = cc

  -- a token that no form has there, behind tokens without a fault
  first_refused : (items before : List PlacedLexeme) (i : PlacedLexeme) (back : List PlacedLexeme) (column code : ℕ) → items ≡ before ++ i ∷ back → BeginsForm S (lexemes_of before) → NoLong (lexemes_of before)
      → ((more : List Lexeme) → p (lexemes_of before ++ i.token ∷ more) ≡ Err (i.token ∷ more)) → refusal items (i.token ∷ lexemes_of back) ≡ At column code → FirstTokenFault S items column code
  first_refused items before i back column code parts b short stuck e = record {
    front = before;
    item = i;
    back = back;
    parts = parts;
    place = sym (place_is items before (i ∷ back) parts) ∙ refused_place i.token (lexemes_of back) items column code e;
    begins = b;
    short = short;
    fault = refused_fault (lexemes_of before) i.token (lexemes_of back) items column code stuck e;
    least = λ c f. refused_least (lexemes_of before) i.token (lexemes_of back) items column code c e f;
  }

  taken_case : (o : Option ℕ) (before : List PlacedLexeme) (f : Form) (column code : ℕ) → long_name before ≡ o → taken_or_long o f ≡ Err (At column code) → (long_name before ≡ Some column) × (4 ≡ code)
  taken_case None before f column code h e = absurd cc
  taken_case (Some c) before f column code h e = let a : c ≡ column = cc in let b : 4 ≡ code = cc in (h ∙ ap (λ (n : ℕ). Some n) a, b)

  abbrev at_code : List PlacedLexeme → ℕ → ℕ → Type 0
  at_code items column code = FirstTokenFault S items column code

  taken_first : (items : List PlacedLexeme) (x : Form × List Lexeme) (column code : ℕ) → p (lexemes_of items) ≡ Ok x → taken_or_long (long_name (passed items x.1)) x.0 ≡ Err (At column code) → at_code items column code
  taken_first items x column code h e =
      let took = l.took (lexemes_of items) x.0 x.1 h in
      let k = cut items took.front x.1 took.parts in
      let same : passed items x.1 ≡ k.before = ap (λ (ts : List Lexeme). passed items ts) (sym k.two) ∙ passed_is items k.before k.after k.parts in
      let long = taken_case (long_name k.before) k.before x.0 column code refl (ap (λ (is : List PlacedLexeme). taken_or_long (long_name is) x.0) (sym same) ∙ e) in
      let b : BeginsForm S (lexemes_of k.before) = record { form = x.0; more = []; says = subst (λ (ts : List Lexeme). S x.0 ts) (sym k.one ∙ sym (append-nil (lexemes_of k.before))) took.says } in
      subst (λ (n : ℕ). at_code items column n) long.1 (first_long items k.before k.after column k.parts b (long_at k.before column long.0))

  refused_after : (items before after : List PlacedLexeme) (column code : ℕ) → items ≡ before ++ after → BeginsForm S (lexemes_of before) → Stuck p (lexemes_of before) (lexemes_of after) → (o : Option ℕ) → long_name before ≡ o
      → refused_or_long o (refusal items (lexemes_of after)) ≡ At column code → at_code items column code
  refused_after items before after column code parts b stuck (Some c) h e =
      let a : c ≡ column = cc in
      let d : 4 ≡ code = cc in
      subst (λ (n : ℕ). at_code items column n) d (first_long items before after column parts b (long_at before column (h ∙ ap (λ (n : ℕ). Some n) a)))
  refused_after items before [] column code parts b stuck None h e = absurd cc
  refused_after items before (i ∷ back) column code parts b stuck None h e = first_refused items before i back column code parts b (no_long before h) stuck e

  refused_first : (items : List PlacedLexeme) (left : List Lexeme) (column code : ℕ) → p (lexemes_of items) ≡ Err left → refused_or_long (long_name (passed items left)) (refusal items left) ≡ At column code → at_code items column code
  refused_first items left column code h e =
      let r = l.refused (lexemes_of items) left h in
      let k = cut items r.front left r.parts in
      let same : passed items left ≡ k.before = ap (λ (ts : List Lexeme). passed items ts) (sym k.two) ∙ passed_is items k.before k.after k.parts in
      let b : BeginsForm S (lexemes_of k.before) = record { form = r.value; more = r.rest; says = subst (λ (ts : List Lexeme). S r.value (ts ++ r.rest)) (sym k.one) r.begun } in
      let stuck : Stuck p (lexemes_of k.before) (lexemes_of k.after) = subst (λ (ts : List Lexeme). Stuck p (lexemes_of k.before) ts) (sym k.two) (subst (λ (ts : List Lexeme). Stuck p ts left) (sym k.one) r.stuck) in
      refused_after items k.before k.after column code k.parts b stuck (long_name k.before) refl
      (ap (λ (is : List PlacedLexeme). refused_or_long (long_name is) (refusal items (lexemes_of k.after))) (sym same) ∙ ap (λ (ts : List Lexeme). refused_or_long (long_name (passed items left)) (refusal items ts)) k.two ∙ e)

  fault_is : (x y : LineFault) → (let r : Result (Option Form) LineFault = Err x in r) ≡ Err y → x ≡ y
  fault_is x y e = cc

  -- the fault of a line that is read by p is the first one by S
  by_read : (items : List PlacedLexeme) (column code : ℕ) (r : Result (Form × List Lexeme) (List Lexeme)) → p (lexemes_of items) ≡ r → whole items r ≡ Err (At column code) → at_code items column code
  by_read items column code (Ok x) h e = taken_first items x column code h e
  by_read items column code (Err left) h e = refused_first items left column code h (fault_is (refused_or_long (long_name (passed items left)) (refusal items left)) (At column code) e)

  pub first_fault : (items : List PlacedLexeme) (column code : ℕ) → whole items (p (lexemes_of items)) ≡ Err (At column code) → FirstTokenFault S items column code
  first_fault items column code e = by_read items column code (p (lexemes_of items)) refl e
