-- Readers of lists read exactly the sentences of their rows.
use Rattle.std.proofs.Common.{◌≡◌, ℕ, zero, suc, ◌≤◌, Bool, true, false, List, [], ◌∷◌, ◌++◌, length, Ok, Err, refl, sym, ap, subst, ◌∙◌, arith, ◌⊎◌, inl, inr}
use Rattle.std.proofs.lemmas.Bool.{eqb-true}
use Rattle.std.proofs.lemmas.Bool.Decides.{nat_tests}
use lib.Dec.{eqb}
use Rattle.text_tokens.specs.Token.{Lexeme, Mark}
use Rattle.tal_syntax.specs.Sentences.{◌⊕◌}
use Rattle.tal_syntax.specs.Grammar.{mark, comma, more_says, list_says}
use Rattle.tal_syntax.specs.Reading.{Read, pure, both, reads, cons, is_mark, if_mark, mark_at, more_at, most, some_rows, comma_at, rows_at}
use Rattle.tal_syntax.proofs.Lawful.{Lawful, Refusal, Took, Stuck, Made, Both, Nothing, nothing, Lawful-done, Lawful-both, Lawful-reads, Lawful-same}
use Rattle.tal_syntax.proofs.LawfulChoices.{lead}
use Rattle.tal_syntax.proofs.TokenLaws.{Lawful-mark, marked}

-- ---- behind a mark, or not

-- a number is itself
eqb-refl : (n : ℕ) → eqb n n ≡ true
eqb-refl n = grind (arith, nat_tests)

-- a token that is a mark
mark_is : (m : ℕ) (t : Lexeme) → is_mark m t ≡ true → t ≡ Mark m
mark_is m (Mark b) e = ap (λ (n : ℕ). Mark n) (eqb-true b m e)
mark_is m t e = absurd cc

-- tokens that begin otherwise
pub record Starts (stops : Lexeme → Bool) (ts : List Lexeme) : Type 0 where
  pub token : Lexeme
  pub back : List Lexeme
  pub parts : ts ≡ token ∷ back
  pub is : stops token ≡ false

-- a sentence behind the mark, or another
abbrev pub Unless : {A : Type 0} → ℕ → (A → List Lexeme → Type 0) → (A → List Lexeme → Type 0) → A → List Lexeme → Type 0
Unless m P Q x ts = (mark m ⊕ P x) ts ⊎ Q x ts

module _ {A : Type 0} (m : ℕ) (p q : Read A) (P Q : A → List Lexeme → Type 0) (lp : Lawful p P) (lq : Lawful q Q) (apart : (x : A) (ts : List Lexeme) → Q x ts → Starts (is_mark m) ts) where
  behind_mark : (t : Lexeme) (ts : List Lexeme) → is_mark m t ≡ true → if_mark m p q (t ∷ ts) ≡ p ts
  behind_mark t ts e = rw (e, if_mark) refl

  else_read : (t : Lexeme) (ts : List Lexeme) → is_mark m t ≡ false → if_mark m p q (t ∷ ts) ≡ q (t ∷ ts)
  else_read t ts e = rw (e, if_mark) refl

  widen : (ts : List Lexeme) (x : A) (rest : List Lexeme) → Took Q ts x rest → Took (Unless m P Q) ts x rest
  widen ts x rest k = record { front = k.front; parts = k.parts; says = inr k.says }

  -- the mark before a sentence
  with_mark : (t : Lexeme) (x : A) (ts : List Lexeme) → is_mark m t ≡ true → P x ts → Unless m P Q x (t ∷ ts)
  with_mark t x ts e s = inl (record { front = t ∷ []; back = ts; parts = refl; one = ap (λ (u : Lexeme). u ∷ []) (mark_is m t e); two = s })

  un_took : (t : Lexeme) (ts : List Lexeme) (x : A) (rest : List Lexeme) (r : Bool) → is_mark m t ≡ r → if_mark m p q (t ∷ ts) ≡ Ok (x, rest) → Took (Unless m P Q) (t ∷ ts) x rest
  un_took t ts x rest true e h =
      let one = lp.took ts x rest (sym (behind_mark t ts e) ∙ h) in
      record { front = t ∷ one.front; parts = ap (λ (l : List Lexeme). t ∷ l) one.parts; says = with_mark t x one.front e one.says }
  un_took t ts x rest false e h = widen (t ∷ ts) x rest (lq.took (t ∷ ts) x rest (sym (else_read t ts e) ∙ h))

  un_all_took : (ts : List Lexeme) (x : A) (rest : List Lexeme) → if_mark m p q ts ≡ Ok (x, rest) → Took (Unless m P Q) ts x rest
  un_all_took [] x rest h = widen [] x rest (lq.took [] x rest h)
  un_all_took (t ∷ ts) x rest h = un_took t ts x rest (is_mark m t) refl h

  un_again : (x : A) (front rest : List Lexeme) → Unless m P Q x front → if_mark m p q (front ++ rest) ≡ Ok (x, rest)
  un_again x front rest (inl s) =
      ap (λ (l : List Lexeme). if_mark m p q (l ++ rest)) (lead (Mark m) front s) ∙ behind_mark (Mark m) (s.back ++ rest) (eqb-refl m) ∙ lp.again x s.back rest s.two
  un_again x front rest (inr s) =
      let a = apart x front s in
      ap (λ (l : List Lexeme). if_mark m p q (l ++ rest)) a.parts ∙ else_read a.token (a.back ++ rest) a.is ∙ ap (λ (l : List Lexeme). q (l ++ rest)) (sym a.parts) ∙ lq.again x front rest s

  none_left : (front left : List Lexeme) → [] ≡ front ++ left → left ≡ []
  none_left [] left e = sym e
  none_left (t ∷ ts) left e = absurd cc

  -- the first of the tokens is not the mark, so the front's isn't either
  still : (t : Lexeme) (ts front left : List Lexeme) → is_mark m t ≡ false → t ∷ ts ≡ front ++ left → Stuck q front left → Stuck (if_mark m p q) front left
  still t ts front [] e parts h = tt
  still t ts [] (u ∷ us) e parts h =
      let same : t ≡ u = cc in
      let k : is_mark m u ≡ false = ap (is_mark m) (sym same) ∙ e in
      λ more. else_read u more k ∙ h more
  still t ts (f ∷ fs) (u ∷ us) e parts h =
      let same : t ≡ f = cc in
      let k : is_mark m f ≡ false = ap (is_mark m) (sym same) ∙ e in
      λ more. else_read f (fs ++ u ∷ more) k ∙ h more

  stuck_behind : (t : Lexeme) (front left : List Lexeme) → is_mark m t ≡ true → Stuck p front left → Stuck (if_mark m p q) (t ∷ front) left
  stuck_behind t front [] e h = tt
  stuck_behind t front (u ∷ us) e h = λ more. behind_mark t (front ++ u ∷ more) e ∙ h more

  un_refused : (t : Lexeme) (ts left : List Lexeme) (r : Bool) → is_mark m t ≡ r → if_mark m p q (t ∷ ts) ≡ Err left → Refusal (if_mark m p q) (Unless m P Q) (t ∷ ts) left
  un_refused t ts left true e h =
      let one = lp.refused ts left (sym (behind_mark t ts e) ∙ h) in
      record {
        front = t ∷ one.front;
        parts = ap (λ (l : List Lexeme). t ∷ l) one.parts;
        value = one.value;
        rest = one.rest;
        begun = with_mark t one.value (one.front ++ one.rest) e one.begun;
        stuck = stuck_behind t one.front left e one.stuck;
      }
  un_refused t ts left false e h =
      let one = lq.refused (t ∷ ts) left (sym (else_read t ts e) ∙ h) in
      record { front = one.front; parts = one.parts; value = one.value; rest = one.rest; begun = inr one.begun; stuck = still t ts one.front left e one.parts one.stuck }

  un_all_refused : (ts left : List Lexeme) → if_mark m p q ts ≡ Err left → Refusal (if_mark m p q) (Unless m P Q) ts left
  un_all_refused [] left h =
      let one = lq.refused [] left h in
      let none = none_left one.front left one.parts in
      record { front = one.front; parts = one.parts; value = one.value; rest = one.rest; begun = inr one.begun; stuck = subst (λ (l : List Lexeme). Stuck (if_mark m p q) one.front l) (sym none) tt }
  un_all_refused (t ∷ ts) left h = un_refused t ts left (is_mark m t) refl h

  -- one reader behind a mark and another where there is none
  pub Lawful-unless : Lawful (if_mark m p q) (Unless m P Q)
  Lawful-unless = record {
    lives = record { value = lq.lives.value; text = lq.lives.text; says = inr lq.lives.says };
    took = un_all_took;
    again = un_again;
    refused = un_all_refused;
  }

-- ---- lists

-- at most n rows, and the closing mark
abbrev pub More : {A : Type 0} → ℕ → (A → List Lexeme → Type 0) → ℕ → List A → List Lexeme → Type 0
More close N n xs ts = more_says close N xs ts × (length xs ≤ n)

-- the closing mark alone
abbrev Closed : {A : Type 0} → List A → List Lexeme → Type 0
Closed = Nothing []

-- the mark is all that stands there
only : {A : Type 0} (close : ℕ) {xs : List A} (ts : List Lexeme) → (mark close ⊕ Closed xs) ts → ts ≡ Mark close ∷ []
only close ts s = lead (Mark close) ts s ∙ ap (λ (l : List Lexeme). Mark close ∷ l) s.two.none

-- and it ends a list without rows
closing : {A : Type 0} (close : ℕ) (ts : List Lexeme) → ts ≡ Mark close ∷ [] → (mark close ⊕ Closed {A = A} []) ts
closing close ts e = record { front = Mark close ∷ []; back = []; parts = e; one = refl; two = nothing [] }

module _ {A : Type 0} (close : ℕ) (next : Read A) (N : A → List Lexeme → Type 0) (after : (n : ℕ) → Lawful (more_at close next n) (More close N n) → Lawful (both next (more_at close next n)) (Both N (More close N n))) (apart : (x : A) (ts : List Lexeme) → N x ts → Starts (is_mark close) ts) where
  -- a row, and at most n more
  abbrev Rows : ℕ → List A → List Lexeme → Type 0
  Rows n = Made cons (Both N (More close N n))

  none_there : (xs : List A) (ts : List Lexeme) → Made (λ u. []) (marked close) xs ts → More close N zero xs ts
  none_there xs ts s = subst (λ (l : List A). More close N zero l ts) (sym s.value) (s.says, omega arith)

  none_back : (xs : List A) (ts : List Lexeme) → More close N zero xs ts → Made (λ u. []) (marked close) xs ts
  none_back [] ts s = record { of = tt; value = refl; says = s.0 }
  none_back (x ∷ xs) ts s = absurd (let h = s.1 in omega (arith, h))

  some_there : (n : ℕ) (xs : List A) (ts : List Lexeme) → Unless close Closed (Rows n) xs ts → More close N (suc n) xs ts
  some_there n xs ts (inl s) = subst (λ (l : List A). More close N (suc n) l ts) (sym s.two.value) (only close ts s, omega arith)
  some_there n xs ts (inr s) =
      let j = s.says in
      let le = j.two.1 in
      subst (λ (l : List A). More close N (suc n) l ts) (sym s.value) (record { front = j.front; back = j.back; parts = j.parts; one = j.one; two = j.two.0 }, omega (arith, le))

  some_back : (n : ℕ) (xs : List A) (ts : List Lexeme) → More close N (suc n) xs ts → Unless close Closed (Rows n) xs ts
  some_back n [] ts s = inl (closing close ts s.0)
  some_back n (x ∷ xs) ts s =
      let j = s.0 in
      let le = s.1 in
      inr (record { of = (x, xs); value = refl; says = record { front = j.front; back = j.back; parts = j.parts; one = j.one; two = (j.two, omega (arith, le)) } })

  rows_start : (n : ℕ) (xs : List A) (ts : List Lexeme) → Rows n xs ts → Starts (is_mark close) ts
  rows_start n xs ts s =
      let j = s.says in
      let a = apart s.of.0 j.front j.one in
      record { token = a.token; back = a.back ++ j.back; parts = j.parts ∙ ap (λ (l : List Lexeme). l ++ j.back) a.parts; is = a.is }

  pub Lawful-more : (n : ℕ) → Lawful (more_at close next n) (More close N n)
  unfolding more_at
  Lawful-more zero = Lawful-same (reads (λ u. []) (mark_at close)) (Made (λ u. []) (marked close)) (More close N zero) (Lawful-reads (λ u. []) (Lawful-mark close)) none_there none_back
  Lawful-more (suc n) =
      Lawful-same (if_mark close (pure []) (reads cons (both next (more_at close next n)))) (Unless close Closed (Rows n)) (More close N (suc n))
      (Lawful-unless close (pure []) (reads cons (both next (more_at close next n))) Closed (Rows n) (Lawful-done []) (Lawful-reads cons (after n (Lawful-more n))) (rows_start n))
      (some_there n) (some_back n)

module _ {A : Type 0} (item : Read A) (S : A → List Lexeme → Type 0) (li : Lawful item S) where
  comma_there : (x : A) (ts : List Lexeme) → Made (λ (y : Unit {0} × A). y.1) (Both (marked 44) S) x ts → comma S x ts
  comma_there x ts s = subst (λ (y : A). comma S y ts) (sym s.value) s.says

  comma_back : (x : A) (ts : List Lexeme) → comma S x ts → Made (λ (y : Unit {0} × A). y.1) (Both (marked 44) S) x ts
  comma_back x ts s = record { of = (tt, x); value = refl; says = s }

  -- a row behind a comma
  pub Lawful-comma : Lawful (comma_at item) (comma S)
  unfolding comma_at
  Lawful-comma = Lawful-same (reads (λ (y : Unit {0} × A). y.1) (both (mark_at 44) item)) (Made (λ (y : Unit {0} × A). y.1) (Both (marked 44) S)) (comma S) (Lawful-reads (λ (y : Unit {0} × A). y.1) (Lawful-both (Lawful-mark 44) li)) comma_there comma_back

module _ {A : Type 0} (close : ℕ) (item : Read A) (S : A → List Lexeme → Type 0) (li : Lawful item S) (different : eqb 44 close ≡ false) (apart : (x : A) (ts : List Lexeme) → S x ts → Starts (is_mark close) ts) where
  comma_starts : (x : A) (ts : List Lexeme) → comma S x ts → Starts (is_mark close) ts
  comma_starts x ts s = record { token = Mark 44; back = s.back; parts = s.parts ∙ ap (λ (l : List Lexeme). l ++ s.back) s.one; is = different }

  abbrev Others : List A → List Lexeme → Type 0
  Others = More close (comma S) most

  abbrev Listed : List A → List Lexeme → Type 0
  Listed = Made cons (Both S Others)

  list_there : (xs : List A) (ts : List Lexeme) → Unless close Closed Listed xs ts → list_says close S xs ts
  list_there xs ts (inl s) = subst (λ (l : List A). list_says close S l ts) (sym s.two.value) (only close ts s)
  list_there xs ts (inr s) =
      let j = s.says in
      subst (λ (l : List A). list_says close S l ts) (sym s.value) (record { front = j.front; back = j.back; parts = j.parts; one = j.one; two = j.two.0 }, j.two.1)

  list_back : (xs : List A) (ts : List Lexeme) → list_says close S xs ts → Unless close Closed Listed xs ts
  list_back [] ts s = inl (closing close ts s)
  list_back (x ∷ xs) ts s =
      let j = s.0 in
      inr (record { of = (x, xs); value = refl; says = record { front = j.front; back = j.back; parts = j.parts; one = j.one; two = (j.two, s.1) } })

  list_starts : (xs : List A) (ts : List Lexeme) → Listed xs ts → Starts (is_mark close) ts
  list_starts xs ts s =
      let j = s.says in
      let a = apart s.of.0 j.front j.one in
      record { token = a.token; back = a.back ++ j.back; parts = j.parts ∙ ap (λ (l : List Lexeme). l ++ j.back) a.parts; is = a.is }

  pub Lawful-rows : Lawful (rows_at close item) (list_says close S)
  unfolding rows_at some_rows
  Lawful-rows =
      Lawful-same (if_mark close (pure []) (some_rows close item (comma_at item))) (Unless close Closed Listed) (list_says close S)
      (Lawful-unless close (pure []) (some_rows close item (comma_at item)) Closed Listed (Lawful-done []) (Lawful-reads cons (Lawful-both li (Lawful-more close (comma_at item) (comma S) (λ n l. Lawful-both (Lawful-comma item S li) l) comma_starts most))) list_starts)
      list_there list_back
