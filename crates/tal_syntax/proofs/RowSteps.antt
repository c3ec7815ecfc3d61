-- Reading rows one after another.
use Rattle.std.proofs.Common.{◌≡◌, ℕ, zero, suc, Bool, true, false, cond, List, [], ◌∷◌, ◌++◌, Option, Some, None, Result, Ok, Err, refl, sym, ap, ◌∙◌, append_assoc, arith}
use Rattle.std.proofs.lemmas.List.{append-nil}
use Rattle.std.proofs.lemmas.Bool.{eqb-true}
use Rattle.std.proofs.lemmas.Bool.Decides.{nat_tests}
use lib.Dec.{eqb}
use Rattle.text_tokens.specs.Token.{Lexeme, Mark}
use Rattle.tal_syntax.specs.Reading.{Read, ◌>>?◌, GivesSame, GivesVia, pure, both, reads, cons, if_mark, mark_at, more_at}
use Rattle.tal_syntax.specs.declared.tokens_read.Stop.{Stop}
use Rattle.tal_syntax.specs.declared.tokens_read.Stop.TheVariants.{Refused, Memory}

-- rows that were read before those of a reader
abbrev pub with_front : {A : Type 0} → List A → Result (List A × List Lexeme) (List Lexeme) → Result (List A × List Lexeme) (List Lexeme)
with_front front read = read >>? λ x. Ok (front ++ x.0, x.1)

-- a row goes to the front
regroup : {A : Type 0} (front : List A) (x : A) (read : Result (List A × List Lexeme) (List Lexeme)) → with_front front (read >>? λ xs. Ok (x ∷ xs.0, xs.1)) ≡ with_front (front ++ x ∷ []) read
regroup {A} front x (Ok y) = ap (λ (l : List A). Ok (l, y.1)) (sym (append_assoc front (x ∷ []) y.0))
regroup front x (Err e) = refl

-- an error of a part is one of the whole
pub err_via : {X A B : Type 0} (view : A → B) (e : Stop) (part : Result (X × List Lexeme) (List Lexeme)) (total : Result (B × List Lexeme) (List Lexeme)) (left : List Lexeme) → GivesSame {A = X} (Err e) part left → (part ≡ Err left → total ≡ Err left) → GivesVia view (Err e) total left
err_via view Refused part total left h f = f h
err_via view Memory part total left h f = tt

-- the first row
pub begun : {A : Type 0} (x : A) (read : Result (List A × List Lexeme) (List Lexeme)) → with_front (x ∷ []) read ≡ (read >>? λ xs. Ok (x ∷ xs.0, xs.1))
begun x (Ok y) = refl
begun x (Err e) = refl

-- making a list of a pair is putting the row before the others
made : {A : Type 0} (x : A) (read : Result (List A × List Lexeme) (List Lexeme)) → ◌>>?◌ {A = (A × List A) × List Lexeme} {B = List A × List Lexeme} (◌>>?◌ {A = List A × List Lexeme} {B = (A × List A) × List Lexeme} read (λ y. Ok ((x, y.0), y.1))) (λ z. Ok (cons z.0, z.1)) ≡ (read >>? λ xs. Ok (x ∷ xs.0, xs.1))
made x (Ok y) = refl
made x (Err e) = refl

-- a row, and more
pub row_then : {A : Type 0} (p : Read A) (q : Read (List A)) (ts us : List Lexeme) (x : A) → p ts ≡ Ok (x, us) → reads cons (both p q) ts ≡ (q us >>? λ xs. Ok (x ∷ xs.0, xs.1))
row_then p q ts us x e = rw e (made x (q us))

-- no row
pub row_fails : {A : Type 0} (p : Read A) (q : Read (List A)) (ts left : List Lexeme) → p ts ≡ Err left → reads cons (both p q) ts ≡ Err left
row_fails p q ts left e = rw e refl

-- ---- the closing mark, or not

eqb-refl : (n : ℕ) → eqb n n ≡ true
eqb-refl n = grind (arith, nat_tests)

tested : {A : Type 0} (b m : ℕ) (us : List Lexeme) (r : Bool) (x y : Result (A × List Lexeme) (List Lexeme)) → eqb b m ≡ r → ((ts : List Lexeme) → Mark b ∷ us ≡ Mark m ∷ ts → ⊥) → cond r x y ≡ y
tested b m us false x y e h = refl
tested b m us true x y e h = absurd (h us (ap (λ (n : ℕ). Mark n ∷ us) (eqb-true b m e)))

-- without the mark
pub goes_on : {A : Type 0} (m : ℕ) (q p : Read A) (ts : List Lexeme) → ((us : List Lexeme) → ts ≡ Mark m ∷ us → ⊥) → if_mark m q p ts ≡ p ts
goes_on m q p [] h = refl
goes_on m q p (Mark b ∷ ts) h = tested b m ts (eqb b m) (q ts) (p (Mark b ∷ ts)) refl h
goes_on m q p (t ∷ ts) h = refl

-- with it
pub closes : {A : Type 0} (m : ℕ) (q p : Read A) (ts us : List Lexeme) → ts ≡ Mark m ∷ us → if_mark m q p ts ≡ q us
closes m q p ts us e = rw (e, eqb-refl m) refl

pub takes_mark : (m : ℕ) (us : List Lexeme) → mark_at m (Mark m ∷ us) ≡ Ok (tt, us)
unfolding mark_at
takes_mark m us = ap (λ (r : Bool). let o : Option (Unit {0}) = cond r (Some tt) None in elim o as (λ _. Result (Unit {0} × List Lexeme) (List Lexeme)) [ None ↦ Err (Mark m ∷ us) | Some x ↦ Ok (x, us) ]) (eqb-refl m)

-- ---- the loop

module _ {A : Type 0} (close : ℕ) (next : Read A) where
  -- one row more
  pub row_more : (front : List A) (n : ℕ) (ts vs : List Lexeme) (x : A) (total : Result (List A × List Lexeme) (List Lexeme)) → ((ws : List Lexeme) → ts ≡ Mark close ∷ ws → ⊥) → next ts ≡ Ok (x, vs)
      → with_front front (more_at close next (suc n) ts) ≡ total
      → with_front (front ++ x ∷ []) (more_at close next n vs) ≡ total
  unfolding more_at
  row_more front n ts vs x total unclosed one so_far =
      let p = reads cons (both next (more_at close next n)) in
      sym (regroup front x (more_at close next n vs)) ∙ ap (λ (r : Result (List A × List Lexeme) (List Lexeme)). with_front front r) (sym (row_then next (more_at close next n) ts vs x one) ∙ sym (goes_on close (pure []) p ts unclosed)) ∙ so_far

  -- the closing mark
  pub row_last : (front : List A) (n : ℕ) (ts us : List Lexeme) (total : Result (List A × List Lexeme) (List Lexeme)) → ts ≡ Mark close ∷ us → with_front front (more_at close next n ts) ≡ total → total ≡ Ok (front, us)
  unfolding more_at
  row_last front zero ts us total e so_far = sym so_far ∙ rw (e, takes_mark close us, append-nil front) refl
  row_last front (suc n) ts us total e so_far =
      let p = reads cons (both next (more_at close next n)) in
      sym so_far ∙ rw (closes close (pure []) p ts us e, append-nil front) refl

  -- no row
  pub no_row : (front : List A) (n : ℕ) (ts left : List Lexeme) (total : Result (List A × List Lexeme) (List Lexeme)) → ((ws : List Lexeme) → ts ≡ Mark close ∷ ws → ⊥) → next ts ≡ Err left
      → with_front front (more_at close next (suc n) ts) ≡ total → total ≡ Err left
  unfolding more_at
  no_row front n ts left total unclosed one so_far =
      let p = reads cons (both next (more_at close next n)) in
      sym so_far ∙ rw (goes_on close (pure []) p ts unclosed, row_fails next (more_at close next n) ts left one) refl

  -- after the last count only the closing mark is read
  pub row_end : (front : List A) (ts us : List Lexeme) (total : Result (List A × List Lexeme) (List Lexeme)) → mark_at close ts ≡ Ok (tt, us) → with_front front (more_at close next zero ts) ≡ total → total ≡ Ok (front, us)
  unfolding more_at
  row_end front ts us total e so_far = sym so_far ∙ rw (e, append-nil front) refl

  pub no_end : (front : List A) (ts left : List Lexeme) (total : Result (List A × List Lexeme) (List Lexeme)) → mark_at close ts ≡ Err left → with_front front (more_at close next zero ts) ≡ total → total ≡ Err left
  unfolding more_at
  no_end front ts left total e so_far = sym so_far ∙ rw e refl
