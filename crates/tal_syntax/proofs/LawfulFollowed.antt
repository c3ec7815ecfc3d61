-- A reader with another one behind it, where what the first takes goes by the next token.
use Rattle.std.proofs.Common.{◌≡◌, ℕ, Bool, true, false, List, [], ◌∷◌, ◌++◌, Option, Some, None, Result, Ok, refl, sym, ap, ◌∙◌}
use Rattle.text_tokens.specs.Token.{Lexeme}
use Rattle.tal_syntax.specs.Reading.{Read, ◌>>?◌, both, choose, is_mark, if_mark}
use Rattle.tal_syntax.proofs.Lawful.{Lawful, Lives, Stuck, Both}
use Rattle.tal_syntax.proofs.LawfulChoices.{Chosen, Lawful-choose, goes, stays, law_of}

-- ---- the same reader, said otherwise

-- what one refuses the other does
stuck_as : {A : Type 0} (p q : Read A) → ((ts : List Lexeme) → p ts ≡ q ts) → (front left : List Lexeme) → Stuck q front left → Stuck p front left
stuck_as p q same front [] h = tt
stuck_as p q same front (t ∷ ts) h = λ more. same (front ++ t ∷ more) ∙ h more

pub Lawful-as : {A : Type 0} (p q : Read A) (S : A → List Lexeme → Type 0) → ((ts : List Lexeme) → p ts ≡ q ts) → Lawful q S → Lawful p S
Lawful-as p q S same l = record {
  lives = l.lives;
  took = λ ts x rest e. l.took ts x rest (sym (same ts) ∙ e);
  again = λ x front rest s. same (front ++ rest) ∙ l.again x front rest s;
  refused = λ ts left e.
      let one = l.refused ts left (sym (same ts) ∙ e) in
      record { front = one.front; parts = one.parts; value = one.value; rest = one.rest; begun = one.begun; stuck = stuck_as p q same one.front left one.stuck };
}

-- ---- a second reader behind what the first token picks

-- the second reader behind the answer of the first
abbrev followed : {A B : Type 0} → Read B → Result (A × List Lexeme) (List Lexeme) → Result ((A × B) × List Lexeme) (List Lexeme)
followed {A} {B} q r = ◌>>?◌ {A = A × List Lexeme} {B = (A × B) × List Lexeme} r (λ x. ◌>>?◌ {A = B × List Lexeme} {B = (A × B) × List Lexeme} (q x.1) (λ y. Ok ((x.0, y.0), y.1)))

-- the reader that is picked, with the second behind it
abbrev behind : {A B : Type 0} → Read B → Option (Read A) → Option (Read (A × B))
behind q None = None
behind q (Some p) = Some (both p q)

abbrev pick_then : {A B : Type 0} → (Lexeme → Option (Read A)) → Read B → Lexeme → Option (Read (A × B))
pick_then pick q t = behind q (pick t)

-- a choice with a reader behind it chooses among readers with it behind them,
chosen_then : {A B : Type 0} (pick : Lexeme → Option (Read A)) (q : Read B) (t : Lexeme) (ts : List Lexeme) (o : Option (Read A)) → pick t ≡ o → both (choose pick) q (t ∷ ts) ≡ choose (pick_then pick q) (t ∷ ts)
chosen_then pick q t ts None e = ap (followed q) (stays pick t ts e) ∙ sym (stays (pick_then pick q) t ts (ap (behind q) e))
chosen_then pick q t ts (Some p) e = ap (followed q) (goes pick t p ts e) ∙ sym (goes (pick_then pick q) t (both p q) ts (ap (behind q) e))

-- for any tokens
both_choose : {A B : Type 0} (pick : Lexeme → Option (Read A)) (q : Read B) (ts : List Lexeme) → both (choose pick) q ts ≡ choose (pick_then pick q) ts
both_choose pick q [] = refl
both_choose pick q (t ∷ ts) = chosen_then pick q t ts (pick t) refl

module _ {A B : Type 0} (pick : Lexeme → Option (Read A)) (R : Lexeme → A → List Lexeme → Type 0) (S : A → List Lexeme → Type 0) (q : Read B) (T : B → List Lexeme → Type 0) (laws : (t : Lexeme) (p : Read A) → pick t ≡ Some p → Lawful (both p q) (Both (R t) T)) (there : (t : Lexeme) (x : A) (ts : List Lexeme) → R t x ts → S x (t ∷ ts)) (back : (x : A) (ts : List Lexeme) → S x ts → Chosen pick R x ts) (live : Lives (Both S T)) where
  abbrev rests : Lexeme → A × B → List Lexeme → Type 0
  rests t = Both (R t) T

  -- the way that is picked is lawful with the reader behind it
  law_at : (t : Lexeme) (r : Read (A × B)) (o : Option (Read A)) → pick t ≡ o → behind q o ≡ Some r → Lawful r (rests t)
  law_at t r None e h = absurd cc
  law_at t r (Some p) e h = law_of (laws t p e) h

  -- a picked token before a sentence
  pair_there : (t : Lexeme) (z : A × B) (ts : List Lexeme) → rests t z ts → Both S T z (t ∷ ts)
  pair_there t z ts s = record { front = t ∷ s.front; back = s.back; parts = ap (λ (l : List Lexeme). t ∷ l) s.parts; one = there t z.0 s.front s.one; two = s.two }

  -- a sentence has its token, and what stands behind it
  pair_back : (z : A × B) (ts : List Lexeme) → Both S T z ts → Chosen (pick_then pick q) rests z ts
  pair_back z ts s =
      let b = back z.0 s.front s.one in
      record {
        token = b.token;
        back = b.back ++ s.back;
        parts = s.parts ∙ ap (λ (l : List Lexeme). l ++ s.back) b.parts;
        way = both b.way q;
        picks = ap (behind q) b.picks;
        two = record { front = b.back; back = s.back; parts = refl; one = b.two; two = s.two };
      }

  -- a choice with a reader behind it is lawful where each of its ways is with that reader
  pub Lawful-choose_then : Lawful (both (choose pick) q) (Both S T)
  Lawful-choose_then =
      Lawful-as (both (choose pick) q) (choose (pick_then pick q)) (Both S T) (both_choose pick q)
      (Lawful-choose (pick_then pick q) rests (Both S T) (λ t r e. law_at t r (pick t) refl e) pair_there pair_back live)

-- ---- a second reader behind a mark or not

-- and so does the choice by a mark,
marked_then : {A B : Type 0} (m : ℕ) (p r : Read A) (q : Read B) (t : Lexeme) (ts : List Lexeme) (b : Bool) → is_mark m t ≡ b → both (if_mark m p r) q (t ∷ ts) ≡ if_mark m (both p q) (both r q) (t ∷ ts)
marked_then m p r q t ts true e = rw (e, if_mark) refl
marked_then m p r q t ts false e = rw (e, if_mark) refl

pub both_mark : {A B : Type 0} (m : ℕ) (p r : Read A) (q : Read B) (ts : List Lexeme) → both (if_mark m p r) q ts ≡ if_mark m (both p q) (both r q) ts
both_mark m p r q [] = refl
both_mark m p r q (t ∷ ts) = marked_then m p r q t ts (is_mark m t) refl
