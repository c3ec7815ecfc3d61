-- A reader reads exactly the sentences of a language, and refuses the first token after which no sentence can follow.
use Rattle.std.proofs.Common.{◌≡◌, List, [], ◌∷◌, ◌++◌, Result, Ok, Err, refl, sym, ap, subst, ◌∙◌, append_assoc}
use Rattle.text_tokens.specs.Token.{Lexeme}
use Rattle.tal_syntax.specs.Reading.{Read, ◌>>?◌, pure, both, reads}
use Rattle.tal_syntax.specs.Sentences.{◌⊕◌}

-- the same answer, whatever follows the refused token
abbrev pub Stuck : {A : Type 0} → Read A → List Lexeme → List Lexeme → Type 0
Stuck p front [] = Unit {0}
Stuck p front (t ∷ ts) = (more : List Lexeme) → p (front ++ t ∷ more) ≡ Err (t ∷ more)

-- what was read begins a sentence, and with the next token begins none
pub record Refusal {A : Type 0} (p : Read A) (S : A → List Lexeme → Type 0) (ts left : List Lexeme) : Type 0 where
  pub front : List Lexeme
  pub parts : ts ≡ front ++ left
  pub value : A
  pub rest : List Lexeme
  pub begun : S value (front ++ rest)
  pub stuck : Stuck p front left

-- the tokens that were read
pub record Took {A : Type 0} (S : A → List Lexeme → Type 0) (ts : List Lexeme) (x : A) (rest : List Lexeme) : Type 0 where
  pub front : List Lexeme
  pub parts : ts ≡ front ++ rest
  pub says : S x front

-- some sentence
pub record Lives {A : Type 0} (S : A → List Lexeme → Type 0) : Type 0 where
  pub value : A
  pub text : List Lexeme
  pub says : S value text

pub record Lawful {A : Type 0} (p : Read A) (S : A → List Lexeme → Type 0) : Type 0 where
  pub lives : Lives S
  pub took : (ts : List Lexeme) (x : A) (rest : List Lexeme) → p ts ≡ Ok (x, rest) → Took S ts x rest
  pub again : (x : A) (front rest : List Lexeme) → S x front → p (front ++ rest) ≡ Ok (x, rest)
  pub refused : (ts left : List Lexeme) → p ts ≡ Err left → Refusal p S ts left

pub ok_is : {A : Type 0} (x y : A × List Lexeme) → (let l : Result (A × List Lexeme) (List Lexeme) = Ok x in l) ≡ Ok y → x ≡ y
ok_is x y e = cc

pub err_is : {A : Type 0} (x y : List Lexeme) → (let l : Result (A × List Lexeme) (List Lexeme) = Err x in l) ≡ Err y → x ≡ y
err_is x y e = cc

-- ---- nothing is read

pub record Nothing {A : Type 0} (v : A) (x : A) (ts : List Lexeme) : Type 0 where
  pub value : x ≡ v
  pub none : ts ≡ []

pub nothing : {A : Type 0} (v : A) → Nothing v v []
nothing v = record { value = refl; none = refl }

pub Lawful-done : {A : Type 0} (v : A) → Lawful (pure v) (Nothing v)
Lawful-done {A} v = record {
  lives = record { value = v; text = []; says = nothing v };
  took = λ ts x rest e.
      let h : (v, ts) ≡ (x, rest) = ok_is (v, ts) (x, rest) e in
      subst (λ (y : A × List Lexeme). Took (Nothing v) ts y.0 y.1) h (record { front = []; parts = refl; says = nothing v });
  again = λ x front rest s. rw (s.none, s.value) refl;
  refused = λ ts left e. absurd cc;
}

-- ---- one after the other

-- the sentences of a pair
abbrev pub Both : {A B : Type 0} → (A → List Lexeme → Type 0) → (B → List Lexeme → Type 0) → A × B → List Lexeme → Type 0
Both S T x = S x.0 ⊕ T x.1

module _ {A B : Type 0} (p : Read A) (q : Read B) (S : A → List Lexeme → Type 0) (T : B → List Lexeme → Type 0) (lp : Lawful p S) (lq : Lawful q T) where
  -- the second reader's answer, with the first value
  abbrev behind : A → Result (B × List Lexeme) (List Lexeme) → Result ((A × B) × List Lexeme) (List Lexeme)
  behind x r = ◌>>?◌ {A = B × List Lexeme} {B = (A × B) × List Lexeme} r (λ y. Ok ((x, y.0), y.1))

  -- both answers
  abbrev joined : Result (A × List Lexeme) (List Lexeme) → Result ((A × B) × List Lexeme) (List Lexeme)
  joined r = ◌>>?◌ {A = A × List Lexeme} {B = (A × B) × List Lexeme} r (λ x. behind x.0 (q x.1))

  second_took : (ts : List Lexeme) (a : A) (us : List Lexeme) (z : A × B) (rest : List Lexeme) (r : Result (B × List Lexeme) (List Lexeme)) → Took S ts a us → q us ≡ r → behind a r ≡ Ok (z, rest) → Took (Both S T) ts z rest
  second_took ts a us z rest (Ok y) one e h =
      let same : ((a, y.0), y.1) ≡ (z, rest) = ok_is ((a, y.0), y.1) (z, rest) h in
      let two = lq.took us y.0 y.1 e in
      subst (λ (w : (A × B) × List Lexeme). Took (Both S T) ts w.0 w.1) same (record {
        front = one.front ++ two.front;
        parts = one.parts ∙ ap (λ (t : List Lexeme). one.front ++ t) two.parts ∙ sym (append_assoc one.front two.front y.1);
        says = record { front = one.front; back = two.front; parts = refl; one = one.says; two = two.says };
      })
  second_took ts a us z rest (Err s) one e h = absurd cc

  both_took : (ts : List Lexeme) (z : A × B) (rest : List Lexeme) (r : Result (A × List Lexeme) (List Lexeme)) → p ts ≡ r → joined r ≡ Ok (z, rest) → Took (Both S T) ts z rest
  both_took ts z rest (Ok x) e h = second_took ts x.0 x.1 z rest (q x.1) (lp.took ts x.0 x.1 e) refl h
  both_took ts z rest (Err s) e h = absurd cc

  both_again : (z : A × B) (front rest : List Lexeme) → Both S T z front → joined (p (front ++ rest)) ≡ Ok (z, rest)
  both_again z front rest s =
      let one : p (front ++ rest) ≡ Ok (z.0, s.back ++ rest) =
      ap (λ (t : List Lexeme). p (t ++ rest)) s.parts ∙ ap p (append_assoc s.front s.back rest) ∙ lp.again z.0 s.front (s.back ++ rest) s.one in
      ap joined one ∙ ap (behind z.0) (lq.again z.1 s.back rest s.two)

  stuck_on : (front : List Lexeme) (a : A) (back left : List Lexeme) → S a front → Stuck q back left → Stuck (both p q) (front ++ back) left
  stuck_on front a back [] s h = tt
  stuck_on front a back (t ∷ ts) s h = λ more.
      let one : p ((front ++ back) ++ t ∷ more) ≡ Ok (a, back ++ t ∷ more) = ap p (append_assoc front back (t ∷ more)) ∙ lp.again a front (back ++ t ∷ more) s in
      ap joined one ∙ ap (behind a) (h more)

  stuck_at : (front left : List Lexeme) → Stuck p front left → Stuck (both p q) front left
  stuck_at front [] h = tt
  stuck_at front (t ∷ ts) h = λ more. ap joined (h more)

  second_refused : (ts : List Lexeme) (a : A) (us left : List Lexeme) (r : Result (B × List Lexeme) (List Lexeme)) → Took S ts a us → q us ≡ r → behind a r ≡ Err left → Refusal (both p q) (Both S T) ts left
  second_refused ts a us left (Ok y) one e h = absurd cc
  second_refused ts a us left (Err s) one e h =
      let same : s ≡ left = err_is {A = A × B} s left h in
      let two = lq.refused us left (e ∙ ap (λ (t : List Lexeme). Err t) same) in
      record {
        front = one.front ++ two.front;
        parts = one.parts ∙ ap (λ (t : List Lexeme). one.front ++ t) two.parts ∙ sym (append_assoc one.front two.front left);
        value = (a, two.value);
        rest = two.rest;
        begun = record { front = one.front; back = two.front ++ two.rest; parts = append_assoc one.front two.front two.rest; one = one.says; two = two.begun };
        stuck = stuck_on one.front a two.front left one.says two.stuck;
      }

  both_refused : (ts left : List Lexeme) (r : Result (A × List Lexeme) (List Lexeme)) → p ts ≡ r → joined r ≡ Err left → Refusal (both p q) (Both S T) ts left
  both_refused ts left (Ok x) e h = second_refused ts x.0 x.1 left (q x.1) (lp.took ts x.0 x.1 e) refl h
  both_refused ts left (Err s) e h =
      let same : s ≡ left = err_is {A = A × B} s left h in
      let one = lp.refused ts left (e ∙ ap (λ (t : List Lexeme). Err t) same) in
      let more = lq.lives in
      record {
        front = one.front;
        parts = one.parts;
        value = (one.value, more.value);
        rest = one.rest ++ more.text;
        begun = record { front = one.front ++ one.rest; back = more.text; parts = sym (append_assoc one.front one.rest more.text); one = one.begun; two = more.says };
        stuck = stuck_at one.front left one.stuck;
      }

  both_lives : Lives (Both S T)
  both_lives = record { value = (lp.lives.value, lq.lives.value); text = lp.lives.text ++ lq.lives.text; says = record { front = lp.lives.text; back = lq.lives.text; parts = refl; one = lp.lives.says; two = lq.lives.says } }

  pub Lawful-pair : Lawful (both p q) (Both S T)
  Lawful-pair = record {
    lives = both_lives;
    took = λ ts z rest e. both_took ts z rest (p ts) refl e;
    again = both_again;
    refused = λ ts left e. both_refused ts left (p ts) refl e;
  }

-- one reader after the other reads the sentences of pairs
pub Lawful-both : {A B : Type 0} {p : Read A} {q : Read B} {S : A → List Lexeme → Type 0} {T : B → List Lexeme → Type 0} → Lawful p S → Lawful q T → Lawful (both p q) (Both S T)
Lawful-both {A} {B} {p} {q} {S} {T} lp lq = Lawful-pair p q S T lp lq

-- ---- what is made of a value

-- a value that is made of one with these tokens
pub record Made {A B : Type 0} (make : A → B) (S : A → List Lexeme → Type 0) (y : B) (ts : List Lexeme) : Type 0 where
  pub of : A
  pub value : y ≡ make of
  pub says : S of ts

module _ {A B : Type 0} (make : A → B) (p : Read A) (S : A → List Lexeme → Type 0) (lp : Lawful p S) where
  -- the answer with the value made
  abbrev made : Result (A × List Lexeme) (List Lexeme) → Result (B × List Lexeme) (List Lexeme)
  made r = ◌>>?◌ {A = A × List Lexeme} {B = B × List Lexeme} r (λ x. Ok (make x.0, x.1))

  made_took : (ts : List Lexeme) (y : B) (rest : List Lexeme) (r : Result (A × List Lexeme) (List Lexeme)) → p ts ≡ r → made r ≡ Ok (y, rest) → Took (Made make S) ts y rest
  made_took ts y rest (Ok x) e h =
      let same : (make x.0, x.1) ≡ (y, rest) = ok_is (make x.0, x.1) (y, rest) h in
      let one = lp.took ts x.0 x.1 e in
      subst (λ (w : B × List Lexeme). Took (Made make S) ts w.0 w.1) same (record { front = one.front; parts = one.parts; says = record { of = x.0; value = refl; says = one.says } })
  made_took ts y rest (Err s) e h = absurd cc

  made_again : (y : B) (front rest : List Lexeme) → Made make S y front → made (p (front ++ rest)) ≡ Ok (y, rest)
  made_again y front rest s = ap made (lp.again s.of front rest s.says) ∙ ap (λ (z : B). Ok (z, rest)) (sym s.value)

  made_stuck : (front left : List Lexeme) → Stuck p front left → Stuck (reads make p) front left
  made_stuck front [] h = tt
  made_stuck front (t ∷ ts) h = λ more. ap made (h more)

  made_refused : (ts left : List Lexeme) (r : Result (A × List Lexeme) (List Lexeme)) → p ts ≡ r → made r ≡ Err left → Refusal (reads make p) (Made make S) ts left
  made_refused ts left (Ok x) e h = absurd cc
  made_refused ts left (Err s) e h =
      let same : s ≡ left = err_is {A = B} s left h in
      let one = lp.refused ts left (e ∙ ap (λ (t : List Lexeme). Err t) same) in
      record { front = one.front; parts = one.parts; value = make one.value; rest = one.rest; begun = record { of = one.value; value = refl; says = one.begun }; stuck = made_stuck one.front left one.stuck }

  pub Lawful-made : Lawful (reads make p) (Made make S)
  Lawful-made = record {
    lives = record { value = make lp.lives.value; text = lp.lives.text; says = record { of = lp.lives.value; value = refl; says = lp.lives.says } };
    took = λ ts y rest e. made_took ts y rest (p ts) refl e;
    again = made_again;
    refused = λ ts left e. made_refused ts left (p ts) refl e;
  }

-- a reader whose value is made of another's
pub Lawful-reads : {A B : Type 0} (make : A → B) {p : Read A} {S : A → List Lexeme → Type 0} → Lawful p S → Lawful (reads make p) (Made make S)
Lawful-reads make {p} {S} lp = Lawful-made make p S lp

-- ---- the same sentences, said otherwise

pub Lawful-same : {A : Type 0} (p : Read A) (S T : A → List Lexeme → Type 0) → Lawful p S → ((x : A) (ts : List Lexeme) → S x ts → T x ts) → ((x : A) (ts : List Lexeme) → T x ts → S x ts) → Lawful p T
Lawful-same p S T l there back = record {
  lives = record { value = l.lives.value; text = l.lives.text; says = there l.lives.value l.lives.text l.lives.says };
  took = λ ts x rest e.
      let one = l.took ts x rest e in
      record { front = one.front; parts = one.parts; says = there x one.front one.says };
  again = λ x front rest s. l.again x front rest (back x front s);
  refused = λ ts left e.
      let one = l.refused ts left e in
      record { front = one.front; parts = one.parts; value = one.value; rest = one.rest; begun = there one.value (one.front ++ one.rest) one.begun; stuck = one.stuck };
}
