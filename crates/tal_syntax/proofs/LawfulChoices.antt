-- Readers that the first token decides.
use Rattle.std.proofs.Common.{◌≡◌, ℕ, Bool, true, false, cond, List, [], ◌∷◌, ◌++◌, Option, Some, None, Ok, Err, refl, sym, ap, subst, ◌∙◌}
use Rattle.std.proofs.lemmas.Bool.{eqb-true}
use lib.Dec.{eqb}
use Rattle.text_tokens.specs.Token.{Lexeme, Key, Mark}
use Rattle.text_tokens.specs.declared.token.Keyword.{Keyword}
use Rattle.tal_syntax.specs.Reading.{Read, choose, one_of, by_key}
use Rattle.tal_syntax.specs.Sentences.{token, ◌⊕◌}
use Rattle.tal_syntax.proofs.Lawful.{Lawful, Lives, Refusal, Took, Stuck, Made, Lawful-same, ok_is, err_is}

-- a token that is picked, and a sentence behind it
pub record Chosen {A : Type 0} (pick : Lexeme → Option (Read A)) (T : Lexeme → A → List Lexeme → Type 0) (x : A) (ts : List Lexeme) : Type 0 where
  pub token : Lexeme
  pub back : List Lexeme
  pub parts : ts ≡ token ∷ back
  pub way : Read A
  pub picks : pick token ≡ Some way
  pub two : T token x back

-- the way that the first token picks is gone
pub goes : {A : Type 0} (pick : Lexeme → Option (Read A)) (t : Lexeme) (p : Read A) (ts : List Lexeme) → pick t ≡ Some p → choose pick (t ∷ ts) ≡ p ts
goes pick t p ts e = rw (e, choose) refl

-- a token that picks none is refused
pub stays : {A : Type 0} (pick : Lexeme → Option (Read A)) (t : Lexeme) (ts : List Lexeme) → pick t ≡ None → choose pick (t ∷ ts) ≡ Err (t ∷ ts)
stays pick t ts e = rw (e, choose) refl

module _ {A : Type 0} (pick : Lexeme → Option (Read A)) (T : Lexeme → A → List Lexeme → Type 0) (S : A → List Lexeme → Type 0) (laws : (t : Lexeme) (p : Read A) → pick t ≡ Some p → Lawful p (T t)) (there : (t : Lexeme) (x : A) (ts : List Lexeme) → T t x ts → S x (t ∷ ts)) (back : (x : A) (ts : List Lexeme) → S x ts → Chosen pick T x ts) (live : Lives S) where
  took_one : (t : Lexeme) (ts : List Lexeme) (x : A) (rest : List Lexeme) (o : Option (Read A)) → pick t ≡ o → choose pick (t ∷ ts) ≡ Ok (x, rest) → Took S (t ∷ ts) x rest
  took_one t ts x rest None e h = absurd (let k = sym (stays pick t ts e) ∙ h in cc)
  took_one t ts x rest (Some p) e h =
      let two = (laws t p e).took ts x rest (sym (goes pick t p ts e) ∙ h) in
      record { front = t ∷ two.front; parts = ap (λ (l : List Lexeme). t ∷ l) two.parts; says = there t x two.front two.says }

  choose_took : (ts : List Lexeme) (x : A) (rest : List Lexeme) → choose pick ts ≡ Ok (x, rest) → Took S ts x rest
  choose_took [] x rest h = absurd cc
  choose_took (t ∷ ts) x rest h = took_one t ts x rest (pick t) refl h

  choose_again : (x : A) (front rest : List Lexeme) → S x front → choose pick (front ++ rest) ≡ Ok (x, rest)
  choose_again x front rest says =
      let s = back x front says in
      ap (λ (l : List Lexeme). choose pick (l ++ rest)) s.parts ∙ goes pick s.token s.way (s.back ++ rest) s.picks ∙ (laws s.token s.way s.picks).again x s.back rest s.two

  stuck_in : (t : Lexeme) (p : Read A) (front left : List Lexeme) → pick t ≡ Some p → Stuck p front left → Stuck (choose pick) (t ∷ front) left
  stuck_in t p front [] e h = tt
  stuck_in t p front (u ∷ us) e h = λ more. goes pick t p (front ++ u ∷ more) e ∙ h more

  refused_one : (t : Lexeme) (ts left : List Lexeme) (o : Option (Read A)) → pick t ≡ o → choose pick (t ∷ ts) ≡ Err left → Refusal (choose pick) S (t ∷ ts) left
  refused_one t ts left None e h =
      subst (λ (l : List Lexeme). Refusal (choose pick) S (t ∷ ts) l) (err_is {A = A} (t ∷ ts) left (sym (stays pick t ts e) ∙ h))
      (record { front = []; parts = refl; value = live.value; rest = live.text; begun = live.says; stuck = λ more. stays pick t more e })
  refused_one t ts left (Some p) e h =
      let two = (laws t p e).refused ts left (sym (goes pick t p ts e) ∙ h) in
      record {
        front = t ∷ two.front;
        parts = ap (λ (l : List Lexeme). t ∷ l) two.parts;
        value = two.value;
        rest = two.rest;
        begun = there t two.value (two.front ++ two.rest) two.begun;
        stuck = stuck_in t p two.front left e two.stuck;
      }

  choose_refused : (ts left : List Lexeme) → choose pick ts ≡ Err left → Refusal (choose pick) S ts left
  choose_refused [] left h =
      subst (λ (l : List Lexeme). Refusal (choose pick) S [] l) (err_is {A = A} [] left h)
      (record { front = []; parts = refl; value = live.value; rest = live.text; begun = live.says; stuck = tt })
  choose_refused (t ∷ ts) left h = refused_one t ts left (pick t) refl h

  pub Lawful-choose : Lawful (choose pick) S
  Lawful-choose = record { lives = live; took = choose_took; again = choose_again; refused = choose_refused }

-- ---- by keyword

-- the sentences behind a keyword
abbrev pub behind_key : {A : Type 0} → (Keyword → A → List Lexeme → Type 0) → Lexeme → A → List Lexeme → Type 0
behind_key K (Key k) x ts = K k x ts
behind_key K t x ts = ⊥

pub each_key : {A : Type 0} (pick : Keyword → Option (Read A)) (K : Keyword → A → List Lexeme → Type 0) → ((k : Keyword) (p : Read A) → pick k ≡ Some p → Lawful p (K k)) → (t : Lexeme) (p : Read A) → by_key pick t ≡ Some p → Lawful p (behind_key K t)
each_key pick K l (Key k) p e = l k p e
each_key pick K l t p e = absurd cc

pub key_there : {A : Type 0} (K : Keyword → A → List Lexeme → Type 0) (S : A → List Lexeme → Type 0) → ((k : Keyword) (x : A) (ts : List Lexeme) → K k x ts → S x (Key k ∷ ts)) → (t : Lexeme) (x : A) (ts : List Lexeme) → behind_key K t x ts → S x (t ∷ ts)
key_there K S l (Key k) x ts s = l k x ts s
key_there K S l t x ts s = absurd s

-- the reader that is picked keeps the law
pub law_of : {A : Type 0} {p q : Read A} {S : A → List Lexeme → Type 0} → Lawful p S → (let l : Option (Read A) = Some p in l) ≡ Some q → Lawful q S
law_of {A} {p} {q} {S} l e = let same : p ≡ q = cc in subst (λ (r : Read A). Lawful r S) same l

-- a token before a sentence
pub led : {A B : Type 0} {make : B → A} {S : B → List Lexeme → Type 0} (says : A → List Lexeme → Type 0) (t : Lexeme) (x : A) (ts : List Lexeme) → Made make S x ts → ((y : B) (us : List Lexeme) → (token t ⊕ S y) us → says (make y) us) → says x (t ∷ ts)
led says t x ts s ok = subst (λ (z : _). says z (t ∷ ts)) (sym s.value) (ok s.of (t ∷ ts) (record { front = t ∷ []; back = ts; parts = refl; one = refl; two = s.says }))

-- the tokens of a sentence behind one
pub lead : {M : List Lexeme → Type 0} (t : Lexeme) (ts : List Lexeme) (s : (token t ⊕ M) ts) → ts ≡ t ∷ s.back
lead t ts s = s.parts ∙ ap (λ (l : List Lexeme). l ++ s.back) s.one

-- ---- by mark

-- a sentence behind a mark
pub record Opened {A : Type 0} (m : ℕ) (S : A → List Lexeme → Type 0) (b : ℕ) (x : A) (ts : List Lexeme) : Type 0 where
  pub is : b ≡ m
  pub two : S x ts

pub opened_law : {A : Type 0} (m : ℕ) {p q : Read A} {S : A → List Lexeme → Type 0} (b : ℕ) (r : Bool) → Lawful p S → eqb b m ≡ r → (let o : Option (Read A) = cond r (Some p) None in o) ≡ Some q → Lawful q (Opened m S b)
opened_law m {p} {q} {S} b true l e h = law_of (Lawful-same p S (Opened m S b) l (λ x ts s. record { is = eqb-true b m e; two = s }) (λ x ts s. s.two)) h
opened_law m b false l e h = absurd cc

-- a mark before a sentence
pub led_by_mark : {A B : Type 0} {make : B → A} {S : B → List Lexeme → Type 0} (says : A → List Lexeme → Type 0) (m b : ℕ) (x : A) (ts : List Lexeme) → Opened m (Made make S) b x ts → ((y : B) (us : List Lexeme) → (token (Mark m) ⊕ S y) us → says (make y) us) → says x (Mark b ∷ ts)
led_by_mark says m b x ts s ok = led says (Mark b) x ts s.two (λ y us j. ok y us (record { front = j.front; back = j.back; parts = j.parts; one = j.one ∙ ap (λ (n : ℕ). Mark n ∷ []) s.is; two = j.two }))

-- ---- one token

module _ {A : Type 0} (means : Lexeme → Option A) (S : A → List Lexeme → Type 0) (there : (x : A) (t : Lexeme) → means t ≡ Some x → S x (t ∷ [])) (back : (x : A) (ts : List Lexeme) → S x ts → (t : Lexeme) × (ts ≡ t ∷ []) × (means t ≡ Some x)) (live : Lives S) where
  gives : (t : Lexeme) (ts : List Lexeme) (x : A) → means t ≡ Some x → one_of means (t ∷ ts) ≡ Ok (x, ts)
  gives t ts x e = rw (e, one_of) refl

  keeps : (t : Lexeme) (ts : List Lexeme) → means t ≡ None → one_of means (t ∷ ts) ≡ Err (t ∷ ts)
  keeps t ts e = rw (e, one_of) refl

  one_took : (t : Lexeme) (ts : List Lexeme) (x : A) (rest : List Lexeme) (o : Option A) → means t ≡ o → one_of means (t ∷ ts) ≡ Ok (x, rest) → Took S (t ∷ ts) x rest
  one_took t ts x rest None e h = absurd (let k = sym (keeps t ts e) ∙ h in cc)
  one_took t ts x rest (Some y) e h =
      let same : (y, ts) ≡ (x, rest) = ok_is (y, ts) (x, rest) (sym (gives t ts y e) ∙ h) in
      subst (λ (z : A × List Lexeme). Took S (t ∷ ts) z.0 z.1) same (record { front = t ∷ []; parts = refl; says = there y t e })

  all_took : (ts : List Lexeme) (x : A) (rest : List Lexeme) → one_of means ts ≡ Ok (x, rest) → Took S ts x rest
  all_took [] x rest h = absurd cc
  all_took (t ∷ ts) x rest h = one_took t ts x rest (means t) refl h

  one_refused : (t : Lexeme) (ts left : List Lexeme) (o : Option A) → means t ≡ o → one_of means (t ∷ ts) ≡ Err left → Refusal (one_of means) S (t ∷ ts) left
  one_refused t ts left (Some y) e h = absurd (let k = sym (gives t ts y e) ∙ h in cc)
  one_refused t ts left None e h =
      subst (λ (l : List Lexeme). Refusal (one_of means) S (t ∷ ts) l) (err_is {A = A} (t ∷ ts) left (sym (keeps t ts e) ∙ h))
      (record { front = []; parts = refl; value = live.value; rest = live.text; begun = live.says; stuck = λ more. keeps t more e })

  all_refused : (ts left : List Lexeme) → one_of means ts ≡ Err left → Refusal (one_of means) S ts left
  all_refused [] left h =
      subst (λ (l : List Lexeme). Refusal (one_of means) S [] l) (err_is {A = A} [] left h)
      (record { front = []; parts = refl; value = live.value; rest = live.text; begun = live.says; stuck = tt })
  all_refused (t ∷ ts) left h = one_refused t ts left (means t) refl h

  pub Lawful-one : Lawful (one_of means) S
  Lawful-one = record {
    lives = live;
    took = all_took;
    again = λ x front rest s.
        let b = back x front s in
        ap (λ (l : List Lexeme). one_of means (l ++ rest)) b.1 ∙ gives b.0 rest x b.2;
    refused = all_refused;
  }
