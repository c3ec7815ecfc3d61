-- What holds of parts one after another, and of rows, for parts of every type. A clause speaks of given types alone, so that
-- this stands here with its proof, without tactics, for crates whose files are made of parts.
use Rattle.std.specs.List.{flat_map}
use Rattle.std.proofs.Common.{◌≡◌, ℕ, zero, suc, ◌+◌, Bool, true, false, cond, List, [], ◌∷◌, ◌++◌, length, take, drop, Result, Ok, Err, refl, sym, ap, subst, ◌∙◌, append_assoc}
use Rattle.std.specs.Prelude.{nat_le}
use Rattle.std.proofs.lemmas.List.{append-nil}
use Rattle.ia32_code.specs.declared.instruction.Inst.{Inst}
use Rattle.ia32_code.specs.declared.decoding.Decoded.{Decoded}
use Rattle.ia32_code.specs.declared.decoding.Decoded.TheVariants as answer
use Rattle.ia32_code.specs.Decoding.{decoded}
use Rattle.file_fields.specs.declared.fault.ImageFault.{ImageFault}
use Rattle.file_fields.specs.declared.fault.ImageFault.TheVariants.{Magic, Version, Short, Rest, Bad, NoMemory}
use Rattle.file_fields.specs.Grammar.{Grammar, done, chunk, instruction, with_number, pair, checked, then_with, many, each, Field, Chunk, Instruction, field_text, fields_text, Meets, Sound}
use Rattle.file_fields.specs.Parts.{FieldsOf, Means, Each, Counted, AreRows}
use Rattle.file_fields.specs.Reading.{◌▸◌, Fails, chunk_at, any_number_at, pair_at, checked_at, after_decoding, run}

-- ---- what parts stand for

-- the bytes of two lists of fields
pub fields_text-append : (fs gs : List Field) → fields_text (fs ++ gs) ≡ fields_text fs ++ fields_text gs
fields_text-append [] gs = refl
fields_text-append (f ∷ fs) gs =
    ap (λ (t : List ℕ). field_text f ++ t) (fields_text-append fs gs) ∙ sym (append_assoc (field_text f) (fields_text fs) (fields_text gs))

-- what a grammar that is at its end stands for
abbrev undone : {A : Type 0} → A → Grammar A → A
undone x (done y) = y
undone x (chunk n ok fault next) = x
undone x (instruction room next) = x

-- something comes next
abbrev GoesOn : {A : Type 0} → Grammar A → Type 0
GoesOn (done x) = ⊥
GoesOn (chunk n ok fault next) = Unit {0}
GoesOn (instruction room next) = Unit {0}

-- where something comes next is not the end
no_end : {A : Type 0} {g : Grammar A} {x : A} → g ≡ done x → GoesOn g → ⊥
no_end {A} e h = subst (λ (z : Grammar A). GoesOn z) e h

abbrev IsZero : ℕ → Type 0
IsZero zero = Unit {0}
IsZero (suc n) = ⊥

-- the number before another
abbrev before : ℕ → ℕ
before zero = zero
before (suc n) = n

-- the end stands for one thing, and nothing is sound after it
pub done_is : {A : Type 0} (x y : A) → done x ≡ done y → x ≡ y
done_is x y e = ap (undone x) e

pub at_end : {A : Type 0} (x y : A) (fs : List Field) → Sound (done x) fs (done y) → (fs ≡ []) × (x ≡ y)
at_end x y [] s = (refl, done_is x y s)
at_end x y (f ∷ fs) s = absurd s.1

-- fields of one part and of what comes then, taken apart
pub record Split {A B : Type 0} (g : Grammar A) (f : A → Grammar B) (fs : List Field) (y : B) : Type 0 where
  pub value : A
  pub first : List Field
  pub second : List Field
  pub parts : fs ≡ first ++ second
  pub one : Sound g first (done value)
  pub more : Sound (f value) second (done y)

-- one field more in front
cons_split : {A B : Type 0} (g : Grammar A) (f : A → Grammar B) (h : Field) (mid : Grammar A) (fs : List Field) (y : B)
    → Meets g h mid → Split mid f fs y → Split g f (h ∷ fs) y
cons_split g f h mid fs y m k = record {
  value = k.value;
  first = h ∷ k.first;
  second = k.second;
  parts = ap (λ (t : List Field). h ∷ t) k.parts;
  one = (mid, m, k.one);
  more = k.more;
}

-- fields of one part and of what comes then can be taken apart
pub split : {A B : Type 0} (g : Grammar A) (f : A → Grammar B) (fs : List Field) (y : B) → Sound (then_with g f) fs (done y) → Split g f fs y
unfolding then_with
split (done x) f fs y s = record { value = x; first = []; second = fs; parts = refl; one = refl; more = s }
split (chunk n ok fault next) f [] y s = absurd (no_end s tt)
split (instruction room next) f [] y s = absurd (no_end s tt)
split {A} {B} (chunk n ok fault next) f (Chunk t ∷ fs) y s =
    let rest = subst (λ (z : Grammar B). Sound z fs (done y)) s.1.3 s.2 in
    cons_split (chunk n ok fault next) f (Chunk t) (next t) fs y (s.1.0, s.1.1, s.1.2, refl) (split (next t) f fs y rest)
split {A} {B} (instruction room next) f (Instruction text i ∷ fs) y s =
    let rest = subst (λ (z : Grammar B). Sound z fs (done y)) s.1.2 s.2 in
    cons_split (instruction room next) f (Instruction text i) (next text i) fs y (s.1.0, s.1.1, refl) (split (next text i) f fs y rest)
split (chunk n ok fault next) f (Instruction text i ∷ fs) y s = absurd s.1
split (instruction room next) f (Chunk t ∷ fs) y s = absurd s.1

-- fields of one part and of what comes then, put together
pub join : {A B : Type 0} (g : Grammar A) (f : A → Grammar B) (fs gs : List Field) (x : A) (after : Grammar B)
    → Sound g fs (done x) → Sound (f x) gs after → Sound (then_with g f) (fs ++ gs) after
unfolding then_with
join {A} {B} (done z) f [] gs x after p q = subst (λ (v : A). Sound (f v) gs after) (sym (done_is z x p)) q
join (chunk n ok fault next) f [] gs x after p q = absurd (no_end p tt)
join (instruction room next) f [] gs x after p q = absurd (no_end p tt)
join {A} {B} (chunk n ok fault next) f (Chunk t ∷ fs) gs x after p q =
    (then_with (next t) f, (p.1.0, p.1.1, p.1.2, refl), join (next t) f fs gs x after (subst (λ (z : Grammar A). Sound z fs (done x)) p.1.3 p.2) q)
join {A} {B} (instruction room next) f (Instruction text i ∷ fs) gs x after p q =
    (then_with (next text i) f, (p.1.0, p.1.1, refl), join (next text i) f fs gs x after (subst (λ (z : Grammar A). Sound z fs (done x)) p.1.2 p.2) q)
join (done z) f (h ∷ fs) gs x after p q = absurd p.1
join (chunk n ok fault next) f (Instruction text i ∷ fs) gs x after p q = absurd p.1
join (instruction room next) f (Chunk t ∷ fs) gs x after p q = absurd p.1

-- the bytes of one part and of what comes then
pub texts : (fs gs : List Field) (a b : List ℕ) → fields_text fs ≡ a → fields_text gs ≡ b → fields_text (fs ++ gs) ≡ a ++ b
texts fs gs a b p q = fields_text-append fs gs ∙ ap (λ (t : List ℕ). t ++ fields_text gs) p ∙ ap (λ (t : List ℕ). a ++ t) q

-- ---- one part, and what comes then

module _ {A B : Type 0} {g : Grammar A} {Is : A → Type 0} {text : A → List ℕ} (means : Means g Is text) where
  -- the fields of one part, with those of what comes then
  pub put_part : (f : A → Grammar B) (x : A) (y : B) (more : List ℕ) → Is x → FieldsOf (f x) y more → FieldsOf (then_with g f) y (text x ++ more)
  put_part f x y more h k =
      let one = means.whole x h in
      (one.0 ++ k.0, join g f one.0 k.0 x (done y) one.1 k.1, texts one.0 k.0 (text x) more one.2 k.2)

  -- the fields of the last part
  pub put_last : (make : A → B) (x : A) → Is x → FieldsOf (then_with g (λ z. done (make z))) (make x) (text x)
  put_last make x h =
      let one = means.whole x h in
      (one.0 ++ [], join g (λ z. done (make z)) one.0 [] x (done (make x)) one.1 refl, ap fields_text (append-nil one.0) ∙ one.2)

-- one part that was taken off fields: its value, and the fields of what comes then
pub record Part {A B : Type 0} (Is : A → Type 0) (text : A → List ℕ) (f : A → Grammar B) (fs : List Field) (y : B) : Type 0 where
  pub value : A
  pub is : Is value
  pub rest : List Field
  pub more : Sound (f value) rest (done y)
  pub bytes : (t : List ℕ) → fields_text rest ≡ t → fields_text fs ≡ text value ++ t

-- the last part that was taken off fields
pub record Last {A B : Type 0} (Is : A → Type 0) (text : A → List ℕ) (make : A → B) (fs : List Field) (y : B) : Type 0 where
  pub value : A
  pub is : Is value
  pub same : make value ≡ y
  pub bytes : fields_text fs ≡ text value

module _ {A B : Type 0} {g : Grammar A} {Is : A → Type 0} {text : A → List ℕ} (means : Means g Is text) where
  -- fields of one part and of what comes then
  pub take_part : (f : A → Grammar B) (fs : List Field) (y : B) → Sound (then_with g f) fs (done y) → Part Is text f fs y
  take_part f fs y s =
      let k = split g f fs y s in
      let one = means.back k.first k.value k.one in
      record {
        value = k.value;
        is = one.0;
        rest = k.second;
        more = k.more;
        bytes = λ t e. ap fields_text k.parts ∙ texts k.first k.second (text k.value) t one.1 e;
      }

  -- fields of the last part
  pub take_last : (make : A → B) (fs : List Field) (y : B) → Sound (then_with g (λ x. done (make x))) fs (done y) → Last Is text make fs y
  take_last make fs y s =
      let k = take_part (λ x. done (make x)) fs y s in
      let e = at_end (make k.value) y k.rest k.more in
      record { value = k.value; is = k.is; same = e.1; bytes = k.bytes [] (ap fields_text e.0) ∙ append-nil (text k.value) }

-- what follows from something, without what that was made of: a long proof stays small where each step sees no further than the last
pub supposing : {A B : Type 0} → A → (A → B) → B
supposing x f = f x

-- one thing and the others
pub and_then : {A B : Type 0} → A → B → A × B
and_then a b = (a, b)

-- a list of rows
module _ {S A : Type 0} {row : ℕ → S → Grammar A} (step : S → A → S) {Is : ℕ → S → A → Type 0} {text : A → List ℕ}
    (means : (later : ℕ) (kept : S) → Means (row later kept) (Is later kept) text) where
  -- one row more
  one_more : (n : ℕ) (kept : S) → ((next : S) → Means (many n row step next) (AreRows step Is n next) (λ xs. flat_map text xs))
      → Means (many (suc n) row step kept) (AreRows step Is (suc n) kept) (λ xs. flat_map text xs)
  one_more n kept others = record { whole = whole; back = back }
    where
      whole : (xs : List A) → AreRows step Is (suc n) kept xs → FieldsOf (many (suc n) row step kept) xs (flat_map text xs)
      whole [] h = absurd (subst IsZero h.0 tt)
      whole (x ∷ xs) h =
          let long : length xs ≡ n = ap before h.0 in
          let one = subst (λ (z : ℕ). Is z kept x) long h.1.0 in
          put_part (means n kept) _ x (x ∷ xs) _ one (put_last (others (step kept x)) (λ ys. x ∷ ys) xs (long, h.1.1))

      back : (fs : List Field) (xs : List A) → Sound (many (suc n) row step kept) fs (done xs) → AreRows step Is (suc n) kept xs × (fields_text fs ≡ flat_map text xs)
      back fs xs s =
          supposing (take_part (means n kept) _ fs xs s) (λ x.
          supposing (take_last (others (step kept x.value)) (λ ys. x.value ∷ ys) x.rest xs x.more) (λ more.
          let long : length (x.value ∷ more.value) ≡ suc n = ap (λ (k : ℕ). suc k) more.is.0 in
          let one = subst (λ (z : ℕ). Is z kept x.value) (sym more.is.0) x.is in
          subst (λ (z : List A). AreRows step Is (suc n) kept z × (fields_text fs ≡ flat_map text z)) more.same
          ((long, (one, more.is.1)), x.bytes _ more.bytes)))

  -- so many rows
  pub many_means : (n : ℕ) (kept : S) → Means (many n row step kept) (AreRows step Is n kept) (λ xs. flat_map text xs)
  many_means zero kept = record { whole = none; back = none_back }
    where
      none : (xs : List A) → AreRows step Is 0 kept xs → FieldsOf (many 0 row step kept) xs (flat_map text xs)
      none [] h = ([], refl, refl)
      none (x ∷ xs) h = absurd (subst IsZero (sym h.0) tt)

      none_back : (fs : List Field) (xs : List A) → Sound (many 0 row step kept) fs (done xs) → AreRows step Is 0 kept xs × (fields_text fs ≡ flat_map text xs)
      none_back fs xs s =
          let k = at_end [] xs fs s in
          subst (λ (z : List A). AreRows step Is 0 kept z × (fields_text fs ≡ flat_map text z)) k.1 ((refl, tt), ap fields_text k.0)
  many_means (suc n) kept = one_more n kept (many_means n)

-- rows that look at nothing but themselves
pub each_means : {A : Type 0} {row : Grammar A} {Is : A → Type 0} {text : A → List ℕ}
    → Means row Is text → (n : ℕ) → Means (each n row) (Counted n (Each Is)) (λ xs. flat_map text xs)
each_means means n = many_means (λ (kept : ℕ) x. kept) (λ later kept. means) n 0

-- the same, said otherwise
pub means_as : {A : Type 0} {g : Grammar A} {Is So : A → Type 0} {text : A → List ℕ}
    → ((x : A) → Is x → So x) → ((x : A) → So x → Is x) → Means g Is text → Means g So text
means_as to from m = record { whole = λ x h. m.whole x (from x h); back = λ fs x s. let k = m.back fs x s in (to x k.0, k.1) }

-- ---- how parts are read

-- what comes behind a step is read alike
pub same_bind : {A B : Type 0} (r : Result A ImageFault) (f g : A → Result B ImageFault) → ((x : A) → f x ≡ g x) → (r ▸ f) ≡ (r ▸ g)
same_bind (Ok x) f g h = h x
same_bind (Err e) f g h = refl

pub bind_then : {A B C : Type 0} (r : Result A ImageFault) (f : A → Result B ImageFault) (g : B → Result C ImageFault) → ((r ▸ f) ▸ g) ≡ (r ▸ λ x. f x ▸ g)
bind_then (Ok x) f g = refl
bind_then (Err e) f g = refl

cond_bind : {A B : Type 0} (b : Bool) (r : Result A ImageFault) (e : ImageFault) (g : A → Result B ImageFault) → (cond b r (Err e) ▸ g) ≡ cond b (r ▸ g) (Err e)
cond_bind true r e g = refl
cond_bind false r e g = refl

-- a part, and then what comes, is read one after the other
pub run-then_with : {A B : Type 0} (g : Grammar A) (f : A → Grammar B) (file : List ℕ) (at : ℕ) → run (then_with g f) file at ≡ (run g file at ▸ λ x. run (f x.0) file x.1)
unfolding then_with
run-then_with (done x) f file at = refl
run-then_with (chunk n ok fault next) f file at =
    same_bind (chunk_at n file at) _ _ (λ t. ap (λ r. cond (ok t.0) r (Err (fault t.0 at))) (run-then_with (next t.0) f file t.1) ∙ sym (cond_bind (ok t.0) (run (next t.0) file t.1) (fault t.0 at) _))
    ∙ sym (bind_then (chunk_at n file at) _ _)
run-then_with {A} {B} (instruction room next) f file at = along (decoded (drop at file)) (λ len i. run-then_with (next (take len (drop at file)) i) f file (at + len))
  where
    along : (d : Decoded) → ((len : ℕ) (i : Inst) → run (then_with (next (take len (drop at file)) i) f) file (at + len) ≡ (run (next (take len (drop at file)) i) file (at + len) ▸ λ x. run (f x.0) file x.1))
        → after_decoding d (λ len i. run (then_with (next (take len (drop at file)) i) f) file (at + len)) room at (length file) ≡ (after_decoding d (λ len i. run (next (take len (drop at file)) i) file (at + len)) room at (length file) ▸ λ x. run (f x.0) file x.1)
    along (answer.One i len) h = ap (λ r. cond (nat_le len room) r (Err (Bad at 23))) (h len i) ∙ sym (cond_bind (nat_le len room) _ (Bad at 23) _)
    along answer.Short h = refl
    along answer.Unknown h = refl

-- the same, where it is known what is read then
pub then_run : {A B : Type 0} (g : Grammar A) (f : A → Grammar B) (file : List ℕ) (at : ℕ) (more : A × ℕ → Result (B × ℕ) ImageFault)
    → ((x : A × ℕ) → run (f x.0) file x.1 ≡ more x) → run (then_with g f) file at ≡ (run g file at ▸ more)
then_run g f file at more same = run-then_with g f file at ∙ same_bind (run g file at) _ _ same

-- a number, and what is read then
pub number_run : {B : Type 0} (ok : ℕ → Bool) (fault : ℕ → ImageFault) (next : ℕ → Grammar B) (file : List ℕ) (at : ℕ)
    → run (with_number ok fault next) file at ≡ (any_number_at file at ▸ λ n. cond (ok n.0) (run (next n.0) file n.1) (Err (fault at)))
number_run ok fault next file at = sym (bind_then (chunk_at 4 file at) _ _)

-- two numbers as one field, and what is read then
pub pair_run : {B : Type 0} (ok : ℕ → ℕ → Bool) (fault : ℕ → ℕ → ℕ → ImageFault) (next : ℕ → ℕ → Grammar B) (file : List ℕ) (at : ℕ)
    → run (pair ok fault next) file at ≡ (pair_at file at ▸ λ p. cond (ok p.0.0 p.0.1) (run (next p.0.0 p.0.1) file p.1) (Err (fault p.0.0 p.0.1 at)))
pair_run ok fault next file at = sym (bind_then (chunk_at 8 file at) _ _)

-- a number under a condition
pub checked_run : (ok : ℕ → Bool) (condition : ℕ) (file : List ℕ) (at : ℕ) → run (checked ok condition) file at ≡ checked_at ok condition file at
checked_run ok condition file at = number_run ok (λ at. Bad at condition) (λ n. done n) file at

-- one row more, and then the others
pub many_run : {S A : Type 0} (row : ℕ → S → Grammar A) (step : S → A → S) (n : ℕ) (kept : S) (file : List ℕ) (at : ℕ)
    → run (many (suc n) row step kept) file at ≡ (run (row n kept) file at ▸ λ x. run (many n row step (step kept x.0)) file x.1 ▸ λ xs. Ok (x.0 ∷ xs.0, xs.1))
many_run row step n kept file at =
    run-then_with (row n kept) (λ x. then_with (many n row step (step kept x)) (λ xs. done (x ∷ xs))) file at
    ∙ same_bind (run (row n kept) file at) _ _ (λ x. run-then_with (many n row step (step kept x.0)) (λ xs. done (x.0 ∷ xs)) file x.1)

-- ---- rows one after another

-- a fault that one reading passes on to another
pub passed_on : {X Y : Type 0} (e : ImageFault) (one : Result X ImageFault) (all : Result Y ImageFault) → ((f : ImageFault) → one ≡ Err f → all ≡ Err f) → Fails e one → Fails e all
passed_on NoMemory one all h k = tt
passed_on Magic one all h k = h Magic k
passed_on Version one all h k = h Version k
passed_on (Short at) one all h k = h (Short at) k
passed_on (Rest at) one all h k = h (Rest at) k
passed_on (Bad at field) one all h k = h (Bad at field) k

-- what was read before, and what is still read
abbrev pub with_front : {A : Type 0} → List A → Result (List A × ℕ) ImageFault → Result (List A × ℕ) ImageFault
with_front front read = read ▸ λ x. Ok (front ++ x.0, x.1)

-- a row moves from what is read to what was read before
pub regroup : {A : Type 0} (front : List A) (n : A) (read : Result (List A × ℕ) ImageFault) → with_front front (read ▸ λ x. Ok (n ∷ x.0, x.1)) ≡ with_front (front ++ n ∷ []) read
regroup {A} front n (Ok x) = ap (λ (ns : List A). let r : Result (List A × ℕ) ImageFault = Ok (ns, x.1) in r) (sym (append_assoc front (n ∷ []) x.0))
regroup front n (Err f) = refl

-- So many rows are still to be read; others stand before them, and what is read is the whole.
pub record RowsLeft {S A : Type 0} (front : List A) (left : ℕ) (row : ℕ → S → Grammar A) (step : S → A → S) (kept : S) (file : List ℕ) (at : ℕ) (total : Result (List A × ℕ) ImageFault) : Type 0 where
  pub read : with_front front (run (many left row step kept) file at) ≡ total

module _ {S A : Type 0} {front : List A} {left : ℕ} {row : ℕ → S → Grammar A} {step : S → A → S} {kept : S} {file : List ℕ} {at : ℕ} {total : Result (List A × ℕ) ImageFault} (r : RowsLeft front left row step kept file at total) where
  -- one row, and then the others
  one_left : {later : ℕ} → left ≡ suc later
      → with_front front (run (many left row step kept) file at)
      ≡ with_front front (run (row later kept) file at ▸ λ x. run (many later row step (step kept x.0)) file x.1 ▸ λ xs. Ok (x.0 ∷ xs.0, xs.1))
  one_left {later} k =
      ap (λ (n : ℕ). with_front front (run (many n row step kept) file at)) k ∙ ap (with_front front) (many_run row step later kept file at)

  -- one row more
  pub goes_on : {later : ℕ} {x : A} {after : ℕ} → left ≡ suc later → run (row later kept) file at ≡ Ok (x, after) → RowsLeft (front ++ x ∷ []) later row step (step kept x) file after total
  goes_on {later} {x} {after} k h =
      let others : A × ℕ → Result (List A × ℕ) ImageFault = λ y. run (many later row step (step kept y.0)) file y.1 ▸ λ xs. Ok (y.0 ∷ xs.0, xs.1) in
      let one = one_left k ∙ ap (λ (y : Result (A × ℕ) ImageFault). with_front front (y ▸ others)) h ∙ regroup front x (run (many later row step (step kept x)) file after) in
      record { read = sym one ∙ r.read }

  -- a row that is refused
  pub ends : (e : ImageFault) {later : ℕ} → left ≡ suc later → Fails e (run (row later kept) file at) → Fails e total
  ends e {later} k h =
      let others : A × ℕ → Result (List A × ℕ) ImageFault = λ y. run (many later row step (step kept y.0)) file y.1 ▸ λ xs. Ok (y.0 ∷ xs.0, xs.1) in
      passed_on e (run (row later kept) file at) total (λ f q. sym r.read ∙ one_left k ∙ ap (λ (y : Result (A × ℕ) ImageFault). with_front front (y ▸ others)) q) h

  -- no row more
  pub is_done : left ≡ 0 → total ≡ Ok (front, at)
  is_done k =
      sym r.read ∙ ap (λ (n : ℕ). with_front front (run (many n row step kept) file at)) k
      ∙ ap (λ (xs : List A). let one : Result (List A × ℕ) ImageFault = Ok (xs, at) in one) (append-nil front)
