-- Parts that are read one after another: what is read as far as they are there, or up to one that is refused.
use Rattle.std.proofs.Common.{◌≡◌, ℕ, zero, suc, ◌≤◌, Bool, true, false, cond, List, [], ◌∷◌, length, take, Result, Ok, Err, refl, sym, ap, subst, ◌∙◌, arith}
use Rattle.file_fields.specs.declared.fault.ImageFault.{ImageFault}
use Rattle.file_fields.specs.Grammar.{Grammar, then_with}
use Rattle.file_fields.specs.Reading.{◌▸◌, Fails, run}
use Rattle.file_fields.specs.Composed.{run-then_with, passed_on}

-- a part that is refused ends the reading
pub refused : {A B : Type 0} (e : ImageFault) (r : Result A ImageFault) (f : A → Result B ImageFault) → Fails e r → Fails e (r ▸ f)
refused {A} e r f h = passed_on e r (r ▸ f) (λ g q. ap (λ (z : Result A ImageFault). z ▸ f) q) h

-- what was read first, and what then
pub bind_inverse : {A B : Type 0} (r : Result A ImageFault) (k : A → Result B ImageFault) (y : B)
    → (r ▸ k) ≡ Ok y → (x : A) × (r ≡ Ok x) × (k x ≡ Ok y)
bind_inverse (Ok x) k y e = (x, refl, e)
bind_inverse (Err f) k y e = absurd cc

module _ {A B : Type 0} (g : Grammar A) (f : A → Grammar B) (file : List ℕ) (at : ℕ) where
  -- a part that is refused, and one that is read, with what comes then
  pub stops : (e : ImageFault) → Fails e (run g file at) → Fails e (run (then_with g f) file at)
  stops e h = subst (λ (r : Result (B × ℕ) ImageFault). Fails e r) (sym (run-then_with g f file at)) (refused e (run g file at) (λ x. run (f x.0) file x.1) h)

  pub next_is : {x : A} {a : ℕ} → run g file at ≡ Ok (x, a) → run (then_with g f) file at ≡ run (f x) file a
  next_is h = run-then_with g f file at ∙ ap (λ (r : Result (A × ℕ) ImageFault). r ▸ λ x. run (f x.0) file x.1) h

  pub stops_later : {x : A} {a : ℕ} (e : ImageFault) → run g file at ≡ Ok (x, a) → Fails e (run (f x) file a) → Fails e (run (then_with g f) file at)
  stops_later e h k = subst (λ (r : Result (B × ℕ) ImageFault). Fails e r) (sym (next_is h)) k

-- a fault of what is kept of a reading is a fault of the reading
pub fails_whole : {A B : Type 0} (e : ImageFault) (r : Result A ImageFault) (k : A → B) → Fails e (r ▸ λ x. Ok (k x)) → Fails e r
fails_whole {A} {B} e r k h = passed_on e (r ▸ λ x. Ok (k x)) r (λ f q. back r f q) h
  where
    back : (z : Result A ImageFault) (f : ImageFault) → (let l : Result B ImageFault = z ▸ λ x. Ok (k x) in l) ≡ Err f → z ≡ Err f
    back (Ok x) f q = absurd cc
    back (Err g) f q = cc

-- one answer has one value, and one end
ok_same : {A : Type 0} (x y : A) → (let l : Result A ImageFault = Ok x in l) ≡ Ok y → x ≡ y
ok_same x y e = cc

pub ok_pair : {A : Type 0} (x y : A) (n m : ℕ) → (let l : Result (A × ℕ) ImageFault = Ok (x, n) in l) ≡ Ok (y, m) → (x ≡ y) × (n ≡ m)
ok_pair {A} x y n m e = let k = ok_same (x, n) (y, m) e in (ap (λ (z : A × ℕ). z.0) k, ap (λ (z : A × ℕ). z.1) k)

-- what a test lets through
pub passed : {A : Type 0} (b : Bool) (r : Result A ImageFault) (f : ImageFault) (y : A) → cond b r (Err f) ≡ Ok y → (b ≡ true) × (r ≡ Ok y)
passed true r f y e = (refl, e)
passed false r f y e = absurd cc

-- so many bytes of some are no more than that
pub short_take : (n : ℕ) (bytes : List ℕ) → length (take n bytes) ≤ n
short_take zero bytes = omega arith
short_take (suc n) [] = omega arith
short_take (suc n) (b ∷ bytes) = let h = short_take n bytes in omega (arith, h)
