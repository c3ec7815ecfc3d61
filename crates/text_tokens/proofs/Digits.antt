-- The value of digits, exact up to a limit.
use Rattle.std.proofs.Common.{◌≡◌, ℕ, ◌+◌, ◌*◌, ◌^◌, ◌≤◌, ◌<◌, min, ◌⊎◌, inl, inr, List, [], ◌∷◌, length, drop, get_or, refl, sym, subst, arith, add-one}
use Rattle.std.proofs.Math.Seq.{drop-cons}
use Rattle.std.proofs.lemmas.List.{drop_all}
use Rattle.text_tokens.specs.Bytes.{digit_of}
use Rattle.text_tokens.specs.Numbers.{digits_value}

abbrev pub IsBase : ℕ → Type 0
IsBase base = (base ≡ 10) ⊎ (base ≡ 16)

no_less : (base acc d : ℕ) → IsBase base → acc ≤ acc * base + d
no_less base acc d (inl e) = subst (λ (b : ℕ). acc ≤ acc * b + d) (sym e) (omega arith)
no_less base acc d (inr e) = subst (λ (b : ℕ). acc ≤ acc * b + d) (sym e) (omega arith)

grows : (base acc : ℕ) (ds : List ℕ) → IsBase base → acc ≤ digits_value base acc ds
unfolding digits_value
grows base acc [] h = omega arith
grows base acc (d ∷ ds) h =
    let one = no_less base acc (digit_of d) h in
    let two = grows base (acc * base + digit_of d) ds h in
    omega (arith, one, two)

-- once past the limit, it stays there
pub kept : (base acc i : ℕ) (ds : List ℕ) → IsBase base → 2 ^ 32 ≤ acc → min (digits_value base acc (drop (i + 1) ds)) (2 ^ 32) ≡ min (digits_value base acc (drop i ds)) (2 ^ 32)
kept base acc i ds h le =
    let one = grows base acc (drop (i + 1) ds) h in
    let two = grows base acc (drop i ds) h in
    omega (arith, one, two)

-- one digit more
pub digit_more : (base acc i : ℕ) (ds : List ℕ) → i < length ds → digits_value base (acc * base + digit_of (get_or ds i 0)) (drop (i + 1) ds) ≡ digits_value base acc (drop i ds)
unfolding digits_value
digit_more base acc i ds lt = rw (add-one, drop-cons ds i 0 lt) refl

pub all_done : (base acc i : ℕ) (ds : List ℕ) → length ds ≤ i → digits_value base acc (drop i ds) ≡ acc
unfolding digits_value
all_done base acc i ds le = rw (drop_all i ds le) refl
