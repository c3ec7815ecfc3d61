-- The bits of a list of types: bit i is set where type i may refer.
use Rattle.std.proofs.Common.{◌≡◌, ◌+◌, ◌*◌, ◌/◌, ◌%◌, ◌^◌, ℕ, suc, nat_eq, Bool, true, false, if◌then◌else◌, List, ◌∷◌, sym, ◌∙◌, ap, arith}
use Rattle.std.proofs.Math.Nat.{pow-succ', div-div-eq-div-mul}
use Rattle.std.proofs.lemmas.Bool.Decides.{nat_tests}
use Rattle.std.specs.Int.{bit_at}
use Rattle.tal_types.specs.declared.types.Ty.{Ty}
use Rattle.tal_checker.specs.Frames.{may_refer, reference_bits}

abbrev bit_of : Bool → ℕ
bit_of b = if b then 1 else 0

low : (b : Bool) (n : ℕ) → (bit_of b + 2 * n) % 2 ≡ bit_of b
low true n = omega arith
low false n = omega arith

high : (b : Bool) (n : ℕ) → (bit_of b + 2 * n) / 2 ≡ n
high true n = omega arith
high false n = omega arith

-- the bits from bit n on are those of these types
abbrev pub BitsFrom : ℕ → ℕ → List Ty → Type 0
BitsFrom bits n types = bits / 2 ^ n ≡ reference_bits types

-- from the first on they are all
pub bits-first : (bits : ℕ) (types : List Ty) → bits ≡ reference_bits types → BitsFrom bits 0 types
bits-first bits types e = let whole : bits / 1 ≡ bits = omega arith in whole ∙ e

-- and from the next on those of the other types
pub bits-next : (bits n : ℕ) (t : Ty) (types : List Ty) → BitsFrom bits n (t ∷ types) → BitsFrom bits (n + 1) types
unfolding reference_bits
bits-next bits n t types e =
    let power : 2 ^ (n + 1) ≡ 2 ^ n * 2 = let q = pow-succ' 2 n in let z : n + 1 ≡ suc n = omega arith in ap (λ x. 2 ^ x) z ∙ (omega arith) in
    ap (λ x. bits / x) power ∙ (sym (div-div-eq-div-mul bits (2 ^ n) 2) ∙ (ap (λ x. x / 2) e ∙ high (may_refer t) (reference_bits types)))

bit-test : (b : Bool) (x : ℕ) → x ≡ bit_of b → nat_eq x 1 ≡ b
bit-test true x e = grind (arith, nat_tests)
bit-test false x e = grind (arith, nat_tests)

-- the test of bit n is that of the type
pub bits-test : (bits n : ℕ) (t : Ty) (types : List Ty) → BitsFrom bits n (t ∷ types) → nat_eq (bit_at bits n) 1 ≡ may_refer t
unfolding reference_bits
bits-test bits n t types e = bit-test (may_refer t) (bit_at bits n) (ap (λ x. x % 2) e ∙ low (may_refer t) (reference_bits types))
