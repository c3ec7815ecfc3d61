use Rattle.std.proofs.Common.{◌≡◌, ℕ, zero, suc, ◌+◌, ◌*◌, ◌/◌, ◌%◌, ◌^◌, ◌<◌, ◌≤◌, Bool, true, nat_eq, List, length, get_or, refl, ap, sym, subst, ⊎_elim, arith, bit_and}
use Rattle.std.specs.Int.{bit_at}
use Rattle.std.proofs.lemmas.Bool.{cases_lt}
use Rattle.std.proofs.lemmas.Bool.Decides.{nat_tests}
use Rattle.std.proofs.lemmas.List.{get_or_default}
use Rattle.std.proofs.lemmas.Nat.Bits.{bit_at_and, bit_at-lt, bit_at_above, same_from_bits}
use Rattle.ia32_code.specs.OperandForms.{number, reg}
use Rattle.ia32_code.specs.declared.instruction.Reg.{Reg}
use Rattle.object_layout.specs.Classes.{ShapesView}
use Rattle.tal_types.specs.declared.types.Ty.{Ty}
use Rattle.tal_types.specs.declared.types.Ty.TheVariants.{Junk}
use Rattle.tal_types.specs.Types.{sub}
use Rattle.tal_types.specs.Contexts.{every, has_all, all_sub}
use Rattle.tal_types.specs.Kept.{kept_type, pair_in}
use Rattle.tal_types.proofs.Orders.{every-all, every-from, has_all-told, has_all-from, all_sub-told, all_sub-from}

-- Registers by their numbers, and sets of pairs of them by bits.

-- a register has a number below 8
pub number-below : (r : Reg) → number r < 8
number-below r = grind arith

-- the number of the register of a number
pub number-reg : (n : ℕ) → n < 8 → number (reg n) ≡ n
number-reg zero l = refl
number-reg (suc zero) l = refl
number-reg (suc (suc zero)) l = refl
number-reg (suc (suc (suc zero))) l = refl
number-reg (suc (suc (suc (suc zero)))) l = refl
number-reg (suc (suc (suc (suc (suc zero))))) l = refl
number-reg (suc (suc (suc (suc (suc (suc zero)))))) l = refl
number-reg (suc (suc (suc (suc (suc (suc (suc zero))))))) l = refl
number-reg (suc (suc (suc (suc (suc (suc (suc (suc n)))))))) l = absurd (omega arith)

-- two tests that hold together are equal
same_tests : (a b : Bool) → (a ≡ true → b ≡ true) → (b ≡ true → a ≡ true) → a ≡ b
same_tests a b f g = grind arith

-- a place below 8 is that of a register
at_place : (s : ShapesView) (a b : List Ty) → length a ≡ 8 → length b ≡ 8 → every (λ r. sub s (get_or a (number r) Junk) (get_or b (number r) Junk)) ≡ true
    → (k : ℕ) (d e : Ty) → k < length a → sub s (get_or a k d) (get_or b k e) ≡ true
at_place s a b l m h k d e i =
    let here = every-all (λ r. sub s (get_or a (number r) Junk) (get_or b (number r) Junk)) (reg k) h in
    let n = number-reg k (omega arith) in
    rw (get_or_default a k d Junk i, get_or_default b k e Junk (omega arith))
    (subst (λ j. sub s (get_or a j Junk) (get_or b j Junk) ≡ true) n here)

-- two lists of eight types are below each other where each register's is
pub all_sub-registers : (s : ShapesView) (a b : List Ty) → length a ≡ 8 → length b ≡ 8 → all_sub s a b ≡ every (λ r. sub s (kept_type a r) (kept_type b r))
unfolding kept_type
all_sub-registers s a b l m = same_tests _ _
    (λ e. every-from (λ r. sub s (get_or a (number r) Junk) (get_or b (number r) Junk))
    (λ r. all_sub-told s a b e (number r) Junk Junk (omega (arith, number-below r))))
    (λ e. sym (all_sub-from s a b (omega arith) (λ k d x h. at_place s a b l m e k d x h)))

-- a bit of one number is a bit of the other where the first has all of the second
pub has_all-bits : (a b : ℕ) → bit_and a b ≡ b → has_all (pair_in a) (pair_in b) ≡ true
unfolding pair_in
has_all-bits a b e = has_all-from _ _ (λ r t h.
    let k = 8 * number r + number t in
    let both = bit_at_and a b k in
    let same = ap (λ n. bit_at n k) e in
    let small = bit_at-lt a k in
    grind (arith, nat_tests))

-- a bit below 64 is that of a pair of registers
pair_of_bit : (i : ℕ) → i < 64 → 8 * number (reg (i / 8)) + number (reg (i % 8)) ≡ i
pair_of_bit i l = rw (number-reg (i / 8) (omega arith), number-reg (i % 8) (omega arith)) (omega arith)

-- where a set has all of another, it has each bit of it
bit_kept : (a b i : ℕ) → has_all (pair_in a) (pair_in b) ≡ true → i < 64 → bit_at b i ≡ 1 → bit_at a i ≡ 1
unfolding pair_in
bit_kept a b i h l e =
    let place = pair_of_bit i l in
    let told = has_all-told (pair_in a) (pair_in b) (reg (i / 8)) (reg (i % 8)) h (subst (λ k. nat_eq (bit_at b k) 1 ≡ true) (sym place) (grind (arith, nat_tests))) in
    let there = subst (λ k. nat_eq (bit_at a k) 1 ≡ true) place told in
    grind (arith, nat_tests)

-- a set that has all of another keeps it where both are met
pub bits_from_has_all : (a b : ℕ) → b < 2 ^ 64 → has_all (pair_in a) (pair_in b) ≡ true → bit_and a b ≡ b
bits_from_has_all a b l h = same_from_bits (bit_and a b) b (λ i.
    let both = bit_at_and a b i in
    let small = bit_at-lt b i in
    let other = bit_at-lt a i in
    ⊎_elim
    (λ (low : i < 64). let kept = bit_kept a b i h low in grind arith)
    (λ (high : 64 ≤ i). let none = bit_at_above b 64 i l high in omega arith)
    (cases_lt i 64))

-- one set has all of another exactly where their common bits are the other
pub has_all-test : (a b : ℕ) → b < 2 ^ 64 → nat_eq (bit_and a b) b ≡ has_all (pair_in a) (pair_in b)
has_all-test a b l = same_tests _ _
    (λ e. has_all-bits a b (grind (arith, nat_tests)))
    (λ e. let same = bits_from_has_all a b l e in grind (arith, nat_tests))
