-- How far fields reach: how many bytes sound fields have at most. As Composed it stands here with its proofs, without tactics.
use Rattle.std.proofs.Common.{◌≡◌, ℕ, zero, suc, ◌+◌, ◌*◌, ◌≤◌, true, List, ◌∷◌, length, sym, subst, ◌∙◌}
use Rattle.std.proofs.Math.Nat.{le_trans, le_refl, add-zero, le-add_left, add-le-add, add_assoc, suc-mul, add_comm}
use Rattle.ia32_code.specs.declared.instruction.Inst.{Inst}
use Rattle.file_fields.specs.Grammar.{Grammar, done, chunk, instruction, then_with, many, each}

-- sound fields have no more than so many bytes, and what they stand for is so
abbrev pub Most : {A : Type 0} → (A → Type 0) → Grammar A → ℕ → Type 0
Most Is (done x) n = Is x
Most Is (chunk m ok fault next) n = (left : ℕ) × (m + left ≤ n) × ((t : List ℕ) → ok t ≡ true → Most Is (next t) left)
Most Is (instruction room next) n = (text : List ℕ) (i : Inst) → length text ≤ room → (left : ℕ) × (length text + left ≤ n) × Most Is (next text i) left

-- whatever they stand for
abbrev pub MostAny : {A : Type 0} → Grammar A → ℕ → Type 0
MostAny {A} g n = Most (λ (x : A). Unit {0}) g n

-- more will do
pub most_more : {A : Type 0} (Is : A → Type 0) (g : Grammar A) (n m : ℕ) → n ≤ m → Most Is g n → Most Is g m
most_more Is (done x) n m le h = h
most_more Is (chunk k ok fault next) n m le h = (h.0, le_trans h.1 le, h.2)
most_more Is (instruction room next) n m le h = λ text i fit. let k = h text i fit in (k.0, le_trans k.1 le, k.2)

-- so much is left behind a field, and then so much more
room_left : (k left n m limit : ℕ) → k + left ≤ n → n + m ≤ limit → k + (left + m) ≤ limit
room_left k left n m limit h le =
    subst (λ (z : ℕ). z ≤ limit) (add_assoc k left m) (le_trans (add-le-add h (le_refl m)) le)

-- one part, and what comes then
pub most_then : {A B : Type 0} (Is : A → Type 0) (Then : B → Type 0) (g : Grammar A) (f : A → Grammar B) (n m limit : ℕ) → n + m ≤ limit
    → Most Is g n → ((x : A) → Is x → Most Then (f x) m) → Most Then (then_with g f) limit
unfolding then_with
most_then Is Then (done x) f n m limit le h more = most_more Then (f x) m limit (le_trans (le-add_left m n) le) (more x h)
most_then Is Then (chunk k ok fault next) f n m limit le h more =
    (h.0 + m, room_left k h.0 n m limit h.1 le, λ t c. most_then Is Then (next t) f h.0 m (h.0 + m) (le_refl (h.0 + m)) (h.2 t c) more)
most_then Is Then (instruction room next) f n m limit le h more = λ text i fit.
    let one = h text i fit in
    (one.0 + m, room_left (length text) one.0 n m limit one.1 le, most_then Is Then (next text i) f one.0 m (one.0 + m) (le_refl (one.0 + m)) one.2 more)

-- the same, whatever they stand for
pub most_next : {A B : Type 0} (g : Grammar A) (f : A → Grammar B) (n m limit : ℕ) → n + m ≤ limit
    → MostAny g n → ((x : A) → MostAny (f x) m) → MostAny (then_with g f) limit
most_next {A} {B} g f n m limit le h more = most_then (λ (x : A). Unit {0}) (λ (y : B). Unit {0}) g f n m limit le h (λ x i. more x)

-- the last part
pub most_last : {A B : Type 0} (g : Grammar A) (make : A → B) (n : ℕ) → MostAny g n → MostAny (then_with g (λ x. done (make x))) n
most_last g make n h =
    most_next g (λ x. done (make x)) n 0 n (subst (λ (z : ℕ). z ≤ n) (sym (add-zero n)) (le_refl n)) h (λ x. tt)

-- so many rows of so many bytes at most
pub most_many : {S A : Type 0} (row : ℕ → S → Grammar A) (step : S → A → S) (size : ℕ) → ((later : ℕ) (kept : S) → MostAny (row later kept) size)
    → (n : ℕ) (kept : S) → MostAny (many n row step kept) (n * size)
most_many row step size one zero kept = tt
most_many row step size one (suc n) kept =
    most_next (row n kept) _ size (n * size) (suc n * size) (subst (λ (z : ℕ). size + n * size ≤ z) (add_comm size (n * size) ∙ sym (suc-mul n size)) (le_refl (size + n * size))) (one n kept) (λ x.
    most_last (many n row step (step kept x)) (λ xs. x ∷ xs) (n * size) (most_many row step size one n (step kept x)))

-- the same, where rows look at nothing but themselves
pub most_each : {A : Type 0} (row : Grammar A) (size : ℕ) → MostAny row size → (n : ℕ) → MostAny (each n row) (n * size)
most_each row size one n = most_many (λ later kept. row) (λ kept x. kept) size (λ later kept. one) n 0
