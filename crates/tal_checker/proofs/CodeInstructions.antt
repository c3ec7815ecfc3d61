-- The instructions of code, one after another.
use Rattle.std.specs.Prelude.{if◌then◌else◌}
use Rattle.std.proofs.Common.{◌≡◌, ℕ, zero, suc, ◌+◌, ◌-◌, ◌<◌, ◌≤◌, Bool, true, false, eqb, Option, Some, None, List, [], ◌∷◌, length, drop, refl, ap, ◌∙◌, arith}
use Rattle.std.proofs.lemmas.Bool.{eqb-true}
use Rattle.std.proofs.lemmas.Option.{none-some}
use Rattle.ia32_code.specs.declared.instruction.Inst.{Inst}
use Rattle.ia32_code.specs.declared.decoding.Decoded.{Decoded}
use Rattle.ia32_code.specs.declared.decoding.Decoded.TheVariants.{One}
use Rattle.ia32_code.specs.Decoding.{decoded, instruction_of}
use Rattle.tal_flow.specs.Strongest.{PlacedInst, placed_at}
use Rattle.tal_checker.specs.Instructions.{placed_then, placed_from}
use Rattle.tal_checker.proofs.PlacedLists.{Ordered}

-- the bytes of an instruction that was met are passed over
placed-skip : (k pc : ℕ) (bytes : List ℕ) → k ≤ length bytes → placed_from k pc bytes ≡ placed_from 0 (pc + k) (drop k bytes)
unfolding placed_from
placed-skip zero pc bytes h = ap (λ (n : ℕ). placed_from zero n bytes) (omega arith)
placed-skip (suc k) pc [] h = absurd (omega arith)
placed-skip (suc k) pc (b ∷ bytes) h =
    let e : (pc + 1) + k ≡ pc + suc k = omega arith in
    placed-skip k (pc + 1) bytes (omega arith) ∙ ap (λ (n : ℕ). placed_from zero n (drop k bytes)) e

-- the instruction at the front is the first
pub placed-step : (pc : ℕ) (bytes : List ℕ) (i : Inst) (n : ℕ) → decoded bytes ≡ One i n → 0 < n → n ≤ length bytes
    → placed_from 0 pc bytes ≡ record { pc = pc; inst = i; len = n } ∷ placed_from 0 (pc + n) (drop n bytes)
unfolding placed_from
placed-step pc bytes i zero e some fits = absurd (omega arith)
placed-step pc [] i (suc n) e some fits = absurd (omega arith)
placed-step pc (b ∷ bytes) i (suc n) e some fits =
    let x : PlacedInst = record { pc = pc; inst = i; len = suc n } in
    let k : (pc + 1) + n ≡ pc + suc n = omega arith in
    let s = placed-skip n (pc + 1) bytes (omega arith) ∙ ap (λ (m : ℕ). placed_from zero m (drop n bytes)) k in
    let m : suc n - 1 ≡ n = omega arith in
    ap (λ (d : Decoded). placed_then pc (λ inside. placed_from inside (pc + 1) bytes) (instruction_of d)) e ∙ ap (λ (y : ℕ). x ∷ placed_from y (pc + 1) bytes) m ∙ ap (λ (t : List PlacedInst). x ∷ t) s

-- where no instruction is at the front, there are no more
pub placed-end : (pc : ℕ) (bytes : List ℕ) → instruction_of (decoded bytes) ≡ None → placed_from 0 pc bytes ≡ []
unfolding placed_from
placed-end pc [] e = refl
placed-end pc (b ∷ bytes) e = ap (λ (o : Option (Inst × ℕ)). placed_then pc (λ inside. placed_from inside (pc + 1) bytes) o) e

-- no instruction stands before where the bytes begin
pub placed-above : (bytes : List ℕ) (k pc at : ℕ) (x : PlacedInst) → placed_at (placed_from k pc bytes) at ≡ Some x → pc ≤ at
unfolding placed_from placed_at
placed-above [] k pc at x e = absurd (none-some x e)
placed-above (b ∷ bytes) (suc k) pc at x e = let h = placed-above bytes k (pc + 1) at x e in omega arith
placed-above (b ∷ bytes) zero pc at x e = go (instruction_of (decoded (b ∷ bytes))) e (λ n h. let l = placed-above bytes n (pc + 1) at x h in omega arith)
  where
    here : (t : Bool) (y : PlacedInst) (n : ℕ) → eqb pc at ≡ t → (if t then Some y else placed_at (placed_from n (pc + 1) bytes) at) ≡ Some x
        → (placed_at (placed_from n (pc + 1) bytes) at ≡ Some x → pc ≤ at) → pc ≤ at
    here true y n q h further = let l = eqb-true pc at q in omega arith
    here false y n q h further = further h

    go : (o : Option (Inst × ℕ)) → placed_at (placed_then pc (λ inside. placed_from inside (pc + 1) bytes) o) at ≡ Some x
        → ((n : ℕ) → placed_at (placed_from n (pc + 1) bytes) at ≡ Some x → pc ≤ at) → pc ≤ at
    go None h further = absurd (none-some x h)
    go (Some i) h further = here (eqb pc at) (record { pc = pc; inst = i.0; len = i.1 }) (i.1 - 1) refl h (further (i.1 - 1))

-- the instructions stand in order
pub placed-ordered : (bytes : List ℕ) (k pc : ℕ) → Ordered (placed_from k pc bytes)
unfolding placed_from
placed-ordered [] k pc = tt
placed-ordered (b ∷ bytes) (suc k) pc = placed-ordered bytes k (pc + 1)
placed-ordered (b ∷ bytes) zero pc = go (instruction_of (decoded (b ∷ bytes))) (λ n. placed-ordered bytes n (pc + 1))
  where
    go : (o : Option (Inst × ℕ)) → ((n : ℕ) → Ordered (placed_from n (pc + 1) bytes)) → Ordered (placed_then pc (λ inside. placed_from inside (pc + 1) bytes) o)
    go None more = tt
    go (Some i) more = (λ at y e. let l = placed-above bytes (i.1 - 1) (pc + 1) at y e in omega arith, more (i.1 - 1))
