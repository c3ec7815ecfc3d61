-- Tables of states in which exactly one stack runs.
use Rattle.std.proofs.Common.{ℕ, zero, suc, ◌≡◌, ◌≢◌, ◌<◌, true, false, List, [], ◌∷◌, Some, length, slice_get, slice_set, sym, ap, ◌∙◌, refl, arith, subst, ◌⊎◌, inl, inr, length-set}
use Rattle.std.proofs.lemmas.Bool.{cases_eq}
use Rattle.stack_states.specs.declared.stack_state.StackState.{StackState}
use Rattle.stack_states.specs.declared.stack_state.StackState.TheVariants.{Empty, Running, Yielded, Interrupted}
use Rattle.stack_states.specs.StackTable.{IsCurrent, current_of, is_running}

-- The item that was set is read back.
pub slice_get-set_same : {X : Type 0} (xs : List X) (i : ℕ) (x : X) → i < length xs → slice_get (slice_set xs i x) i ≡ Some x
slice_get-set_same [] i x below = absurd (omega arith)
slice_get-set_same (y ∷ xs) zero x below = refl
slice_get-set_same (y ∷ xs) (suc i) x below = slice_get-set_same xs i x (omega arith)

-- Another item stays.
pub slice_get-set_other : {X : Type 0} (xs : List X) (i j : ℕ) (x : X) → j ≢ i → slice_get (slice_set xs i x) j ≡ slice_get xs j
slice_get-set_other [] i j x differs = refl
slice_get-set_other (y ∷ xs) zero zero x differs = absurd (differs refl)
slice_get-set_other (y ∷ xs) zero (suc j) x differs = refl
slice_get-set_other (y ∷ xs) (suc i) zero x differs = refl
slice_get-set_other (y ∷ xs) (suc i) (suc j) x differs = slice_get-set_other xs i j x (λ e. differs (ap suc e))

-- Where the first stack does not run, the running one is found among the others.
pub current_of-tail : (x : StackState) (table : List StackState) (c : ℕ) → is_running x ≡ false → IsCurrent (x ∷ table) c
    → ((k : ℕ) → IsCurrent table k → current_of table ≡ k) → current_of (x ∷ table) ≡ c
current_of-tail x table zero stands runs found =
    let same : x ≡ Running = let at : Some x ≡ Some Running = runs.0 in grind arith in
    let runs_too : is_running x ≡ true = ap is_running same in
    cc
current_of-tail x table (suc c) stands runs found =
    let tail : current_of table ≡ c = found c (runs.0, λ s at. let next : suc s ≡ suc c = runs.1 (suc s) at in omega arith) in
    rw (stands, tail) (omega arith)

-- The stack that runs alone is the first that runs.
pub IsCurrent-current_of : (table : List StackState) (c : ℕ) → IsCurrent table c → current_of table ≡ c
IsCurrent-current_of [] c runs = cc
IsCurrent-current_of (Running ∷ table) c runs = runs.1 0 refl
IsCurrent-current_of (Empty ∷ table) c runs = current_of-tail _ table c refl runs (IsCurrent-current_of table)
IsCurrent-current_of (Yielded sp pc ∷ table) c runs = current_of-tail _ table c refl runs (IsCurrent-current_of table)
IsCurrent-current_of (Interrupted regs flags pc ∷ table) c runs = current_of-tail _ table c refl runs (IsCurrent-current_of table)

-- A stack whose state was set runs only where that state is Running.
pub set-stands : (table : List StackState) (s : ℕ) (x : StackState) → x ≢ Running → slice_get (slice_set table s x) s ≢ Some Running
set-stands [] s x stands at = cc
set-stands (y ∷ table) zero x stands at = stands (let at : Some x ≡ Some Running = at in grind arith)
set-stands (y ∷ table) (suc s) x stands at = set-stands table s x stands at

-- Where a stack that does not run gets another state than Running, the running one stays.
pub IsCurrent-set : (table : List StackState) (c s : ℕ) (x : StackState) → IsCurrent table c → s ≢ current_of table → x ≢ Running → IsCurrent (slice_set table s x) c
IsCurrent-set table c s x runs other stands =
    (slice_get-set_other table s c x (λ e. other (sym e ∙ sym (IsCurrent-current_of table c runs))) ∙ runs.0, λ t at. alone t (cases_eq t s) at)
  where
    alone : (t : ℕ) → (t ≡ s) ⊎ (t ≡ s → ⊥) → slice_get (slice_set table s x) t ≡ Some Running → t ≡ c
    alone t (inl same) at = absurd (set-stands table s x stands (subst (λ k. slice_get (slice_set table s x) k ≡ Some Running) same at))
    alone t (inr differs) at = runs.1 t (sym (slice_get-set_other table s t x differs) ∙ at)

-- Where the running stack gets another state and a second one runs, that one runs alone.
pub IsCurrent-handed : (table : List StackState) (x : StackState) (c to : ℕ) → IsCurrent table c → x ≢ Running → to < length table
    → IsCurrent (slice_set (slice_set table c x) to Running) to
IsCurrent-handed table x c to runs stands exists =
    let exists' : to < length (slice_set table c x) = rw (length-set table c x) exists in
    (slice_get-set_same (slice_set table c x) to Running exists', λ s at. alone s (cases_eq s to) (cases_eq s c) at)
  where
    left_at : (s : ℕ) → (s ≡ to → ⊥) → slice_get (slice_set (slice_set table c x) to Running) s ≡ Some Running → slice_get (slice_set table c x) s ≡ Some Running
    left_at s differs at = sym (slice_get-set_other (slice_set table c x) to s Running differs) ∙ at

    alone : (s : ℕ) → (s ≡ to) ⊎ (s ≡ to → ⊥) → (s ≡ c) ⊎ (s ≡ c → ⊥) → slice_get (slice_set (slice_set table c x) to Running) s ≡ Some Running → s ≡ to
    alone s (inl same) _ at = same
    alone s (inr differs) (inl same) at =
        absurd (set-stands table c x stands (subst (λ k. slice_get (slice_set table c x) k ≡ Some Running) same (left_at s differs at)))
    alone s (inr differs) (inr rest) at =
        absurd (rest (runs.1 s (sym (slice_get-set_other table c s x rest) ∙ left_at s differs at)))
