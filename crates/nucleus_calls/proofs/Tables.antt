-- What the stacks do, read and changed at one number.
use Rattle.std.specs.Option.{option_map}
use Rattle.std.proofs.Common.{◌≡◌, ◌≢◌, ◌<◌, ℕ, zero, suc, ◌+◌, List, [], ◌∷◌, length, Option, Some, None, slice_get, slice_set, refl, sym, ap, ◌∙◌, arith}
use Rattle.stack_states.specs.declared.stack_state.StackState.{StackState}
use Rattle.typed_machine.specs.States.{Stack}
use Rattle.nucleus_calls.specs.Nucleus.{state_by, states_by}

-- what was put in a list stands there, and elsewhere stands what stood there
pub set-here : {X : Type 0} (xs : List X) (i : ℕ) (x : X) → i < length xs → slice_get (slice_set xs i x) i ≡ Some x
set-here [] i x below = absurd (omega arith)
set-here (y ∷ xs) zero x below = refl
set-here (y ∷ xs) (suc i) x below = set-here xs i x (omega arith)

pub set-elsewhere : {X : Type 0} (xs : List X) (i j : ℕ) (x : X) → j ≢ i → slice_get (slice_set xs i x) j ≡ slice_get xs j
set-elsewhere [] i j x other = refl
set-elsewhere (y ∷ xs) zero zero x other = absurd (other refl)
set-elsewhere (y ∷ xs) zero (suc j) x other = refl
set-elsewhere (y ∷ xs) (suc i) zero x other = refl
set-elsewhere (y ∷ xs) (suc i) (suc j) x other = set-elsewhere xs i j x (λ e. other (ap suc e))

-- there are as many states as stacks
pub states_count : (places : List ℕ) (n : ℕ) (stacks : List Stack) → length (states_by places n stacks) ≡ length stacks
unfolding states_by
states_count places n [] = refl
states_count places n (x ∷ xs) = ap suc (states_count places (n + 1) xs)

-- the state of each stack
pub states_get : (places : List ℕ) (n : ℕ) (stacks : List Stack) (k number : ℕ) → number ≡ n + k
    → slice_get (states_by places n stacks) k ≡ option_map (state_by places number) (slice_get stacks k)
unfolding states_by
states_get places n [] k number is = refl
states_get places n (x ∷ xs) zero number is = let e : number ≡ n = omega arith in rw e refl
states_get places n (x ∷ xs) (suc k) number is = states_get places (n + 1) xs k number (omega arith)

-- where a state stands, there is a stack
pub record StackThere (places : List ℕ) (stacks : List Stack) (k : ℕ) (state : StackState) : Type 0 where
  pub stack : Stack
  pub here : slice_get stacks k ≡ Some stack
  pub is : state ≡ state_by places k stack

pub stack_there : (places : List ℕ) (stacks : List Stack) (k : ℕ) (state : StackState) → slice_get (states_by places 0 stacks) k ≡ Some state
    → StackThere places stacks k state
stack_there places stacks k state h = go (slice_get stacks k) refl (states_get places 0 stacks k k (omega arith))
  where
    go : (o : Option Stack) → slice_get stacks k ≡ o → slice_get (states_by places 0 stacks) k ≡ option_map (state_by places k) o → StackThere places stacks k state
    go None e f = absurd (cc)
    go (Some stack) e f = record { stack = stack; here = e; is = let same : Some (state_by places k stack) ≡ Some state = sym f ∙ h in cc }

-- a stack is replaced
pub states_set : (places : List ℕ) (n : ℕ) (stacks : List Stack) (k number : ℕ) (x : Stack) → number ≡ n + k
    → slice_set (states_by places n stacks) k (state_by places number x) ≡ states_by places n (slice_set stacks k x)
unfolding states_by
states_set places n [] k number x is = refl
states_set places n (y ∷ ys) zero number x is = let e : number ≡ n = omega arith in rw e refl
states_set places n (y ∷ ys) (suc k) number x is = ap (λ (xs : List StackState). state_by places n y ∷ xs) (states_set places (n + 1) ys k number x (omega arith))
