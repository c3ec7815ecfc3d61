-- One stack is put away and another goes on: interrupts, faults and ends of applications are this one step.
use Rattle.std.proofs.Common.{◌≡◌, ◌≢◌, ◌⊎◌, inl, inr, ◌∙◌, sym, ap, subst, ◌<◌, ℕ, zero, suc, Bool, Option, Some, None, arith, refl, List, [], ◌∷◌, length, slice_get, slice_set, ⊎_elim}
use Rattle.std.specs.Option.{option_map, option_and_then}
use Rattle.std.proofs.lemmas.List.{length-set}
use Rattle.std.proofs.lemmas.Option.{slice_get_within, slice_get-get_or}
use Rattle.tal_types.specs.declared.types.Ty.TheVariants as ty
use Rattle.tal_image.specs.Image.{ImageParts}
use Rattle.tal_image.specs.Shown.{shown}
use Rattle.tal_checker.specs.Running.{RunsOn}
use Rattle.typed_machine.specs.Values.{Value, Number}
use Rattle.typed_machine.specs.States.{State, Thread, Stack, EmptyStack, RunningStack, YieldedStack, InterruptedStack}
use Rattle.typed_machine.specs.Switches.{runs, resumed, put_away, switched}
use Rattle.typed_machine.specs.Frames.{Scope}
use Rattle.typed_machine.specs.Typing.{ThreadFits, StackFits, KernelWaits, TypedAmong, scope_of}
use Rattle.typed_safety.specs.Laws.{ImageLaws}
use Rattle.typed_safety.proofs.Values.{number-num}
use Rattle.typed_safety.proofs.Resuming.{starts-fit, replied-fits}

-- ---- the table of stacks

-- what stands where a stack was put
set-here : (ks : List Stack) (i : ℕ) (k : Stack) → i < length ks → slice_get (slice_set ks i k) i ≡ Some k
set-here [] i k h = absurd (omega arith)
set-here (x ∷ ks) zero k h = refl
set-here (x ∷ ks) (suc i) k h = set-here ks i k (omega arith)

-- what stands elsewhere
pub set-there : (ks : List Stack) (i j : ℕ) (k : Stack) → i ≢ j → slice_get (slice_set ks i k) j ≡ slice_get ks j
set-there [] i j k n = refl
set-there (x ∷ ks) zero zero k n = absurd (n refl)
set-there (x ∷ ks) zero (suc j) k n = refl
set-there (x ∷ ks) (suc i) zero k n = refl
set-there (x ∷ ks) (suc i) (suc j) k n = set-there ks i j k (λ e. n (ap suc e))

-- a stack of the table is the one that was put there, or one that was there
pub set-read : (ks : List Stack) (i j : ℕ) (k x : Stack) → slice_get (slice_set ks i k) j ≡ Some x → ((j ≡ i) × (x ≡ k)) ⊎ (slice_get ks j ≡ Some x)
set-read [] i j k x h = inr h
set-read (y ∷ ks) zero zero k x h = inl (refl, cc)
set-read (y ∷ ks) zero (suc j) k x h = inr h
set-read (y ∷ ks) (suc i) zero k x h = inr h
set-read (y ∷ ks) (suc i) (suc j) k x h = ⊎_elim (λ (e : (j ≡ i) × (x ≡ k)). inl (ap suc e.0, e.1)) (λ (e : slice_get ks j ≡ Some x). inr e) (set-read ks i j k x h)

-- two numbers are equal or not
apart : (i j : ℕ) → (i ≡ j) ⊎ (i ≢ j)
apart i j = grind arith

-- ---- a stack that goes on

-- what goes on is a typed thread with its values, in the state that was
pub record GoesOn (l : Scope) (s : State) (o : Option State) : Type 0 where
  pub thread : Thread
  pub values : List Value
  pub is : o ≡ Some (runs thread values s)
  pub fits : ThreadFits l thread values

-- a stack of a typed state goes on with a number as its reply
goes-on : (image : ImageParts) → RunsOn image → ImageLaws image → (live : ℕ → Bool) (s : State) (to n : ℕ) (stack : Stack) → to < image.stacks
    → StackFits (scope_of image live s) stack → stack ≢ RunningStack → GoesOn (scope_of image live s) s (resumed image to (Number n) stack s)
goes-on image rests laws live s to n EmptyStack few f other = record { thread = _; values = _; is = refl; fits = starts-fit (scope_of image live s) rests to few }
goes-on image rests laws live s to n (YieldedStack place values) few f other =
    record { thread = _; values = values; is = refl; fits = replied-fits (scope_of image live s) laws.classes ty.Num (Number n) place values f (number-num (shown image) live _ n) }
goes-on image rests laws live s to n (InterruptedStack thread values) few f other = record { thread = thread; values = values; is = refl; fits = f }
goes-on image rests laws live s to n RunningStack few f other = absurd (other refl)

-- ---- a switch

-- stack 0 goes on, or it yields
abbrev pub KernelKept : ℕ → ℕ → Stack → Type 0
KernelKept to from (YieldedStack place values) = (to ≡ 0) ⊎ (from ≡ 0)
KernelKept to from stack = to ≡ 0

-- the table after a switch
abbrev after : List Stack → ℕ → Stack → ℕ → List Stack
after ks from left to = slice_set (slice_set ks from left) to RunningStack

-- stack 0 waits where another runs
kernel_waits : (ks : List Stack) (from to : ℕ) (left : Stack) → 0 < length ks → KernelKept to from left → KernelWaits to (slice_get (after ks from left to) 0)
kernel_waits ks from zero left some h = tt
kernel_waits ks from (suc to) (YieldedStack place values) some (inl e) = absurd (omega arith)
kernel_waits ks from (suc to) (YieldedStack place values) some (inr e) =
    rw (set-there (slice_set ks from (YieldedStack place values)) (suc to) 0 RunningStack (λ n. omega arith), e, set-here ks 0 (YieldedStack place values) some) tt
kernel_waits ks from (suc to) EmptyStack some h = absurd (omega arith)
kernel_waits ks from (suc to) RunningStack some h = absurd (omega arith)
kernel_waits ks from (suc to) (InterruptedStack thread values) some h = absurd (omega arith)

-- a switch from a typed state gives a typed state
abbrev pub SomeTyped : ImageParts → (ℕ → Bool) → Option State → Type 0
SomeTyped image live None = ⊥
SomeTyped image live (Some s) = TypedAmong image live s

module _ (image : ImageParts) (rests : RunsOn image) (laws : ImageLaws image) (live : ℕ → Bool) (s : State) (t : TypedAmong image live s) (left : Stack) (to n : ℕ) where
  -- exactly one stack runs afterwards
  only-after : left ≢ RunningStack → (i : ℕ) → slice_get (after s.stacks s.current left to) i ≡ Some RunningStack → i ≡ to
  only-after other i h = ⊎_elim
      (λ (e : (i ≡ to) × (RunningStack ≡ RunningStack)). e.0)
      (λ (e : slice_get (slice_set s.stacks s.current left) i ≡ Some RunningStack). ⊎_elim
      (λ (f : (i ≡ s.current) × (RunningStack ≡ left)). absurd (other (sym f.1)))
      (λ (f : slice_get s.stacks i ≡ Some RunningStack).
      let same = t.only i f in
      let there = set-here s.stacks s.current left (slice_get_within s.stacks s.current RunningStack t.one) in
      absurd (other (let x : Some left ≡ Some RunningStack = sym there ∙ (ap (slice_get (slice_set s.stacks s.current left)) (sym same) ∙ e) in cc)))
      (set-read s.stacks s.current i left RunningStack e))
      (set-read (slice_set s.stacks s.current left) to i RunningStack RunningStack h)

  -- every stack fits afterwards
  others-after : StackFits (scope_of image live s) left → (i : ℕ) (stack : Stack) → slice_get (after s.stacks s.current left to) i ≡ Some stack → StackFits (scope_of image live s) stack
  others-after fits i stack h = ⊎_elim
      (λ (e : (i ≡ to) × (stack ≡ RunningStack)). subst (StackFits (scope_of image live s)) (sym e.1) tt)
      (λ (e : slice_get (slice_set s.stacks s.current left) i ≡ Some stack). ⊎_elim
      (λ (f : (i ≡ s.current) × (stack ≡ left)). subst (StackFits (scope_of image live s)) (sym f.1) fits)
      (λ (f : slice_get s.stacks i ≡ Some stack). t.others i stack f)
      (set-read s.stacks s.current i left stack e))
      (set-read (slice_set s.stacks s.current left) to i RunningStack stack h)

  -- a switch keeps typing
  pub switch-typed : StackFits (scope_of image live s) left → left ≢ RunningStack → to ≢ s.current → to < image.stacks → KernelKept to s.current left
      → SomeTyped image live (switched image to (Number n) left s)
  unfolding switched
  switch-typed fits other away few kept = go (slice_get s.stacks to) refl
    where
      go : (o : Option Stack) → slice_get s.stacks to ≡ o
          → SomeTyped image live (option_and_then (λ stack. option_map (put_away left to) (resumed image to (Number n) stack s)) o)
      go None e = let there = slice_get-get_or s.stacks to RunningStack (rw t.count few) in absurd (let x = sym e ∙ there in cc)
      go (Some stack) e =
          let g = goes-on image rests laws live s to n stack few (t.others to stack e) (λ is. away (t.only to (rw is at e))) in
          rw g.is (record {
            thread = g.fits;
            others = others-after fits;
            one = set-here (slice_set s.stacks s.current left) to RunningStack (rw (length-set s.stacks s.current left, t.count) few);
            only = only-after other;
            kernel = kernel_waits s.stacks s.current to left (let count = t.count in omega arith) kept;
            count = length-set _ to RunningStack ∙ (length-set s.stacks s.current left ∙ t.count);
            statics = t.statics;
            store = t.store;
          })
