-- Instructions in a list by their addresses, and the contexts before them.
use Rattle.std.specs.Prelude.{if◌then◌else◌}
use Rattle.std.proofs.Common.{◌≡◌, ℕ, ◌<◌, ◌⊎◌, inl, inr, Bool, true, false, eqb, Some, List, [], ◌∷◌, refl, sym, arith, eq-eqb}
use Rattle.std.proofs.lemmas.Bool.{eqb-true, ne_eqb}
use Rattle.std.proofs.lemmas.Option.{same_Some}
use Rattle.tal_types.specs.Contexts.{ContextView}
use Rattle.tal_types.specs.Shown.{ShownImage}
use Rattle.tal_flow.specs.Strongest.{PlacedInst, falls_from, start, at_in, placed_at}

-- the first instruction, and those after it
pub there-first : (x : PlacedInst) (xs : List PlacedInst) (pc : ℕ) → x.pc ≡ pc → placed_at (x ∷ xs) pc ≡ Some x
unfolding placed_at
there-first x xs pc e = rw (sym e, eq-eqb x.pc x.pc refl) refl

-- an instruction behind the first is one of the rest
pub there-later : (x : PlacedInst) (xs : List PlacedInst) (pc : ℕ) → x.pc < pc → placed_at (x ∷ xs) pc ≡ placed_at xs pc
unfolding placed_at
there-later x xs pc l = rw (ne_eqb x.pc pc (λ e. omega arith)) refl

-- the context before the first instruction, and before those after it
pub at-first : (v : ShownImage) (x : PlacedInst) (xs : List PlacedInst) (c : ContextView) (pc : ℕ) → x.pc ≡ pc → at_in v (x ∷ xs) c pc ≡ start v pc c
unfolding at_in
at-first v x xs c pc e = rw (sym e, eq-eqb x.pc x.pc refl) refl

-- and its context is that in the rest
pub at-later : (v : ShownImage) (x : PlacedInst) (xs : List PlacedInst) (c : ContextView) (pc : ℕ) → x.pc < pc → at_in v (x ∷ xs) c pc ≡ at_in v xs (falls_from v (start v x.pc c) x) pc
unfolding at_in
at-later v x xs c pc l = rw (ne_eqb x.pc pc (λ e. omega arith)) refl

-- an instruction is the first one or a later one
pub there-cases : (x : PlacedInst) (xs : List PlacedInst) (pc : ℕ) (y : PlacedInst) → placed_at (x ∷ xs) pc ≡ Some y → ((x.pc ≡ pc) × (x ≡ y)) ⊎ (placed_at xs pc ≡ Some y)
unfolding placed_at
there-cases x xs pc y e = go (eqb x.pc pc) refl e
  where
    go : (b : Bool) → eqb x.pc pc ≡ b → (if b then Some x else placed_at xs pc) ≡ Some y → ((x.pc ≡ pc) × (x ≡ y)) ⊎ (placed_at xs pc ≡ Some y)
    go true q e = inl (eqb-true x.pc pc q, same_Some x y e)
    go false q e = inr e

-- each instruction stands below those after it
abbrev pub Ordered : List PlacedInst → Type 0
Ordered [] = Unit {0}
Ordered (x ∷ xs) = ((pc : ℕ) (y : PlacedInst) → placed_at xs pc ≡ Some y → x.pc < pc) × Ordered xs
