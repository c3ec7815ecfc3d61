-- A lineage, level by level.
use Rattle.std.proofs.Common.{◌≡◌, ◌<◌, ℕ, zero, suc, ◌-◌, List, [], ◌∷◌, Option, Some, None, slice_get, refl, ap, ◌∙◌, arith}
use Rattle.std.specs.Option.{option_and_then, option_map_or}
use Rattle.tal_names.specs.declared.names.ClassNames.{ClassNames}
use Rattle.tal_names.specs.Declarations.{ancestry_within}

-- no levels have no class
pub lineage_none : (n : ℕ) (cs : List ClassNames) (c : Option ℕ) → n ≡ 0 → ancestry_within n cs c ≡ []
unfolding ancestry_within
lineage_none zero cs c h = refl
lineage_none (suc n) cs c h = absurd (omega arith)

-- a class that is not there has no lineage
pub lineage_nowhere : (n : ℕ) (cs : List ClassNames) (c : Option ℕ) → option_and_then (slice_get cs) c ≡ None → ancestry_within n cs c ≡ []
unfolding ancestry_within
lineage_nowhere zero cs c h = refl
lineage_nowhere (suc n) cs c h = ap (λ (o : Option ClassNames). option_map_or (λ (k : ClassNames). k ∷ ancestry_within n cs k.parent) o []) h

-- a class that is there stands before the lineage of its parent
pub lineage_behind : (n : ℕ) (cs : List ClassNames) (c : Option ℕ) (k : ClassNames) → 0 < n → option_and_then (slice_get cs) c ≡ Some k → ancestry_within n cs c ≡ k ∷ ancestry_within (n - 1) cs k.parent
unfolding ancestry_within
lineage_behind zero cs c k lt h = absurd (omega arith)
lineage_behind (suc n) cs c k lt h =
    ap (λ (o : Option ClassNames). option_map_or (λ (j : ClassNames). j ∷ ancestry_within n cs j.parent) o []) h
    ∙ ap (λ i. k ∷ ancestry_within i cs k.parent) (let e : n ≡ suc n - 1 = omega arith in e)
