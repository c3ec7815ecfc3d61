-- What an address has by itself is the strongest context there.
use Rattle.std.specs.Prelude.{if◌then◌else◌}
use Rattle.std.proofs.Common.{◌≡◌, ℕ, Bool, true, false, eqb, Option, Some, None, List, [], ◌∷◌, refl, ap, ◌∙◌}
use Rattle.std.proofs.lemmas.Bool.{eqb-true}
use Rattle.std.proofs.lemmas.Option.{none-some}
use Rattle.tal_types.specs.Contexts.{ContextView, entry}
use Rattle.tal_types.specs.Shown.{ShownImage}
use Rattle.tal_types.specs.declared.signatures.Sig.{Sig}
use Rattle.tal_flow.specs.Strongest.{PlacedInst, falls_from, known_at, carried, start, at_in, placed_at}

-- where an address has a context by itself, that is the strongest one there
pub at-known : (v : ShownImage) (xs : List PlacedInst) (c : ContextView) (pc : ℕ) (x : PlacedInst) (d : ContextView) → placed_at xs pc ≡ Some x → known_at v pc ≡ Some d
    → at_in v xs c pc ≡ d
unfolding placed_at at_in start
at-known v [] c pc x d e k = absurd (none-some x e)
at-known v (y ∷ xs) c pc x d e k = go (eqb y.pc pc) refl e (λ u. at-known v xs (falls_from v (start v y.pc c) y) pc x d u k)
  where
    go : (b : Bool) → eqb y.pc pc ≡ b → (if b then Some y else placed_at xs pc) ≡ Some x → (placed_at xs pc ≡ Some x → at_in v xs (falls_from v (start v y.pc c) y) pc ≡ d)
        → (if b then carried c (known_at v y.pc) else at_in v xs (falls_from v (start v y.pc c) y) pc) ≡ d
    go true q e more = ap (λ (n : ℕ). carried c (known_at v n)) (eqb-true y.pc pc q) ∙ ap (carried c) k
    go false q e more = more e

-- at a function's first instruction that is the context of its signature
pub known-function : (v : ShownImage) (pc g : ℕ) (sig : Sig) → v.function_at pc ≡ Some g → v.sig g ≡ Some sig → known_at v pc ≡ Some (entry sig)
unfolding known_at
known-function v pc g sig e s = rw (e, s) refl

-- elsewhere it is what the block has
pub known-block : (v : ShownImage) (pc : ℕ) (o : Option ContextView) → v.function_at pc ≡ None → v.block_at pc ≡ o → known_at v pc ≡ o
unfolding known_at
known-block v pc o e b = rw (e, b) refl
