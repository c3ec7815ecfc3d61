use Rattle.std.proofs.Common.{◌≡◌, ℕ, Bool, true, false, ◌↔◌, ◌<◌, nat_eq, if◌then◌else◌, Option, Some, None, ap, arith, refl, sym, subst, List, [], ◌∷◌, eq-eqb}
use Rattle.std.proofs.lemmas.Bool.Decides.{nat_tests}
use Rattle.object_layout.specs.Laws.{ClassLaws}
use Rattle.tal_types.specs.Contexts.{ContextView, Dead, ContextBelow}
use Rattle.tal_types.specs.Shown.{ShownImage}
use Rattle.tal_flow.specs.Rules.{next_address}
use Rattle.tal_flow.specs.Strongest.{PlacedInst, NoRuleAt, falls_from, known_at, carried, start, contexts, at_in, At, NoneFails, JoinedContexts, placed_at, Chained, HasOneHead, BlocksHaveOneHead}
use Rattle.tal_flow.proofs.Monotone.{rule_below, falls-below}
use Rattle.tal_flow.proofs.Heads.{start-head, falls-head}
use Rattle.tal_types.specs.Laws.{TypeLaws}

-- The strongest contexts serve where any contexts do, and are those of `At`.

-- no rule fails at an instruction in the context at its address
at_in-row : (v : ShownImage) (xs : List PlacedInst) (c : ContextView) (pc : ℕ) (x : PlacedInst) → NoneFails v xs (contexts v xs c) → placed_at xs pc ≡ Some x
    → NoRuleAt v (at_in v xs c pc) x
unfolding placed_at at_in
at_in-row v [] c pc x n e = absurd (grind arith)
at_in-row v (y ∷ xs) c pc x n e = go (nat_eq y.pc pc) e (at_in-row v xs (falls_from v (start v y.pc c) y) pc x n.1)
  where
    go : (b : Bool) → (if b then Some y else placed_at xs pc) ≡ Some x → (placed_at xs pc ≡ Some x → NoRuleAt v (at_in v xs (falls_from v (start v y.pc c) y) pc) x)
        → NoRuleAt v (if b then (start v y.pc c) else at_in v xs (falls_from v (start v y.pc c) y) pc) x
    go true e r = let f : y ≡ x = grind arith in subst (λ z. NoRuleAt v (start v y.pc c) z) f n.0
    go false e r = r e

-- no rule fails at an instruction in its strongest context
pub at-row : (v : ShownImage) (xs : List PlacedInst) (pc : ℕ) (x : PlacedInst) → NoneFails v xs (contexts v xs Dead) → placed_at xs pc ≡ Some x → NoRuleAt v (At v xs pc) x
unfolding At
at-row v xs pc x n e = at_in-row v xs Dead pc x n e

-- an instruction in the rest ends above where the rest begins
row-after : (n : ℕ) (xs : List PlacedInst) (pc : ℕ) (x : PlacedInst) → Chained n xs → placed_at xs pc ≡ Some x → n < next_address x.pc x.len
unfolding placed_at
row-after n [] pc x h e = absurd (grind arith)
row-after n (y ∷ xs) pc x h e = go (nat_eq y.pc pc) e (λ u. row-after (next_address y.pc y.len) xs pc x h.2 u)
  where
    go : (b : Bool) → (if b then Some y else placed_at xs pc) ≡ Some x → (placed_at xs pc ≡ Some x → next_address y.pc y.len < next_address x.pc x.len) → n < next_address x.pc x.len
    go true e r = let f : y ≡ x = grind arith in subst (λ z. n < next_address z.pc z.len) f h.1
    go false e r = let a = r e in let b = h.1 in omega arith

-- the first instruction of the rest
at-first : (v : ShownImage) (n : ℕ) (xs : List PlacedInst) (c : ContextView) (y : PlacedInst) → Chained n xs → placed_at xs n ≡ Some y → at_in v xs c n ≡ start v n c
unfolding placed_at at_in
at-first v n [] c y h e = absurd (grind arith)
at-first v n (z ∷ xs) c y h e = rw (h.0, eq-eqb n n refl) refl

-- the context at the next address is what that has by itself, or else what falls to it
at_in-next : (v : ShownImage) (xs : List PlacedInst) (n : ℕ) (c : ContextView) (pc : ℕ) (x y : PlacedInst) → Chained n xs → placed_at xs pc ≡ Some x
    → placed_at xs (next_address x.pc x.len) ≡ Some y → at_in v xs c (next_address x.pc x.len) ≡ start v (next_address x.pc x.len) (falls_from v (at_in v xs c pc) x)
unfolding placed_at at_in
at_in-next v [] n c pc x y h e f = absurd (grind arith)
at_in-next v (z ∷ xs) n c pc x y h e f = go (nat_eq z.pc pc) e (λ u g. at_in-next v xs (next_address z.pc z.len) (falls_from v (start v z.pc c) z) pc x y h.2 u g)
  where
    passed : nat_eq z.pc (next_address z.pc z.len) ≡ false
    passed = let a = h.0 in let b = h.1 in grind (arith, nat_tests)

    further : placed_at xs pc ≡ Some x → nat_eq z.pc (next_address x.pc x.len) ≡ false
    further u = let a = h.0 in let b = h.1 in let d = row-after (next_address z.pc z.len) xs pc x h.2 u in grind (arith, nat_tests)

    go : (b : Bool) → (if b then Some z else placed_at xs pc) ≡ Some x
        → (placed_at xs pc ≡ Some x → placed_at xs (next_address x.pc x.len) ≡ Some y → at_in v xs (falls_from v (start v z.pc c) z) (next_address x.pc x.len) ≡ start v (next_address x.pc x.len) (falls_from v (at_in v xs (falls_from v (start v z.pc c) z) pc) x))
        → (if nat_eq z.pc (next_address x.pc x.len) then start v z.pc c else at_in v xs (falls_from v (start v z.pc c) z) (next_address x.pc x.len)) ≡ start v (next_address x.pc x.len) (falls_from v (if b then start v z.pc c else at_in v xs (falls_from v (start v z.pc c) z) pc) x)
    go true e r = let q : z ≡ x = grind arith in subst (λ w. (if nat_eq z.pc (next_address w.pc w.len) then start v z.pc c else at_in v xs (falls_from v (start v z.pc c) z) (next_address w.pc w.len)) ≡ start v (next_address w.pc w.len) (falls_from v (start v z.pc c) w)) q (rw passed (at-first v (next_address z.pc z.len) xs _ y h.2 (let g : (if nat_eq z.pc (next_address x.pc x.len) then Some z else placed_at xs (next_address x.pc x.len)) ≡ Some y = f in let k : next_address x.pc x.len ≡ next_address z.pc z.len = ap (λ w. next_address w.pc w.len) (sym q) in rest k g)))
      where
        rest : next_address x.pc x.len ≡ next_address z.pc z.len → (if nat_eq z.pc (next_address x.pc x.len) then Some z else placed_at xs (next_address x.pc x.len)) ≡ Some y
            → placed_at xs (next_address z.pc z.len) ≡ Some y
        rest k g = rw (k, passed) at g
    go false e r = let p = further e in let g : placed_at xs (next_address x.pc x.len) ≡ Some y = rw p at f in rw p (r e g)

-- the strongest context at the next instruction
pub at-next : (v : ShownImage) (xs : List PlacedInst) (n pc : ℕ) (x y : PlacedInst) → Chained n xs → placed_at xs pc ≡ Some x → placed_at xs (next_address x.pc x.len) ≡ Some y
    → At v xs (next_address x.pc x.len) ≡ start v (next_address x.pc x.len) (falls_from v (At v xs pc) x)
unfolding At
at-next v xs n pc x y h e f = at_in-next v xs n Dead pc x y h e f

module _ (types : TypeLaws) where
  -- the context at an address is below where what falls to it is
  start-below : (v : ShownImage) (pc : ℕ) (a b : ContextView) → ContextBelow v.shapes a b → ContextBelow v.shapes (start v pc a) (start v pc b)
  unfolding start
  start-below v pc a b h = go (known_at v pc)
    where
      go : (o : Option ContextView) → ContextBelow v.shapes (carried a o) (carried b o)
      go None = h
      go (Some d) = types.contexts_reflexive v.shapes d

  -- where some contexts serve, the strongest ones do
  strongest : (v : ShownImage) → ClassLaws v.shapes → BlocksHaveOneHead v → (xs : List PlacedInst) (cs : List ContextView) (a b : ContextView) → ContextBelow v.shapes a b
      → HasOneHead a → NoneFails v xs cs → JoinedContexts v xs cs b → NoneFails v xs (contexts v xs a)
  strongest v l blocks [] cs a b h one n j = tt
  strongest v l blocks (x ∷ xs) [] a b h one n j = absurd n
  strongest v l blocks (x ∷ xs) (c ∷ cs) a b h one n j =
      let s = start v x.pc a in
      let k : ContextBelow v.shapes s c = types.contexts_transitive v.shapes l s (start v x.pc b) c (start-below v x.pc a b h) j.0 in
      let o : HasOneHead s = start-head types v blocks x.pc a one in
      let r = rule_below types v l s c x.pc x.inst x.len k o n.0 in
      (r, strongest v l blocks xs cs (falls_from v s x) (falls_from v c x) (falls-below types v l s c x.pc x.inst x.len k o n.0) (falls-head types v s x o) n.1 j.1)

  -- the strongest contexts join
  itself-joined : (v : ShownImage) (xs : List PlacedInst) (a : ContextView) → JoinedContexts v xs (contexts v xs a) a
  itself-joined v [] a = tt
  itself-joined v (x ∷ xs) a = (types.contexts_reflexive v.shapes (start v x.pc a), itself-joined v xs (falls_from v (start v x.pc a) x))

  -- some contexts serve exactly where the strongest do
  pub serve_exactly : (v : ShownImage) → ClassLaws v.shapes → BlocksHaveOneHead v → (xs : List PlacedInst)
      → ((cs : List ContextView) × NoneFails v xs cs × JoinedContexts v xs cs Dead) ↔ NoneFails v xs (contexts v xs Dead)
  serve_exactly v l blocks xs = (λ h. strongest v l blocks xs h.0 Dead Dead tt tt h.1 h.2, λ h. (contexts v xs Dead, h, itself-joined v xs Dead))
