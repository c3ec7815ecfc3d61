use Rattle.std.proofs.Common.{◌≡◌, ◌≢◌, ℕ, zero, suc, ◌<◌, ◌≤◌, Bool, true, false, not, ◌||◌, ◌⊎◌, inl, inr, ◌+◌, List, [], ◌∷◌, length, get_or, refl, sym, subst, ⊎_elim, arith}
use Rattle.std.proofs.lemmas.Bool.Decides.{nat_tests}
use Rattle.std.proofs.lemmas.Bool.{and_parts, cases_lt}
use Rattle.std.proofs.lemmas.List.{get_or_default}
use Rattle.ia32_code.specs.declared.instruction.Reg.{Reg}
use Rattle.object_layout.specs.Classes.{ShapesView}
use Rattle.object_layout.specs.Laws.{ClassLaws}
use Rattle.tal_types.specs.declared.types.Ty.{Ty}
use Rattle.tal_types.specs.declared.types.FlagKind.{FlagKind}
use Rattle.tal_types.specs.Types.{sub, within}
use Rattle.tal_types.specs.Contexts.{LiveContext, ContextView, Dead, Live, LiveBelow, ContextBelow, same, kind_below, all_sub, every, has_all, live_below, context_below}

-- The orders of types, of kinds and of contexts.

-- a class is within itself
pub within-refl : (s : ShapesView) (c : ℕ) → within s c c ≡ true
unfolding within
within-refl s c = grind (arith, nat_tests)

-- a class within one that is within a third is within the third
pub within-trans : (s : ShapesView) → ClassLaws s → (c d e : ℕ) → within s c d ≡ true → within s d e ≡ true → within s c e ≡ true
unfolding within
within-trans s l c d e p q = grind (arith, nat_tests, l.transitive c d e)

-- each type is below itself
pub sub-refl : (s : ShapesView) (t : Ty) → sub s t t ≡ true
unfolding sub
sub-refl s t = grind (arith, nat_tests, within-refl)

-- what is below a type is below what that is below
pub sub-trans : (s : ShapesView) → ClassLaws s → (t u v : Ty) → sub s t u ≡ true → sub s u v ≡ true → sub s t v ≡ true
unfolding sub
sub-trans s l t u v p q = grind (arith, nat_tests, within-trans s l)

-- two registers of one number are one
pub same-true : (r q : Reg) → same r q ≡ true → r ≡ q
unfolding same
same-true r q e = grind (arith, nat_tests)

-- a register is itself
pub same-refl : (r : Reg) → same r r ≡ true
unfolding same
same-refl r = grind (arith, nat_tests)

-- the form in which tactics apply it
pub same-cases : (r q : Reg) → (same r q ≡ false) ⊎ ((same r q ≡ true) × (r ≡ q))
same-cases r q = go (same r q) refl
  where
    go : (b : Bool) → same r q ≡ b → (same r q ≡ false) ⊎ ((same r q ≡ true) × (r ≡ q))
    go true e = inr (e, same-true r q e)
    go false e = inl e

-- each kind is below itself
pub kind_below-refl : (k : FlagKind) → kind_below k k ≡ true
unfolding kind_below
kind_below-refl k = grind (arith, nat_tests, same-refl)

-- what is below a kind is below what that is below
pub kind_below-trans : (k m n : FlagKind) → kind_below k m ≡ true → kind_below m n ≡ true → kind_below k n ≡ true
unfolding kind_below
kind_below-trans k m n p q = grind (arith, nat_tests, same-refl, same-cases)

-- each list of types is below itself
pub all_sub-refl : (s : ShapesView) (ts : List Ty) → all_sub s ts ts ≡ true
unfolding all_sub
all_sub-refl s [] = refl
all_sub-refl s (t ∷ ts) = rw (sub-refl s t) (all_sub-refl s ts)

-- lists of types are ordered as their types
pub all_sub-trans : (s : ShapesView) → ClassLaws s → (ts us vs : List Ty) → all_sub s ts us ≡ true → all_sub s us vs ≡ true → all_sub s ts vs ≡ true
unfolding all_sub
all_sub-trans s l [] [] [] p q = refl
all_sub-trans s l (t ∷ ts) (u ∷ us) (v ∷ vs) p q =
    let f = and_parts (sub s t u) _ p in let g = and_parts (sub s u v) _ q in
    rw (sub-trans s l t u v f.0 g.0) (all_sub-trans s l ts us vs f.1 g.1)
all_sub-trans s l ts us vs p q = absurd (grind arith)

-- lists of two lengths are not below each other
pub all_sub-lengths : (s : ShapesView) (ts us : List Ty) → length ts ≢ length us → false ≡ all_sub s ts us
unfolding all_sub
all_sub-lengths s [] [] n = absurd (n refl)
all_sub-lengths s [] (u ∷ us) n = refl
all_sub-lengths s (t ∷ ts) [] n = refl
all_sub-lengths s (t ∷ ts) (u ∷ us) n = let rest = all_sub-lengths s ts us (omega arith) in grind arith

-- one type that is not below the other's
pub all_sub-apart : (s : ShapesView) (ts us : List Ty) (k : ℕ) (d e : Ty) → k < length ts → sub s (get_or ts k d) (get_or us k e) ≡ false → false ≡ all_sub s ts us
unfolding all_sub
all_sub-apart s [] us k d e l h = absurd (omega arith)
all_sub-apart s (t ∷ ts) [] k d e l h = refl
all_sub-apart s (t ∷ ts) (u ∷ us) zero d e l h = rw h refl
all_sub-apart s (t ∷ ts) (u ∷ us) (suc k) d e l h = let rest = all_sub-apart s ts us k d e (omega arith) h in grind arith

-- lists of one length that are below each other at each place
pub all_sub-from : (s : ShapesView) (ts us : List Ty) → length ts ≡ length us → ((k : ℕ) (d e : Ty) → k < length ts → sub s (get_or ts k d) (get_or us k e) ≡ true)
    → true ≡ all_sub s ts us
unfolding all_sub
all_sub-from s [] [] l h = refl
all_sub-from s [] (u ∷ us) l h = absurd (omega arith)
all_sub-from s (t ∷ ts) [] l h = absurd (omega arith)
all_sub-from s (t ∷ ts) (u ∷ us) l h =
    rw (h zero t u (omega arith)) (all_sub-from s ts us (omega arith) (λ k d e i. h (suc k) d e (omega arith)))

-- one more place
pub all_sub-more : (s : ShapesView) (ts us : List Ty) (i : ℕ) → ((k : ℕ) (d e : Ty) → k < i → sub s (get_or ts k d) (get_or us k e) ≡ true) → i < length ts
    → i < length us → (x y : Ty) → sub s (get_or ts i x) (get_or us i y) ≡ true → (k : ℕ) (d e : Ty) → k < i + 1 → sub s (get_or ts k d) (get_or us k e) ≡ true
all_sub-more s ts us i before l m x y here k d e h = ⊎_elim
    (λ (low : k < i). before k d e low)
    (λ (high : i ≤ k).
    let same : k ≡ i = omega arith in
    subst (λ j. sub s (get_or ts j d) (get_or us j e) ≡ true) (sym same)
    (rw (get_or_default ts i d x l, get_or_default us i e y m) here))
    (cases_lt k i)

-- lists that are below each other are so at each place
pub all_sub-told : (s : ShapesView) (ts us : List Ty) → all_sub s ts us ≡ true → (k : ℕ) (d e : Ty) → k < length ts → sub s (get_or ts k d) (get_or us k e) ≡ true
unfolding all_sub
all_sub-told s [] us h k d e l = absurd (omega arith)
all_sub-told s (t ∷ ts) [] h k d e l = absurd (grind arith)
all_sub-told s (t ∷ ts) (u ∷ us) h zero d e l = (and_parts (sub s t u) _ h).0
all_sub-told s (t ∷ ts) (u ∷ us) h (suc k) d e l = all_sub-told s ts us (and_parts (sub s t u) _ h).1 k d e (omega arith)

-- A test of each register.

-- a test that each register passes is passed by each
pub every-all : (p : Reg → Bool) (r : Reg) → every p ≡ true → p r ≡ true
every-all p r e = grind arith

-- where each register passes a test, all do
pub every-from : (p : Reg → Bool) → ((r : Reg) → p r ≡ true) → every p ≡ true
every-from p h = grind arith

-- of two tests the second gives the first
implied : (p q : Bool) → (not q || p) ≡ true → q ≡ true → p ≡ true
implied p q e h = grind arith

-- the first of two tests follows from the second
implies : (p q : Bool) → (q ≡ true → p ≡ true) → (not q || p) ≡ true
implies p q h = grind arith

-- a relation that has all of another has each of its pairs
pub has_all-told : (p q : Reg → Reg → Bool) (r t : Reg) → has_all p q ≡ true → q r t ≡ true → p r t ≡ true
unfolding has_all
has_all-told p q r t e h =
    implied (p r t) (q r t) (every-all (λ t. not (q r t) || p r t) t (every-all (λ r. every (λ t. not (q r t) || p r t)) r e)) h

-- a relation that has each pair of another has all of it
pub has_all-from : (p q : Reg → Reg → Bool) → ((r t : Reg) → q r t ≡ true → p r t ≡ true) → has_all p q ≡ true
unfolding has_all
has_all-from p q h = every-from (λ r. every (λ t. not (q r t) || p r t)) (λ r. every-from (λ t. not (q r t) || p r t) (λ t. implies (p r t) (q r t) (h r t)))

-- The test of contexts is their order.

-- the test of live contexts tells their order
pub live_below-told : (s : ShapesView) (a b : LiveContext) → live_below s a b ≡ true → LiveBelow s a b
unfolding live_below
live_below-told s a b e =
    let p = and_parts _ _ e in let q = and_parts _ _ p.1 in let r = and_parts _ _ q.1 in let f = and_parts _ _ r.1 in
    record {
      regs = λ x. every-all (λ x. sub s (a.regs x) (b.regs x)) x p.0;
      slots = q.0;
      kind = r.0;
      pairs = λ i x. has_all-told a.pairs b.pairs i x f.0;
      heads = λ t x. has_all-told a.heads b.heads t x f.1;
    }

-- live contexts in their order pass the test
pub live_below-from : (s : ShapesView) (a b : LiveContext) → LiveBelow s a b → live_below s a b ≡ true
unfolding live_below
live_below-from s a b h =
    rw (
      every-from (λ r. sub s (a.regs r) (b.regs r)) h.regs,
      h.slots,
      h.kind,
      has_all-from a.pairs b.pairs h.pairs,
      has_all-from a.heads b.heads h.heads,
    )
    refl

-- the test of contexts tells their order
pub context_below-told : (s : ShapesView) (a b : ContextView) → context_below s a b ≡ true → ContextBelow s a b
unfolding context_below
context_below-told s Dead b e = tt
context_below-told s (Live a) Dead e = cc
context_below-told s (Live a) (Live b) e = live_below-told s a b e

-- contexts in their order pass the test
pub context_below-from : (s : ShapesView) (a b : ContextView) → ContextBelow s a b → context_below s a b ≡ true
unfolding context_below
context_below-from s Dead b h = refl
context_below-from s (Live a) Dead h = absurd h
context_below-from s (Live a) (Live b) h = live_below-from s a b h

-- each context is below itself
pub ContextBelow-refl : (s : ShapesView) (a : ContextView) → ContextBelow s a a
ContextBelow-refl s Dead = tt
ContextBelow-refl s (Live a) = record {
  regs = λ r. sub-refl s (a.regs r);
  slots = all_sub-refl s a.slots;
  kind = kind_below-refl a.kind;
  pairs = λ i r h. h;
  heads = λ t r h. h;
}

-- what is below a live context is below what that is below
LiveBelow-trans : (s : ShapesView) → ClassLaws s → (a b c : LiveContext) → LiveBelow s a b → LiveBelow s b c → LiveBelow s a c
LiveBelow-trans s l a b c g h = record {
  regs = λ r. sub-trans s l _ _ _ (g.regs r) (h.regs r);
  slots = all_sub-trans s l _ _ _ g.slots h.slots;
  kind = kind_below-trans _ _ _ g.kind h.kind;
  pairs = λ i r k. g.pairs i r (h.pairs i r k);
  heads = λ t r k. g.heads t r (h.heads t r k);
}

-- what is below a context is below what that is below
pub ContextBelow-trans : (s : ShapesView) → ClassLaws s → (a b c : ContextView) → ContextBelow s a b → ContextBelow s b c → ContextBelow s a c
ContextBelow-trans s l Dead b c g h = tt
ContextBelow-trans s l (Live a) Dead c g h = absurd g
ContextBelow-trans s l (Live a) (Live b) Dead g h = absurd h
ContextBelow-trans s l (Live a) (Live b) (Live c) g h = LiveBelow-trans s l a b c g h
