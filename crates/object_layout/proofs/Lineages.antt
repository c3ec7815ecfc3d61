use Rattle.std.proofs.Common.{◌≡◌, ℕ, zero, suc, ◌<◌, true, false, ◌||◌, nat_eq, Option, None, Some, List, [], ◌∷◌, ◌++◌, refl, ap, sym, ◌∙◌, arith, append_assoc, subst, ⊎_elim}
use Rattle.std.proofs.lemmas.Bool.Decides.{nat_tests}
use Rattle.std.proofs.lemmas.Bool.{or_cases}
use Rattle.std.proofs.lemmas.List.{append-nil}
use Rattle.std.proofs.lemmas.List.Folds.{list_any-append}
use Rattle.std.specs.Option.{option_map_or}
use Rattle.std.specs.List.{list_any}
use Rattle.object_layout.specs.Classes.{ShapesView, parent, lineage_within, lineage}

-- each parent of the first k classes is an earlier class
pub record IsEarlierBelow (s : ShapesView) (k : ℕ) : Type 0 where
  pub earlier : (c p : ℕ) → c < k → parent s c ≡ Some p → p < c

-- c is d or has it as an ancestor
pub data Descends (s : ShapesView) : ℕ → ℕ → Type 0 where
  itself : (c : ℕ) → Descends s c c
  under : (c p d : ℕ) → parent s c ≡ Some p → Descends s p d → Descends s c d

-- what is alike below c is alike at its parent
above_equal : (s : ShapesView) (k c : ℕ) → IsEarlierBelow s k → c < k → (f g : ℕ → List ℕ) → ((p : ℕ) → p < c → f p ≡ g p)
    → option_map_or f (parent s c) [] ≡ option_map_or g (parent s c) []
above_equal s k c h l f g alike = go (parent s c) refl
  where
    go : (o : Option ℕ) → parent s c ≡ o → option_map_or f o [] ≡ option_map_or g o []
    go None e = refl
    go (Some p) e = alike p (h.earlier c p l e)

-- from c + 1 classes on, it does not matter how many a lineage may have
pub lineage_within-enough : (s : ShapesView) (k : ℕ) → IsEarlierBelow s k → (n m c : ℕ) → c < n → c < m → c < k → lineage_within n s c ≡ lineage_within m s c
unfolding lineage_within
lineage_within-enough s k h zero m c a b l = absurd (omega arith)
lineage_within-enough s k h (suc n) zero c a b l = absurd (omega arith)
lineage_within-enough s k h (suc n) (suc m) c a b l =
    let ih : (p : ℕ) → p < c → lineage_within n s p ≡ lineage_within m s p
    = λ p e. lineage_within-enough s k h n m p (omega arith) (omega arith) (omega arith) in
    ap (λ xs. xs ++ c ∷ []) (above_equal s k c h l (lineage_within n s) (lineage_within m s) ih)

-- a class stands behind the lineage of its parent
pub lineage-step : (s : ShapesView) (k c : ℕ) → IsEarlierBelow s k → c < k → lineage s c ≡ option_map_or (lineage s) (parent s c) [] ++ c ∷ []
unfolding lineage lineage_within
lineage-step s k c h l =
    let alike : (p : ℕ) → p < c → lineage_within c s p ≡ lineage_within (suc p) s p
    = λ p e. lineage_within-enough s k h c (suc p) p e (omega arith) (omega arith) in
    ap (λ xs. xs ++ c ∷ []) (above_equal s k c h l (lineage_within c s) (λ p. lineage_within (suc p) s p) alike)

-- a root stands alone
pub lineage-root : (s : ShapesView) (c : ℕ) → parent s c ≡ None → lineage s c ≡ c ∷ []
unfolding lineage lineage_within
lineage-root s c e = ap (λ o. option_map_or (lineage_within c s) o [] ++ c ∷ []) e

-- a class stands behind the lineage of its parent
pub lineage-under : (s : ShapesView) (k c p : ℕ) → IsEarlierBelow s k → c < k → parent s c ≡ Some p → lineage s c ≡ lineage s p ++ c ∷ []
lineage-under s k c p h l e = rw (lineage-step s k c h l, e) refl

-- what is equal to a class is the class itself
descends_last : (s : ShapesView) (c d : ℕ) → (nat_eq d c || false) ≡ true → Descends s c d
descends_last s c d e = let same : d ≡ c = grind (arith, nat_tests) in subst (λ x. Descends s c x) (sym same) (itself c)

-- what stands in the lineage of the parent is an ancestor
descends_above : (s : ShapesView) (c d : ℕ) (f : ℕ → List ℕ) → ((p : ℕ) → list_any (nat_eq d) (f p) ≡ true → Descends s p d) → (o : Option ℕ)
    → parent s c ≡ o → list_any (nat_eq d) (option_map_or f o []) ≡ true → Descends s c d
descends_above s c d f ih None e g = absurd (grind arith)
descends_above s c d f ih (Some p) e g = under c p d e (ih p g)

-- what stands in a lineage is the class or an ancestor
pub descends_within : (s : ShapesView) (n c d : ℕ) → list_any (nat_eq d) (lineage_within n s c) ≡ true → Descends s c d
unfolding lineage_within
descends_within s zero c d h = absurd (grind arith)
descends_within s (suc n) c d h =
    let ih : (p : ℕ) → list_any (nat_eq d) (lineage_within n s p) ≡ true → Descends s p d = λ p e. descends_within s n p d e in
    let split = list_any-append (nat_eq d) (option_map_or (lineage_within n s) (parent s c) []) (c ∷ []) in
    ⊎_elim (λ x. descends_above s c d (lineage_within n s) ih (parent s c) refl x) (λ x. descends_last s c d x) (or_cases _ _ (sym split ∙ h))

-- the lineage of an ancestor is a front of the class's
pub lineage-front : (s : ShapesView) (k c d : ℕ) → IsEarlierBelow s k → c < k → Descends s c d → (rest : List ℕ) × (lineage s c ≡ lineage s d ++ rest)
lineage-front s k _ _ h l (itself c) = ([], sym (append-nil _))
lineage-front s k _ _ h l (under c p d e t) =
    let earlier = h.earlier c p l e in
    let deeper = lineage-front s k p d h (omega arith) t in
    (deeper.0 ++ c ∷ [], lineage-under s k c p h l e ∙ ap (λ xs. xs ++ c ∷ []) deeper.1 ∙ append_assoc (lineage s d) deeper.0 (c ∷ []))
