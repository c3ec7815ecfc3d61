use Rattle.std.proofs.Common.{◌≡◌, ℕ, zero, suc, ◌+◌, ◌<◌, ◌≤◌, true, Option, None, Some, length, refl, ap, ◌∙◌, arith, add-one, subst, ⊎_elim}
use Rattle.std.specs.Option.{option_or}
use Rattle.std.proofs.lemmas.Bool.Decides.{nat_tests}
use Rattle.std.proofs.lemmas.Bool.{cases_lt}
use Rattle.std.proofs.lemmas.Option.{slice_get_cases}
use Rattle.object_layout.specs.declared.faults.ShapeFault.{ShapeFault}
use Rattle.object_layout.specs.Classes.{ShapesView, parent, Depth, Fields, Methods}
use Rattle.object_layout.specs.Faults.{first_fault, first_below, class_fault, kind_fault, has_earlier_parent, is_too_many, has_indexes, keeps_methods}
use Rattle.object_layout.proofs.Lineages.{IsEarlierBelow}

-- What a row without a fault has.

pub record IsSoundClass (s : ShapesView) (c : ℕ) : Type 0 where
  pub earlier : has_earlier_parent s c ≡ true
  pub shallow : Depth s c ≤ 7
  pub few_fields : length (Fields s c) ≤ 256
  pub few_methods : length (Methods s c) ≤ 53
  pub few_classes : c < 1024
  pub named : has_indexes s c ≡ true
  pub kept : keeps_methods s c ≡ true

-- neither of two is there
or-none : {X : Type 0} → (a b : Option X) → option_or a b ≡ None → (a ≡ None) × (b ≡ None)
or-none None b e = (refl, e)
or-none (Some x) b e = cc

-- none of the first n is something
pub first_below-none : (n : ℕ) (fault : ℕ → Option ShapeFault) → first_below n fault ≡ None → (c : ℕ) → c < n → fault c ≡ None
unfolding first_below
first_below-none zero fault e c l = absurd (omega arith)
first_below-none (suc n) fault e c l =
    let parts = or-none (first_below n fault) (fault n) e in
    ⊎_elim
    (λ (h : c < n). first_below-none n fault parts.0 c h)
    (λ (h : n ≤ c). let same : n ≡ c = omega arith in subst (λ x. fault x ≡ None) same parts.1)
    (cases_lt c n)

-- before the first row there is no fault
pub first_below-zero : (fault : ℕ → Option ShapeFault) → first_below 0 fault ≡ None
unfolding first_below
first_below-zero fault = refl

-- one more row
pub first_below-more : (n : ℕ) (fault : ℕ → Option ShapeFault) → first_below n fault ≡ None → fault n ≡ None → first_below (n + 1) fault ≡ None
unfolding first_below
first_below-more n fault e f = rw (add-one, e, f) refl

-- the first that is something
pub first_below-found : (n c : ℕ) (fault : ℕ → Option ShapeFault) (x : ShapeFault) → c < n → first_below c fault ≡ None → fault c ≡ Some x → first_below n fault ≡ Some x
unfolding first_below
first_below-found zero c fault x l e f = absurd (omega arith)
first_below-found (suc n) c fault x l e f = ⊎_elim
    (λ (h : c < n). ap (λ o. option_or o (fault n)) (first_below-found n c fault x h e f))
    (λ (h : n ≤ c).
    let same : n ≡ c = omega arith in
    ap (λ o. option_or o (fault n)) (ap (λ k. first_below k fault) same ∙ e) ∙ ap fault same ∙ f)
    (cases_lt c n)

-- what a class row without a fault has
pub class-sound : (s : ShapesView) (c : ℕ) → class_fault s c ≡ None → IsSoundClass s c
unfolding class_fault is_too_many
class-sound s c e = record {
  earlier = grind (arith, nat_tests);
  shallow = grind (arith, nat_tests);
  few_fields = grind (arith, nat_tests);
  few_methods = grind (arith, nat_tests);
  few_classes = grind (arith, nat_tests);
  named = grind (arith, nat_tests);
  kept = grind (arith, nat_tests);
}

-- an earlier parent, as a fact
pub earlier-fact : (s : ShapesView) (c p : ℕ) → has_earlier_parent s c ≡ true → parent s c ≡ Some p → p < c
unfolding has_earlier_parent
earlier-fact s c p h e = grind (arith, nat_tests)

-- only a class has a parent
pub parent-there : (s : ShapesView) (c p : ℕ) → parent s c ≡ Some p → c < length s.classes
unfolding parent
parent-there s c p e = grind (arith, slice_get_cases s.classes c)

-- in a table each class row is without a fault
pub classes_sound : (s : ShapesView) → first_fault s ≡ None → (c : ℕ) → c < length s.classes → IsSoundClass s c
unfolding first_fault
classes_sound s e c l = class-sound s c (first_below-none (length s.classes) (class_fault s) (or-none _ _ e).0 c l)

-- in a table each parent is an earlier class
pub parents_earlier : (s : ShapesView) → first_fault s ≡ None → IsEarlierBelow s (length s.classes)
parents_earlier s e = record { earlier = λ c p l h. earlier-fact s c p (classes_sound s e c l).earlier h }

-- kind row 256 is one too many
no_row_256 : (s : ShapesView) → kind_fault s 256 ≡ None → ⊥
unfolding kind_fault
no_row_256 s e = grind (arith, nat_tests)

-- rows without a fault are few
pub kinds-few : (s : ShapesView) (k : ℕ) → first_below k (kind_fault s) ≡ None → k ≤ 256
kinds-few s k e = ⊎_elim
    (λ (past : 256 < k). absurd (no_row_256 s (first_below-none k (kind_fault s) e 256 past)))
    (λ (l : k ≤ 256). l)
    (cases_lt 256 k)

-- in a table no kind row has a fault
pub kinds-sound : (s : ShapesView) → first_fault s ≡ None → first_below (length s.kinds) (kind_fault s) ≡ None
unfolding first_fault
kinds-sound s e = (or-none _ _ e).1

-- class rows without a fault are few
pub classes_few_below : (s : ShapesView) (c : ℕ) → first_below c (class_fault s) ≡ None → c ≤ 1024
classes_few_below s c e = ⊎_elim
    (λ (past : 1024 < c). absurd (omega (arith, (class-sound s 1024 (first_below-none c (class_fault s) e 1024 past)).few_classes)))
    (λ (l : c ≤ 1024). l)
    (cases_lt 1024 c)

-- a table has few classes
pub classes_few : (s : ShapesView) → first_fault s ≡ None → length s.classes ≤ 1024
unfolding first_fault
classes_few s e = classes_few_below s (length s.classes) (or-none _ _ e).0
