-- Where a rule fails first.
use Rattle.std.proofs.Common.{◌≡◌, ℕ, ◌<◌, ◌⊎◌, ◌↔◌, inl, inr, Option, Some, None, List, [], ◌∷◌, refl, sym, ap, subst, ◌∙◌, arith}
use Rattle.std.proofs.lemmas.Bool.{cases_order}
use Rattle.std.proofs.lemmas.Option.{same_Some}
use Rattle.tal_types.specs.Contexts.{ContextView}
use Rattle.tal_types.specs.Shown.{ShownImage}
use Rattle.ia32_code.specs.declared.instruction.Inst.{Inst}
use Rattle.tal_flow.specs.Rules.{rule_of, NoRuleFails, LeastRule}
use Rattle.tal_flow.specs.Strongest.{PlacedInst, NoRuleAt, LeastRuleAt, rule_at, falls_from, start, contexts, at_in, NoneFails, placed_at}
use Rattle.tal_checker.specs.Passing.{RefusedIn}
use Rattle.tal_checker.proofs.PlacedLists.{there-first, there-later, at-first, at-later, there-cases, Ordered}

-- an instruction has one least rule
one_least : (v : ShownImage) (c : ContextView) (x : PlacedInst) (n m : ℕ) → LeastRuleAt v c x n → LeastRuleAt v c x m → n ≡ m
one_least v c x n m f g = elim (cases_order n m) [
  | inl e ↦ e
  | inr k ↦ elim k [ inl l ↦ absurd (g.least n l f.fails) | inr l ↦ absurd (f.least m l g.fails) ]
]

-- instructions are refused first at one address, by one rule
pub one_refused : (v : ShownImage) (xs : List PlacedInst) (c : ContextView) (a b r s : ℕ) → RefusedIn v xs c a r → RefusedIn v xs c b s → (a ≡ b) × (r ≡ s)
one_refused v xs c a b r s f g = elim (cases_order a b) [
  | inl e ↦ (
    e,
    let same : f.placed ≡ g.placed = same_Some f.placed g.placed (sym f.here ∙ ap (λ (x : ℕ). placed_at xs x) e ∙ g.here) in
        let there : LeastRuleAt v (at_in v xs c b) g.placed r =
        subst (λ (x : PlacedInst). LeastRuleAt v (at_in v xs c b) x r) same (subst (λ (x : ℕ). LeastRuleAt v (at_in v xs c x) f.placed r) e f.fails) in
        one_least v (at_in v xs c b) g.placed r s there g.fails,
  )
  | inr k ↦ elim k [
    | inl l ↦ absurd (g.earlier a f.placed l f.here r f.fails.fails)
    | inr l ↦ absurd (f.earlier b g.placed l g.here s g.fails.fails)
  ]
]

-- the first instruction is refused
pub refused_first : (v : ShownImage) (x : PlacedInst) (xs : List PlacedInst) (c : ContextView) (rule : ℕ) → Ordered (x ∷ xs) → LeastRuleAt v (start v x.pc c) x rule
    → RefusedIn v (x ∷ xs) c x.pc rule
refused_first v x xs c rule o f = record {
  placed = x;
  here = there-first x xs x.pc refl;
  fails = subst (λ (d : ContextView). LeastRuleAt v d x rule) (sym (at-first v x xs c x.pc refl)) f;
  earlier = λ before other l e. elim (there-cases x xs before other e) [
    | inl k ↦ absurd (let a = k.0 in omega arith)
    | inr k ↦ absurd (let a = o.0 before other k in omega arith)
  ];
}

-- an instruction after the first is refused
pub refused_later : (v : ShownImage) (x : PlacedInst) (xs : List PlacedInst) (c : ContextView) (address rule : ℕ) → Ordered (x ∷ xs) → NoRuleAt v (start v x.pc c) x
    → RefusedIn v xs (falls_from v (start v x.pc c) x) address rule → RefusedIn v (x ∷ xs) c address rule
refused_later v x xs c address rule o f s =
    let l : x.pc < address = o.0 address s.placed s.here in
    record {
      placed = s.placed;
      here = there-later x xs address l ∙ s.here;
      fails = subst (λ (d : ContextView). LeastRuleAt v d s.placed rule) (sym (at-later v x xs c address l)) s.fails;
      earlier = λ before other b e. elim (there-cases x xs before other e) [
        | inl k ↦ (
            let d : at_in v (x ∷ xs) c before ≡ start v x.pc c = at-first v x xs c before k.0 ∙ ap (λ (n : ℕ). start v n c) (sym k.0) in
            subst (λ (d : ContextView). NoRuleAt v d other) (sym d) (subst (λ (z : PlacedInst). NoRuleAt v (start v x.pc c) z) k.1 f)
            )
        | inr k ↦ (
            let m : x.pc < before = o.0 before other k in
            subst (λ (d : ContextView). NoRuleAt v d other) (sym (at-later v x xs c before m)) (s.earlier before other b k)
            )
      ];
    }

-- what the flow's laws say of the rule of an instruction
pub record OneRuleIsLeast : Type 0 where
  pub least : (v : ShownImage) (c : ContextView) (pc : ℕ) (inst : Inst) (len n : ℕ) → (rule_of v c pc inst len ≡ Some n) ↔ LeastRule v c pc inst len n
  pub none : (v : ShownImage) (c : ContextView) (pc : ℕ) (inst : Inst) (len : ℕ) → (rule_of v c pc inst len ≡ None) ↔ NoRuleFails v c pc inst len

-- no rule fails at these instructions, or one does first
pub decided : OneRuleIsLeast → (v : ShownImage) (xs : List PlacedInst) (c : ContextView) → Ordered xs
    → NoneFails v xs (contexts v xs c) ⊎ ((address : ℕ) × (rule : ℕ) × RefusedIn v xs c address rule)
decided laws v [] c o = inl tt
decided laws v (x ∷ xs) c o = go (rule_at v (start v x.pc c) x) refl (decided laws v xs (falls_from v (start v x.pc c) x) o.1)
  where
    go : (r : Option ℕ) → rule_at v (start v x.pc c) x ≡ r
        → NoneFails v xs (contexts v xs (falls_from v (start v x.pc c) x)) ⊎ ((address : ℕ) × (rule : ℕ) × RefusedIn v xs (falls_from v (start v x.pc c) x) address rule)
        → NoneFails v (x ∷ xs) (contexts v (x ∷ xs) c) ⊎ ((address : ℕ) × (rule : ℕ) × RefusedIn v (x ∷ xs) c address rule)
    go (Some rule) e rest = inr (x.pc, rule, refused_first v x xs c rule o ((laws.least v (start v x.pc c) x.pc x.inst x.len rule).0 e))
    go None e rest =
        let none = (laws.none v (start v x.pc c) x.pc x.inst x.len).0 e in
        elim rest [ inl n ↦ inl (none, n) | inr f ↦ inr (f.0, f.1, refused_later v x xs c f.0 f.1 o none f.2) ]
