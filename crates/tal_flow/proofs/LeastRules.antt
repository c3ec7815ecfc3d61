-- The first rule that fails is the least one, since the rules are tried in their order.
use Rattle.std.proofs.Common.{◌≡◌, ℕ, ◌<◌, ◌≤◌, ◌++◌, nat_lt, nat_eq, Bool, true, false, not, ◌&&◌, ◌||◌, inl, inr, Option, Some, None, List, [], ◌∷◌, refl, sym, subst, ◌∙◌, ap, arith}
use Rattle.std.proofs.lemmas.Bool.{cases_order, and_parts}
use Rattle.std.proofs.lemmas.Bool.Decides.{nat_tests}
use Rattle.std.proofs.lemmas.Option.{same_Some}
use Rattle.std.specs.Option.{option_map, option_or}
use Rattle.ia32_code.specs.declared.instruction.Inst.{Inst}
use Rattle.tal_types.specs.Contexts.{ContextView, Dead, Live}
use Rattle.tal_types.specs.Shown.{ShownImage}
use Rattle.tal_flow.specs.declared.forms.Form.{Form}
use Rattle.tal_flow.specs.declared.forms.Form.TheVariants.{Refused, Compute, Move, Address, Compare, TestBits, PushOf, PopTo, DropSlots, CallTo, CallBy, Return, Jump, Branch, Nothing}
use Rattle.tal_flow.specs.Forms.{form_of}
use Rattle.tal_flow.specs.declared.trials.RuleName.{RuleName}
use Rattle.tal_flow.specs.declared.trials.Trial.{Trial}
use Rattle.tal_flow.specs.Trials.{rule_number, demand, first_failing, fails_in}
use Rattle.tal_flow.specs.Seen.{see}
use Rattle.tal_flow.specs.Rules.{operand_trials, operand_rule, edge_trials, edge_rule, trials, rule_of_form, rule_of, next_address, NoRuleFails, LeastRule}

-- the numbers of the rules rise, from above n on
abbrev pub ascends : ℕ → List Trial → Bool
ascends n [] = true
ascends n (t ∷ ts) = nat_lt n (rule_number t.rule) && ascends (rule_number t.rule) ts

-- no rule fails whose number is no greater
below-none : (n m : ℕ) (ts : List Trial) → ascends n ts ≡ true → m ≤ n → fails_in ts m ≡ false
unfolding fails_in
below-none n m [] a l = refl
below-none n m (t ∷ ts) a l =
    let f = and_parts (nat_lt n (rule_number t.rule)) _ a in
    let above : n < rule_number t.rule = let g = f.0 in grind (arith, nat_tests) in
    let apart : nat_eq (rule_number t.rule) m ≡ false = grind (arith, nat_tests) in
    rw (apart, below-none (rule_number t.rule) m ts f.1 (omega arith)) refl

-- a rule among those that are tried fails, and none of a lower number
record LeastIn (ts : List Trial) (n : ℕ) : Type 0 where
  fails : fails_in ts n ≡ true
  least : (m : ℕ) → m < n → fails_in ts m ≡ false

-- what fails in the rest, where the first holds
held : (t : Trial) (ts : List Trial) (m : ℕ) → t.holds ≡ true → fails_in (t ∷ ts) m ≡ fails_in ts m
unfolding fails_in
held t ts m e = rw e (go (nat_eq (rule_number t.rule) m) (fails_in ts m))
  where
    go : (a b : Bool) → (a && not true || b) ≡ b
    go true b = refl
    go false b = refl

-- the first that fails is the least
first-least : (k : ℕ) (r : RuleName) (ts : List Trial) → ascends k ts ≡ true → first_failing ts ≡ Some r → LeastIn ts (rule_number r)
unfolding fails_in
first-least k r [] a e = absurd (grind arith)
first-least k r (t ∷ ts) a e = go t.holds refl (first-least (rule_number t.rule) r ts f.1) e
  where
    f : (nat_lt k (rule_number t.rule) ≡ true) × (ascends (rule_number t.rule) ts ≡ true)
    f = and_parts (nat_lt k (rule_number t.rule)) _ a

    here : t.holds ≡ false → rule_number t.rule ≡ rule_number r → LeastIn (t ∷ ts) (rule_number r)
    here h e = record {
      fails = rw (h, e) (grind (arith, nat_tests));
      least = λ m l.
          let apart : nat_eq (rule_number t.rule) m ≡ false = grind (arith, nat_tests) in
          rw (apart, below-none (rule_number t.rule) m ts f.1 (omega arith)) refl;
    }

    go : (b : Bool) → t.holds ≡ b → (first_failing ts ≡ Some r → LeastIn ts (rule_number r)) → demand t.rule b (first_failing ts) ≡ Some r → LeastIn (t ∷ ts) (rule_number r)
    go true h more g = let rest = more g in record { fails = held t ts (rule_number r) h ∙ rest.fails; least = λ m l. held t ts m h ∙ rest.least m l }
    go false h more g = here h (ap rule_number (same_Some t.rule r g))

-- where none is the first to fail, none fails
first-none : (ts : List Trial) (m : ℕ) → first_failing ts ≡ None → fails_in ts m ≡ false
unfolding fails_in
first-none [] m e = refl
first-none (t ∷ ts) m e = go t.holds refl (first-none ts m) e
  where
    go : (b : Bool) → t.holds ≡ b → (first_failing ts ≡ None → fails_in ts m ≡ false) → demand t.rule b (first_failing ts) ≡ None → fails_in (t ∷ ts) m ≡ false
    go true h more g = held t ts m h ∙ more g
    go false h more g = absurd (grind arith)

-- the first of two lists is the first of the former, or else of the latter
first-append : (xs ys : List Trial) → first_failing (xs ++ ys) ≡ option_or (first_failing xs) (first_failing ys)
first-append [] ys = refl
first-append (t ∷ xs) ys = go t.holds (first-append xs ys)
  where
    go : (b : Bool) → first_failing (xs ++ ys) ≡ option_or (first_failing xs) (first_failing ys)
        → demand t.rule b (first_failing (xs ++ ys)) ≡ option_or (demand t.rule b (first_failing xs)) (first_failing ys)
    go true h = h
    go false h = refl

-- the rule of a form is the first that fails of those that are tried
first-of-form : (v : ShownImage) (c : ContextView) (pc next : ℕ) (form : Form) → rule_of_form v c pc next form ≡ first_failing (trials v c pc next form)
unfolding rule_of_form operand_rule edge_rule
first-of-form v Dead pc next Refused = refl
first-of-form v Dead pc next form = refl
first-of-form v (Live c) pc next form = sym (first-append (operand_trials c (see v c pc form)) (edge_trials v c pc next form))

-- each form's rules are tried in their order
form_ascends : (v : ShownImage) (c : ContextView) (pc next : ℕ) (form : Form) → ascends 0 (trials v c pc next form) ≡ true
unfolding rule_number
form_ascends v Dead pc next form = refl
form_ascends v (Live c) pc next Refused = refl
form_ascends v (Live c) pc next (Compute sources d wide kind) = refl
form_ascends v (Live c) pc next (Move d x) = refl
form_ascends v (Live c) pc next (Address r m) = refl
form_ascends v (Live c) pc next (Compare d x) = refl
form_ascends v (Live c) pc next (TestBits d x) = refl
form_ascends v (Live c) pc next (PushOf x) = refl
form_ascends v (Live c) pc next (PopTo r) = refl
form_ascends v (Live c) pc next (DropSlots bytes) = refl
form_ascends v (Live c) pc next (CallTo address) = refl
form_ascends v (Live c) pc next (CallBy x) = refl
form_ascends v (Live c) pc next Return = refl
form_ascends v (Live c) pc next (Jump address) = refl
form_ascends v (Live c) pc next (Branch condition address) = refl
form_ascends v (Live c) pc next Nothing = refl

-- the rule of an instruction is the number of the first that fails of those that are tried
first-of : (v : ShownImage) (c : ContextView) (pc : ℕ) (inst : Inst) (len : ℕ)
    → rule_of v c pc inst len ≡ option_map rule_number (first_failing (trials v c pc (next_address pc len) (form_of (next_address pc len) inst)))
unfolding rule_of
first-of v c pc inst len = ap (option_map rule_number) (first-of-form v c pc (next_address pc len) (form_of (next_address pc len) inst))

-- where there is no number there is no rule
pub no_number : (o : Option RuleName) → option_map rule_number o ≡ None → o ≡ None
no_number None e = refl
no_number (Some r) e = absurd cc

-- a test that fails does not hold
not-both : (b : Bool) → b ≡ false → b ≡ true → ⊥
not-both b e f = absurd (grind arith)

module _ (v : ShownImage) (c : ContextView) (pc : ℕ) (inst : Inst) (len : ℕ) where
  -- the rules that are tried at the instruction
  abbrev tried : List Trial
  tried = trials v c pc (next_address pc len) (form_of (next_address pc len) inst)

  -- the number of the first rule that fails is the least that does
  least_first : (n : ℕ) (o : Option RuleName) → first_failing tried ≡ o → option_map rule_number o ≡ Some n → LeastIn tried n
  least_first n None f e = absurd cc
  least_first n (Some r) f e =
      subst (LeastIn tried) (same_Some (rule_number r) n e) (first-least 0 r tried (form_ascends v c pc (next_address pc len) (form_of (next_address pc len) inst)) f)

  -- the rule of an instruction is the least that fails at it
  pub rule_least : (n : ℕ) → rule_of v c pc inst len ≡ Some n → LeastRule v c pc inst len n
  rule_least n e =
      let l = least_first n (first_failing tried) refl (sym (first-of v c pc inst len) ∙ e) in
      record { fails = l.fails; least = λ m k f. not-both (fails_in tried m) (l.least m k) f }

  -- an instruction that has no rule fails none
  pub rule_none : rule_of v c pc inst len ≡ None → NoRuleFails v c pc inst len
  rule_none e m f = not-both (fails_in tried m) (first-none tried m (no_number (first_failing tried) (sym (first-of v c pc inst len) ∙ e))) f

  -- two least rules are one
  one-least : (n m : ℕ) → LeastRule v c pc inst len n → LeastRule v c pc inst len m → n ≡ m
  one-least n m f g = elim (cases_order n m) [
    | inl e ↦ e
    | inr k ↦ elim k [ inl l ↦ absurd (g.least n l f.fails) | inr l ↦ absurd (f.least m l g.fails) ]
  ]

  -- the least rule that fails is the rule of the instruction
  pub least_rule_given : (n : ℕ) → LeastRule v c pc inst len n → rule_of v c pc inst len ≡ Some n
  least_rule_given n f = go (rule_of v c pc inst len) refl
    where
      go : (o : Option ℕ) → rule_of v c pc inst len ≡ o → o ≡ Some n
      go None e = absurd (rule_none e n f.fails)
      go (Some m) e = ap Some (one-least m n (rule_least m e) f)

  -- where no rule fails, the instruction has none
  pub none-rule : NoRuleFails v c pc inst len → rule_of v c pc inst len ≡ None
  none-rule none = go (rule_of v c pc inst len) refl
    where
      go : (o : Option ℕ) → rule_of v c pc inst len ≡ o → o ≡ None
      go None e = refl
      go (Some m) e = absurd (none m (rule_least m e).fails)
