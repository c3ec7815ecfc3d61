use Rattle.std.proofs.Common.{◌≡◌, ℕ, true, Option, Some, None, ap, arith, refl}
use Rattle.std.specs.Option.{option_map, option_and_then}
use Rattle.ia32_code.specs.declared.instruction.Inst.{Inst}
use Rattle.object_layout.specs.Classes.{ShapesView}
use Rattle.object_layout.specs.Laws.{ClassLaws}
use Rattle.tal_types.specs.Contexts.{LiveContext, ContextView, Dead, Live, LiveBelow, ContextBelow}
use Rattle.tal_types.specs.Shown.{ShownImage}
use Rattle.tal_flow.specs.declared.forms.Form.{Form}
use Rattle.tal_flow.specs.declared.forms.Form.TheVariants.{Refused, Return, Jump, Branch}
use Rattle.tal_flow.specs.Forms.{form_of}
use Rattle.tal_flow.specs.Edges.{falling, branching, target_of, falls_to, branches_to}
use Rattle.tal_flow.specs.Trials.{rule_number}
use Rattle.tal_flow.specs.Rules.{operand_rule, edge_fits, is_dead, edge_rule, rule_of_form, rule_of, next_address, NoRuleFails, Falls, Branches}
use Rattle.tal_flow.specs.Strongest.{OneHead, HasOneHead}
use Rattle.tal_flow.proofs.LeastRules.{no_number, rule_none, none-rule}
use Rattle.tal_flow.proofs.RulesBelow.{operand_rule-below}
use Rattle.tal_flow.proofs.AfterwardsBelow.{after_form-below, refine-below}
use Rattle.tal_types.specs.Laws.{TypeLaws}

-- The monotone law.

module _ (types : TypeLaws) where
  -- what falls through in two live contexts
  falling-below : (v : ShownImage) → ClassLaws v.shapes → (a b : LiveContext) (pc : ℕ) (f : Form) → LiveBelow v.shapes a b → OneHead a → operand_rule v b pc f ≡ None
      → ContextBelow v.shapes (falling v a pc f) (falling v b pc f)
  unfolding falling
  falling-below v l a b pc Return h one e = tt
  falling-below v l a b pc (Jump t) h one e = tt
  falling-below v l a b pc (Branch k t) h one e = refine-below types v.shapes l a b _ _ _ h h.kind
  falling-below v l a b pc f h one e = after_form-below types v l a b pc f h one e

  -- what branches in two live contexts
  branching-below : (v : ShownImage) → ClassLaws v.shapes → (a b : LiveContext) (f : Form) → LiveBelow v.shapes a b → ContextBelow v.shapes (branching v a f) (branching v b f)
  unfolding branching
  branching-below v l a b (Jump t) h = h
  branching-below v l a b (Branch k t) h = refine-below types v.shapes l a b _ _ _ h h.kind
  branching-below v l a b f h = tt

  -- what is below a context that fits a block fits it
  edge_fits-below : (s : ShapesView) → ClassLaws s → (c d : ContextView) (o : Option ContextView) → ContextBelow s c d → edge_fits s d o ≡ true → edge_fits s c o ≡ true
  unfolding edge_fits
  edge_fits-below s l c d None h e = refl
  edge_fits-below s l c d (Some block) h e = types.context_tells s c block (types.contexts_transitive s l c d block h (types.context_told s d block e))

  -- what is below the dead context is dead
  is_dead-below : (s : ShapesView) (c d : ContextView) → ContextBelow s c d → is_dead d ≡ true → is_dead c ≡ true
  unfolding is_dead
  is_dead-below s Dead d h e = refl
  is_dead-below s (Live a) Dead h e = absurd h
  is_dead-below s (Live a) (Live b) h e = e

  -- where neither rule of the edges fails in the higher one, neither does in the lower
  edge_rule-below : (v : ShownImage) → ClassLaws v.shapes → (a b : LiveContext) (pc next : ℕ) (f : Form) → LiveBelow v.shapes a b → OneHead a → operand_rule v b pc f ≡ None
      → edge_rule v b pc next f ≡ None → edge_rule v a pc next f ≡ None
  unfolding edge_rule
  edge_rule-below v l a b pc next f h one e g =
      let x = branching-below v l a b f h in let y = falling-below v l a b pc f h one e in
      grind (
        arith,
        edge_fits-below v.shapes l _ _ (option_and_then v.block_at (target_of f)) x,
        edge_fits-below v.shapes l _ _ (v.block_at next) y,
        is_dead-below v.shapes _ _ y,
      )

  -- where no rule fails in the higher of two live contexts, none does in the lower
  live_rule_below : (v : ShownImage) → ClassLaws v.shapes → (a b : LiveContext) (pc next : ℕ) (f : Form) → LiveBelow v.shapes a b → OneHead a
      → rule_of_form v (Live b) pc next f ≡ None → rule_of_form v (Live a) pc next f ≡ None
  unfolding rule_of_form
  live_rule_below v l a b pc next f h one e = grind (arith, operand_rule-below types v l a b pc f h one, edge_rule-below v l a b pc next f h one)

  -- a form that fails rule 1 in the dead context fails it in each
  dead_rule_below : (v : ShownImage) (b : ContextView) (pc next : ℕ) (f : Form) → rule_of_form v b pc next f ≡ None → rule_of_form v Dead pc next f ≡ None
  unfolding rule_of_form operand_rule
  dead_rule_below v Dead pc next f e = e
  dead_rule_below v (Live b) pc next Refused e = absurd (grind arith)
  dead_rule_below v (Live b) pc next f e = refl

  -- the same of contexts that may be dead
  form_rule_below : (v : ShownImage) → ClassLaws v.shapes → (a b : ContextView) (pc next : ℕ) (f : Form) → ContextBelow v.shapes a b → HasOneHead a
      → rule_of_form v b pc next f ≡ None → rule_of_form v a pc next f ≡ None
  form_rule_below v l (Live a) (Live b) pc next f h one e = live_rule_below v l a b pc next f h one e
  form_rule_below v l (Live a) Dead pc next f h one e = absurd h
  form_rule_below v l Dead b pc next f h one e = dead_rule_below v b pc next f e

  -- no rule is the first to fail in the lower context where none is in the higher one
  first-below : (v : ShownImage) → ClassLaws v.shapes → (a b : ContextView) (pc : ℕ) (inst : Inst) (len : ℕ) → ContextBelow v.shapes a b → HasOneHead a
      → rule_of v b pc inst len ≡ None → rule_of v a pc inst len ≡ None
  unfolding rule_of
  first-below v l a b pc inst len h one e =
      ap (option_map rule_number) (form_rule_below v l a b pc (next_address pc len) (form_of (next_address pc len) inst) h one (no_number _ e))

  -- where no rule fails in the higher context, none fails in the lower one
  pub rule_below : (v : ShownImage) → ClassLaws v.shapes → (a b : ContextView) (pc : ℕ) (inst : Inst) (len : ℕ) → ContextBelow v.shapes a b → HasOneHead a
      → NoRuleFails v b pc inst len → NoRuleFails v a pc inst len
  rule_below v l a b pc inst len h one e = rule_none v a pc inst len (first-below v l a b pc inst len h one (none-rule v b pc inst len e))

  -- where no rule fails, none of the operands does
  pub no_operand_rule : (v : ShownImage) (b : LiveContext) (pc next : ℕ) (f : Form) → rule_of_form v (Live b) pc next f ≡ None → operand_rule v b pc f ≡ None
  unfolding rule_of_form
  no_operand_rule v b pc next f e = grind arith

  -- what falls through in contexts that may be dead
  falls_to-below : (v : ShownImage) → ClassLaws v.shapes → (a b : ContextView) (pc next : ℕ) (f : Form) → ContextBelow v.shapes a b → HasOneHead a
      → rule_of_form v b pc next f ≡ None → ContextBelow v.shapes (falls_to v a pc f) (falls_to v b pc f)
  unfolding falls_to
  falls_to-below v l (Live a) (Live b) pc next f h one e = falling-below v l a b pc f h one (no_operand_rule v b pc next f e)
  falls_to-below v l (Live a) Dead pc next f h one e = absurd h
  falls_to-below v l Dead b pc next f h one e = tt

  -- what falls through it is lower
  pub falls-below : (v : ShownImage) → ClassLaws v.shapes → (a b : ContextView) (pc : ℕ) (inst : Inst) (len : ℕ) → ContextBelow v.shapes a b → HasOneHead a
      → NoRuleFails v b pc inst len → ContextBelow v.shapes (Falls v a pc inst len) (Falls v b pc inst len)
  unfolding Falls rule_of
  falls-below v l a b pc inst len h one e = falls_to-below v l a b pc (next_address pc len) (form_of (next_address pc len) inst) h one (no_number _ (none-rule v b pc inst len e))

  -- what branches in contexts that may be dead
  branches_to-below : (v : ShownImage) → ClassLaws v.shapes → (a b : ContextView) (f : Form) → ContextBelow v.shapes a b
      → ContextBelow v.shapes (branches_to v a f) (branches_to v b f)
  unfolding branches_to
  branches_to-below v l (Live a) (Live b) f h = branching-below v l a b f h
  branches_to-below v l (Live a) Dead f h = absurd h
  branches_to-below v l Dead b f h = tt

  -- what its branch takes along is lower
  pub branches_below : (v : ShownImage) → ClassLaws v.shapes → (a b : ContextView) (pc : ℕ) (inst : Inst) (len : ℕ) → ContextBelow v.shapes a b
      → ContextBelow v.shapes (Branches v a pc inst len) (Branches v b pc inst len)
  unfolding Branches
  branches_below v l a b pc inst len h = branches_to-below v l a b (form_of (next_address pc len) inst) h
