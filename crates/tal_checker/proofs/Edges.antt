-- What an instruction at which no rule fails tells of its edges.
use Rattle.std.specs.Prelude.{nat_lt, nat_le, ◌&&◌, ◌||◌, is_some}
use Rattle.std.specs.Option.{option_map, option_and_then, option_or}
use Rattle.std.proofs.Common.{◌≡◌, ℕ, ◌<◌, ◌≤◌, Bool, true, false, Option, Some, None, refl, subst, arith}
use Rattle.std.proofs.lemmas.Bool.Decides.{nat_tests}
use Rattle.tal_types.specs.Contexts.{LiveContext, ContextView, Live}
use Rattle.tal_types.specs.Shown.{ShownImage}
use Rattle.tal_types.specs.declared.views.Span.{Span}
use Rattle.tal_flow.specs.declared.forms.Form.{Form}
use Rattle.tal_flow.specs.declared.forms.Form.TheVariants.{Jump, Branch}
use Rattle.tal_flow.specs.Edges.{allows, falling, branching, target_of}
use Rattle.tal_flow.specs.declared.trials.RuleName.{RuleName}
use Rattle.tal_flow.specs.declared.trials.RuleName.TheVariants as rule
use Rattle.tal_flow.specs.Trials.{rule_number, demand}
use Rattle.tal_flow.specs.Functions.{in_function, has_block}
use Rattle.tal_flow.specs.Rules.{operand_rule, edge_fits, is_dead, edge_rule, rule_of_form}

-- its edges are below what is annotated there, and a fall stays in the function
pub record EdgesFit (v : ShownImage) (c : LiveContext) (pc next : ℕ) (form : Form) : Type 0 where
  pub operands : operand_rule v c pc form ≡ None
  pub branch : edge_fits v.shapes (branching v c form) (option_and_then v.block_at (target_of form)) ≡ true
  pub fall : edge_fits v.shapes (falling v c pc form) (v.block_at next) ≡ true
  pub stays : (is_dead (falling v c pc form) || in_function v pc next) ≡ true

-- where there is no number there is no rule
pub no_number : (o : Option RuleName) → option_map rule_number o ≡ None → o ≡ None
no_number None e = refl
no_number (Some r) e = absurd cc

-- where no rule fails, each test of the edges holds
pub edges-fit : (v : ShownImage) (c : LiveContext) (pc next : ℕ) (form : Form) → rule_of_form v (Live c) pc next form ≡ None → EdgesFit v c pc next form
unfolding rule_of_form edge_rule
edges-fit v c pc next form e = go (operand_rule v c pc form) refl e
  where
    test : (a b d : Bool) → demand rule.Annotation (a && b) (demand rule.FunctionEnd d None) ≡ None → (a ≡ true) × (b ≡ true) × (d ≡ true)
    test true true true e = (refl, refl, refl)
    test true true false e = absurd cc
    test true false d e = absurd cc
    test false b d e = absurd cc

    go : (o : Option RuleName) → operand_rule v c pc form ≡ o
        → option_or o (demand rule.Annotation (edge_fits v.shapes (branching v c form) (option_and_then v.block_at (target_of form)) && edge_fits v.shapes (falling v c pc form) (v.block_at next)) (demand rule.FunctionEnd (is_dead (falling v c pc form) || in_function v pc next) None)) ≡ None
        → EdgesFit v c pc next form
    go (Some n) p e = absurd cc
    go None p e =
        let t = test (edge_fits v.shapes (branching v c form) (option_and_then v.block_at (target_of form))) (edge_fits v.shapes (falling v c pc form) (v.block_at next)) (is_dead (falling v c pc form) || in_function v pc next) e in
        record { operands = p; branch = t.0; fall = t.1; stays = t.2 }

-- a jump or a branch goes to a block of the function
pub target_is : (v : ShownImage) (c : LiveContext) (pc to : ℕ) (form : Form) → target_of form ≡ Some to → operand_rule v c pc form ≡ None → has_block v pc to ≡ true
unfolding target_of operand_rule
target_is v c pc to (Jump address) t e = test (has_block v pc address) None refl e
  where
    test : (b : Bool) (more : Option RuleName) → has_block v pc address ≡ b → demand rule.Target b more ≡ None → has_block v pc to ≡ true
    test true more p e = let q : address ≡ to = cc in subst (λ (n : ℕ). has_block v pc n ≡ true) q p
    test false more p e = absurd cc
target_is v c pc to (Branch condition address) t e = test (has_block v pc address) (demand rule.Condition (allows c.kind condition) None) refl e
  where
    test : (b : Bool) (more : Option RuleName) → has_block v pc address ≡ b → demand rule.Target b more ≡ None → has_block v pc to ≡ true
    test true more p e = let q : address ≡ to = cc in subst (λ (n : ℕ). has_block v pc n ≡ true) q p
    test false more p e = absurd cc
target_is v c pc to form t e = absurd cc

-- a target is a block
pub target_block : (v : ShownImage) (pc to : ℕ) → has_block v pc to ≡ true → ((d : ContextView) × (v.block_at to ≡ Some d)) × (in_function v pc to ≡ true)
unfolding has_block
target_block v pc to e = go (v.block_at to) (in_function v pc to) refl refl e
  where
    go : (o : Option ContextView) (b : Bool) → v.block_at to ≡ o → in_function v pc to ≡ b → (is_some o && b) ≡ true
        → ((d : ContextView) × (v.block_at to ≡ Some d)) × (in_function v pc to ≡ true)
    go (Some d) true p q e = ((d, p), q)
    go (Some d) false p q e = absurd cc
    go None b p q e = absurd cc

-- an address in the function that has the byte at another
pub in_span : (v : ShownImage) (pc to : ℕ) (s : Span) → v.function_of pc ≡ Some s → in_function v pc to ≡ true → (s.start ≤ to) × (to < s.end)
unfolding in_function
in_span v pc to s e h = let k : (nat_le s.start to && nat_lt to s.end) ≡ true = rw e at h in (grind (arith, nat_tests), grind (arith, nat_tests))
