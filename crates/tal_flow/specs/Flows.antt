-- What holds where no rule fails: what falls through, and where runs go.
use Rattle.std.specs.Prelude.{◌≡◌, ℕ, false, not, Some, MatchOption}
use Rattle.ia32_code.specs.declared.instruction.Inst.{Inst}
use Rattle.tal_types.specs.Contexts.{ContextView, Dead}
use Rattle.tal_types.specs.Kept.{context_of}
use Rattle.tal_types.specs.Shown.{ShownImage}
use Rattle.tal_flow.specs.declared.edges.Edges.{Edges}
use Rattle.tal_flow.specs.Rules.{is_dead, NoRuleFails, Falls, Branches, Target}

-- at the instruction at pc in context c no rule fails, `after` is what falls through, and the edges say whether a run may
-- fall through and where a run may branch, with what is known there
pub record Flows (v : ShownImage) (c : ContextView) (pc : ℕ) (inst : Inst) (len : ℕ) (after : ContextView) (edges : Edges) : Type 0 where
  pub none_fails : NoRuleFails v c pc inst len
  pub falls : after ≡ Falls v c pc inst len
  pub falls_on : edges.falls ≡ not (is_dead after)
  pub branch : MatchOption edges.branch (Branches v c pc inst len ≡ Dead)
      (λ b. (Target pc inst len ≡ Some b.0) × (context_of b.1 ≡ Branches v c pc inst len) × (b.1.dead ≡ false))
