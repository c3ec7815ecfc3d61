use Rattle.std.proofs.Common.{◌≡◌, ◌⊎◌, inl, inr, ℕ, Bool, true, false, ◌&&◌, ◌||◌, [], ◌∷◌, if◌then◌else◌, Option, Some, None, refl, sym, ◌∙◌, ap, subst}
use Rattle.std.specs.Prelude.{MatchOption}
use Rattle.std.specs.Option.{option_map, option_and_then}
use Rattle.ia32_code.specs.declared.instruction.Cond.{Cond}
use Rattle.ia32_code.specs.declared.instruction.Inst.{Inst}
use Rattle.object_layout.specs.Classes.{ShapesView}
use Rattle.tal_types.specs.declared.types.FlagKind.{FlagKind}
use Rattle.tal_types.specs.declared.contexts.Context.{Context}
use Rattle.tal_types.specs.Contexts.{LiveContext, ContextView, Dead, Live}
use Rattle.tal_types.specs.Kept.{context_of, live_of}
use Rattle.tal_types.specs.Shown.{ShownImage}
use Rattle.tal_flow.specs.declared.edges.Told.{Told}
use Rattle.tal_flow.specs.declared.forms.Form.{Form}
use Rattle.tal_flow.specs.declared.forms.Form.TheVariants.{Refused, Return, Jump, Branch}
use Rattle.tal_flow.specs.declared.seen.Seen.{Seen}
use Rattle.tal_flow.specs.declared.trials.RuleName.{RuleName}
use Rattle.tal_flow.specs.declared.trials.RuleName.TheVariants as rule
use Rattle.tal_flow.specs.Forms.{form_of}
use Rattle.tal_flow.specs.Seen.{see}
use Rattle.tal_flow.specs.Afterwards.{left_by, after_form}
use Rattle.tal_flow.specs.Edges.{told_by_branch, told_by_fall, refine, falling, branching, target_of, falls_to, branches_to, is_refused}
use Rattle.tal_flow.specs.Functions.{in_function}
use Rattle.tal_flow.specs.Trials.{rule_number, ask, first_failing}
use Rattle.tal_flow.specs.Rules.{operand_rule, edge_fits, is_dead, edge_rule, rule_of_form, rule_of, next_address, Falls, Branches, Target}

-- The edges of instructions, by their forms.

-- a live context is what it is known to be
pub live-context : (d : Context) → d.dead ≡ false → context_of d ≡ Live (live_of d)
unfolding context_of
live-context d e = rw e refl

-- a context that is marked as dead is dead
pub dead-context : (d : Context) → d.dead ≡ true → context_of d ≡ Dead
unfolding context_of
dead-context d e = rw e refl

-- the mark says whether a context is dead
pub dead-of : (d : Context) → is_dead (context_of d) ≡ d.dead
unfolding context_of is_dead
dead-of d = go d.dead
  where
    go : (b : Bool) → is_dead (if b then Dead else Live (live_of d)) ≡ b
    go true = refl
    go false = refl

-- the refinement by what calls gave
pub refined : (s t : ShapesView) (c : LiveContext) (k : FlagKind) (e f : Told) → s ≡ t → e ≡ f → refine s c k e ≡ refine t c k f
refined s t c k e f p q = rw (p, q) refl

-- an instruction that is no jump or branch fits whatever stands anywhere
pub elsewhere_fits : (v : ShownImage) (c : LiveContext) (f : Form) → ((t : ℕ) → f ≡ Jump t → ⊥) → ((k : Cond) (t : ℕ) → f ≡ Branch k t → ⊥)
    → true ≡ edge_fits v.shapes (branching v c f) (option_and_then v.block_at (target_of f))
unfolding edge_fits branching target_of
elsewhere_fits v c (Jump t) j b = absurd (j t refl)
elsewhere_fits v c (Branch k t) j b = absurd (b k t refl)
elsewhere_fits v c f j b = refl

-- it falls through with what it leaves
pub left-falls : (v : ShownImage) (c : LiveContext) (pc : ℕ) (f : Form) (seen : Seen) (d : Context) → d.dead ≡ false → live_of d ≡ left_by seen c → seen ≡ see v c pc f
    → (f ≡ Return → ⊥) → ((t : ℕ) → f ≡ Jump t → ⊥) → ((k : Cond) (t : ℕ) → f ≡ Branch k t → ⊥) → context_of d ≡ falling v c pc f
unfolding falling after_form
left-falls v c pc f seen d e k is r j b = live-context d e ∙ ap Live (k ∙ ap (λ (s : Seen). left_by s c) is) ∙ sym (go f r j b)
  where
    go : (f : Form) → (f ≡ Return → ⊥) → ((t : ℕ) → f ≡ Jump t → ⊥) → ((k : Cond) (t : ℕ) → f ≡ Branch k t → ⊥) → falling v c pc f ≡ Live (left_by (see v c pc f) c)
    go Return r j b = absurd (r refl)
    go (Jump t) r j b = absurd (j t refl)
    go (Branch k t) r j b = absurd (b k t refl)
    go f r j b = refl

-- a branch falls through with what is refined
pub branch-falls : (v : ShownImage) (c : LiveContext) (pc : ℕ) (f : Form) (k : Cond) (t : ℕ) (d : ContextView) → f ≡ Branch k t → d ≡ refine v.shapes c c.kind (told_by_fall k)
    → d ≡ falling v c pc f
unfolding falling
branch-falls v c pc f k t d is h = rw is h

-- nothing falls through a RET or a JMP
pub nothing-falls : (v : ShownImage) (c : LiveContext) (pc : ℕ) (f : Form) → (f ≡ Return) ⊎ ((t : ℕ) × (f ≡ Jump t)) → Dead ≡ falling v c pc f
unfolding falling
nothing-falls v c pc f (inl is) = rw is refl
nothing-falls v c pc f (inr (t, is)) = rw is refl

-- a rule of the operands that fails is the least
pub operand-fails : (v : ShownImage) (c : LiveContext) (pc next : ℕ) (r : RuleName) (f : Form) → operand_rule v c pc f ≡ Some r → rule_of_form v (Live c) pc next f ≡ Some r
unfolding rule_of_form
operand-fails v c pc next r f e = rw e refl

-- where no rule of the operands fails, the edges decide
pub edges-decide : (v : ShownImage) (c : LiveContext) (pc next : ℕ) (f : Form) (b : Bool) (d : ContextView) → operand_rule v c pc f ≡ None
    → b ≡ edge_fits v.shapes (branching v c f) (option_and_then v.block_at (target_of f)) → d ≡ falling v c pc f
    → first_failing (ask rule.Annotation (b && edge_fits v.shapes d (v.block_at next)) ∷ ask rule.FunctionEnd (is_dead d || in_function v pc next) ∷ []) ≡ rule_of_form v (Live c) pc next f
unfolding rule_of_form edge_rule
edges-decide v c pc next f b d op e g = rw (op, e, g) refl

-- the dead context

-- rule 1 fails at a refused form, and no rule at another
pub dead-rule : (v : ShownImage) (d : Context) (pc next : ℕ) (f : Form) (b : Bool) → d.dead ≡ true → is_refused f ≡ b
    → (if b then Some rule.Instruction else None) ≡ rule_of_form v (context_of d) pc next f
unfolding rule_of_form
dead-rule v d pc next f b e r = ap (λ x. if x then Some rule.Instruction else None) (sym r) ∙ go f ∙ ap (λ x. rule_of_form v x pc next f) (sym (dead-context d e))
  where
    go : (f : Form) → (if is_refused f then Some rule.Instruction else None) ≡ rule_of_form v Dead pc next f
    go Refused = refl
    go f = refl

-- and nothing falls from there
pub dead-falls : (v : ShownImage) (d : Context) (pc : ℕ) (f : Form) → d.dead ≡ true → context_of d ≡ falls_to v (context_of d) pc f
unfolding falls_to
dead-falls v d pc f e = rw (dead-context d e) refl

-- a context that is not dead

-- its rule is that of what is known in it
pub live-rule : (v : ShownImage) (d : Context) (pc next : ℕ) (f : Form) (o : Option RuleName) → d.dead ≡ false → o ≡ rule_of_form v (Live (live_of d)) pc next f
    → o ≡ rule_of_form v (context_of d) pc next f
live-rule v d pc next f o e h = h ∙ ap (λ x. rule_of_form v x pc next f) (sym (live-context d e))

-- and so is what falls through
pub live-falls : (v : ShownImage) (d : Context) (pc : ℕ) (f : Form) (after : ContextView) → d.dead ≡ false → after ≡ falling v (live_of d) pc f
    → after ≡ falls_to v (context_of d) pc f
unfolding falls_to
live-falls v d pc f after e h = rw (live-context d e) h

-- where runs go

-- what a live context takes along
live-branches : (v : ShownImage) (d : Context) (f : Form) → d.dead ≡ false → branches_to v (context_of d) f ≡ branching v (live_of d) f
unfolding branches_to
live-branches v d f e = rw (live-context d e) refl

-- a jump takes along what is known before it
pub jump_branches : (v : ShownImage) (d : Context) (f : Form) (t : ℕ) → d.dead ≡ false → f ≡ Jump t → context_of d ≡ branches_to v (context_of d) f
unfolding branching
jump_branches v d f t e is = live-context d e ∙ sym (live-branches v d f e ∙ ap (branching v (live_of d)) is)

-- a branch takes along what is refined
pub taken-branches : (v : ShownImage) (d : Context) (f : Form) (k : Cond) (t : ℕ) (c : ContextView) → d.dead ≡ false → f ≡ Branch k t
    → c ≡ refine v.shapes (live_of d) d.kind (told_by_branch k) → c ≡ branches_to v (context_of d) f
unfolding branching
taken-branches v d f k t c e is h = h ∙ sym (live-branches v d f e ∙ ap (branching v (live_of d)) is)

-- nothing branches from a dead context
pub dead-branches : (v : ShownImage) (d : Context) (f : Form) → d.dead ≡ true → branches_to v (context_of d) f ≡ Dead
unfolding branches_to
dead-branches v d f e = rw (dead-context d e) refl

-- nor from an instruction that is no jump or branch
pub nowhere-branches : (v : ShownImage) (d : Context) (f : Form) → d.dead ≡ false → ((t : ℕ) → f ≡ Jump t → ⊥) → ((k : Cond) (t : ℕ) → f ≡ Branch k t → ⊥)
    → branches_to v (context_of d) f ≡ Dead
unfolding branching
nowhere-branches v d f e j b = live-branches v d f e ∙ go f j b
  where
    go : (f : Form) → ((t : ℕ) → f ≡ Jump t → ⊥) → ((k : Cond) (t : ℕ) → f ≡ Branch k t → ⊥) → branching v (live_of d) f ≡ Dead
    go (Jump t) j b = absurd (j t refl)
    go (Branch k t) j b = absurd (b k t refl)
    go f j b = refl

-- from forms to instructions

-- the rule of an instruction is that of its form
pub whole-rule : (v : ShownImage) (c : ContextView) (pc next : ℕ) (f : Form) (inst : Inst) (len : ℕ) (o : Option RuleName) → next ≡ next_address pc len → f ≡ form_of next inst
    → o ≡ rule_of_form v c pc next f → rule_of v c pc inst len ≡ option_map rule_number o
unfolding rule_of
whole-rule v c pc next f inst len o n is h =
    ap (option_map rule_number) (sym (h ∙ ap (rule_of_form v c pc next) is ∙ ap (λ x. rule_of_form v c pc x (form_of x inst)) n))

-- and what falls through it is what falls through its form
pub whole-falls : (v : ShownImage) (c : ContextView) (pc next : ℕ) (f : Form) (inst : Inst) (len : ℕ) (after : ContextView) → next ≡ next_address pc len → f ≡ form_of next inst
    → after ≡ falls_to v c pc f → after ≡ Falls v c pc inst len
unfolding Falls
whole-falls v c pc next f inst len after n is h = h ∙ ap (falls_to v c pc) is ∙ ap (λ x. falls_to v c pc (form_of x inst)) n

-- what an edge of a form takes along, its instruction takes along
pub whole-branch : (v : ShownImage) (c : ContextView) (pc : ℕ) (f : Form) (inst : Inst) (len : ℕ) (o : Option (ℕ × Context)) → f ≡ form_of (next_address pc len) inst
    → MatchOption o (branches_to v c f ≡ Dead) (λ b. (target_of f ≡ Some b.0) × (context_of b.1 ≡ branches_to v c f) × (b.1.dead ≡ false))
    → MatchOption o (Branches v c pc inst len ≡ Dead) (λ b. (Target pc inst len ≡ Some b.0) × (context_of b.1 ≡ Branches v c pc inst len) × (b.1.dead ≡ false))
unfolding Branches Target
whole-branch v c pc f inst len o is h =
    subst (λ x. MatchOption o (branches_to v c x ≡ Dead) (λ b. (target_of x ≡ Some b.0) × (context_of b.1 ≡ branches_to v c x) × (b.1.dead ≡ false))) is h

-- the annotation at a jump's target
pub jump_fits : (v : ShownImage) (d : Context) (f : Form) (t : ℕ) (b : Bool) → d.dead ≡ false → f ≡ Jump t → b ≡ edge_fits v.shapes (context_of d) (v.block_at t)
    → b ≡ edge_fits v.shapes (branching v (live_of d) f) (option_and_then v.block_at (target_of f))
unfolding branching target_of
jump_fits v d f t b e is h = rw is (h ∙ ap (λ x. edge_fits v.shapes x (v.block_at t)) (live-context d e))

-- the annotation at a branch's target
pub taken-fits : (v : ShownImage) (d : Context) (f : Form) (k : Cond) (t : ℕ) (taken : ContextView) (b : Bool) → f ≡ Branch k t
    → taken ≡ refine v.shapes (live_of d) d.kind (told_by_branch k) → b ≡ edge_fits v.shapes taken (v.block_at t)
    → b ≡ edge_fits v.shapes (branching v (live_of d) f) (option_and_then v.block_at (target_of f))
unfolding branching target_of
taken-fits v d f k t taken b is made h = rw is (h ∙ ap (λ x. edge_fits v.shapes x (v.block_at t)) made)
