-- Well typed images, and the first place where a rule fails.
use Rattle.std.specs.Prelude.{◌≡◌, ℕ, ◌<◌, ◌⊎◌, List, Some, ◌↔◌}
use Rattle.tal_types.specs.Contexts.{ContextView, Dead}
use Rattle.tal_flow.specs.Strongest.{PlacedInst, At, contexts, NoRuleAt, LeastRuleAt, placed_at, NoneFails, JoinedContexts}
use Rattle.tal_image.specs.Image.{ImageParts}
use Rattle.tal_image.specs.Formed.{Formed}
use Rattle.tal_image.specs.Shown.{shown}
use Rattle.tal_checker.specs.Instructions.{instructions}

-- The image is formed, and there are contexts, one for each instruction, such that: at a function's first instruction the
-- context is above that of the signature, at a block above the annotation, elsewhere above what falls to it; and no rule
-- fails at any instruction in its context.
pub record WellTyped (image : ImageParts) : Type 0 where
  pub formed : Formed image
  pub contexts_are : List ContextView
  pub none_fails : NoneFails (shown image) (instructions image.code) contexts_are
  pub joined : JoinedContexts (shown image) (instructions image.code) contexts_are Dead

-- the strongest context at an address
unfoldable pub strongest_at : ImageParts → ℕ → ContextView
strongest_at image pc = At (shown image) (instructions image.code) pc

-- the strongest contexts, one for each instruction
unfoldable pub strongest : ImageParts → List ContextView
strongest image = contexts (shown image) (instructions image.code) Dead

-- the law of the strongest context: no rule fails in the strongest contexts exactly where the image is well typed
abbrev pub StrongestDecides : Type 0
StrongestDecides = (image : ImageParts) → Formed image → (WellTyped image ↔ NoneFails (shown image) (instructions image.code) (strongest image))

-- A rule fails at this address, the least one where any does, and this is the least that fails there.
pub record FirstRefusal (image : ImageParts) (address rule : ℕ) : Type 0 where
  pub placed : PlacedInst
  pub here : placed_at (instructions image.code) address ≡ Some placed
  pub fails : LeastRuleAt (shown image) (strongest_at image address) placed rule
  pub earlier : (before : ℕ) (other : PlacedInst) → before < address → placed_at (instructions image.code) before ≡ Some other
      → NoRuleAt (shown image) (strongest_at image before) other

-- an image has one first refusal at most, and none where it is well typed; a formed image is well typed or has one
pub record OneRefusal : Type 0 where
  pub one : (image : ImageParts) (a b r s : ℕ) → FirstRefusal image a r → FirstRefusal image b s → (a ≡ b) × (r ≡ s)
  pub not_typed : (image : ImageParts) (a r : ℕ) → FirstRefusal image a r → WellTyped image → ⊥
  pub some : (image : ImageParts) → Formed image → WellTyped image ⊎ ((address : ℕ) × (rule : ℕ) × FirstRefusal image address rule)
