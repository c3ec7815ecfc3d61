-- The law of the strongest context, for images.
use Rattle.std.specs.Prelude.{if◌then◌else◌, ◌==◌, ◌↔◌}
use Rattle.std.proofs.Common.{◌≡◌, ℕ, ◌+◌, inl, inr, Bool, true, false, Some, List, [], ◌∷◌, refl, subst}
use Rattle.std.proofs.lemmas.Option.{same_Some}
use Rattle.object_layout.specs.Laws.{ClassLaws}
use Rattle.ia32_code.specs.declared.instruction.Reg.TheVariants.{Esp}
use Rattle.tal_types.specs.declared.types.Ty.TheVariants.{Junk}
use Rattle.tal_types.specs.Contexts.{LiveContext, ContextView, Dead, Live, plain, register_type}
use Rattle.tal_types.specs.Shown.{ShownImage}
use Rattle.tal_flow.specs.Strongest.{PlacedInst, NoRuleAt, contexts, At, NoneFails, JoinedContexts, placed_at, HasOneHead, BlocksHaveOneHead, HasJunkEsp, BlocksHaveJunkEsp}
use Rattle.object_layout.specs.Areas.{code_start}
use Rattle.tal_image.specs.declared.parts.BlockPart.{BlockPart}
use Rattle.tal_image.specs.Image.{ImageParts}
use Rattle.tal_image.specs.Shown.{shown, block_in}
use Rattle.tal_checker.specs.Passing.{RefusedIn}
use Rattle.tal_image.specs.Laws.{FormedShapes}
use Rattle.tal_checker.specs.Instructions.{instructions}
use Rattle.tal_checker.specs.WellTyped.{WellTyped, strongest, strongest_at, FirstRefusal, OneRefusal, StrongestDecides}
use Rattle.tal_checker.proofs.PlacedLists.{Ordered}
use Rattle.tal_checker.proofs.CodeInstructions.{placed-ordered}
use Rattle.tal_checker.proofs.FirstRefusals.{one_refused, decided, OneRuleIsLeast}

-- a block's annotation knows of no heads
block-head : (pc : ℕ) (bs : List BlockPart) (c : ContextView) → block_in pc bs ≡ Some c → HasOneHead c
unfolding block_in plain
block-head pc [] c e = absurd cc
block-head pc (b ∷ bs) c e = go (code_start + b.offset == pc) e (λ k. block-head pc bs c k)
  where
    go : (t : Bool) → (if t then Some (plain b.types b.slots) else block_in pc bs) ≡ Some c → (block_in pc bs ≡ Some c → HasOneHead c) → HasOneHead c
    go true e more = subst HasOneHead (same_Some (plain b.types b.slots) c e) (λ t r q h k. absurd cc)
    go false e more = more e

-- an image's blocks know of no heads
pub image-heads : (image : ImageParts) → BlocksHaveOneHead (shown image)
unfolding shown
image-heads image pc c e = block-head pc image.blocks c e

-- nor of what ESP holds
block-esp : (pc : ℕ) (bs : List BlockPart) (c : ContextView) → block_in pc bs ≡ Some c → HasJunkEsp c
unfolding block_in plain register_type
block-esp pc [] c e = absurd cc
block-esp pc (b ∷ bs) c e = go (code_start + b.offset == pc) e (λ k. block-esp pc bs c k)
  where
    go : (t : Bool) → (if t then Some (plain b.types b.slots) else block_in pc bs) ≡ Some c → (block_in pc bs ≡ Some c → HasJunkEsp c) → HasJunkEsp c
    go true e more = subst HasJunkEsp (same_Some (plain b.types b.slots) c e) refl
    go false e more = more e

-- an image's blocks know nothing of what ESP holds
image-esp : (image : ImageParts) → BlocksHaveJunkEsp (shown image)
unfolding shown
image-esp image pc c e = block-esp pc image.blocks c e

-- the law of the flow on ESP, for each list of instructions
abbrev pub EspIsJunk : Type 0
EspIsJunk = (v : ShownImage) → BlocksHaveJunkEsp v → (xs : List PlacedInst) (pc : ℕ) → NoneFails v xs (contexts v xs Dead) → HasJunkEsp (At v xs pc)

-- nothing is known of what ESP holds in an image that is well typed
pub esp_is_junk : StrongestDecides → EspIsJunk → (image : ImageParts) (pc : ℕ) (c : LiveContext) → WellTyped image → strongest_at image pc ≡ Live c → c.regs Esp ≡ Junk
unfolding strongest strongest_at
esp_is_junk decides junk image pc c w e =
    subst HasJunkEsp e (junk (shown image) (image-esp image) (instructions image.code) pc ((decides image w.formed).0 w))

-- the contexts of the flow's law, for each list of instructions
abbrev pub ServeExactly : Type 0
ServeExactly = (v : ShownImage) → ClassLaws v.shapes → BlocksHaveOneHead v → (xs : List PlacedInst) → ((cs : List ContextView) × NoneFails v xs cs × JoinedContexts v xs cs Dead) ↔ NoneFails v xs (contexts v xs Dead)

-- the law of the strongest context, from those of shapes and of the flow
pub strongest_law : FormedShapes → ServeExactly → StrongestDecides
unfolding strongest shown
strongest_law laws exactly image f =
    let l = exactly (shown image) (laws image f) (image-heads image) (instructions image.code) in (
      λ w. l.0 (w.contexts_are, w.none_fails, w.joined),
      λ n. let s = l.1 n in record { formed = f; contexts_are = s.0; none_fails = s.1; joined = s.2 },
    )

-- a first refusal of an image is one of its instructions, and the other way round
pub of-refused : (image : ImageParts) (address rule : ℕ) → RefusedIn (shown image) (instructions image.code) Dead address rule → FirstRefusal image address rule
unfolding strongest_at At
of-refused image address rule r = record { placed = r.placed; here = r.here; fails = r.fails; earlier = r.earlier }

to-refused : (image : ImageParts) (address rule : ℕ) → FirstRefusal image address rule → RefusedIn (shown image) (instructions image.code) Dead address rule
unfolding strongest_at At
to-refused image address rule r = record { placed = r.placed; here = r.here; fails = r.fails; earlier = r.earlier }

-- the instructions of code stand in order
code-ordered : (code : List ℕ) → Ordered (instructions code)
unfolding instructions
code-ordered code = placed-ordered code 0 code_start

-- no rule fails at an instruction, in its strongest context
abbrev pub RowsPass : Type 0
RowsPass = (v : ShownImage) (xs : List PlacedInst) (pc : ℕ) (x : PlacedInst) → NoneFails v xs (contexts v xs Dead) → placed_at xs pc ≡ Some x → NoRuleAt v (At v xs pc) x

-- no rule fails at an instruction of an image that is well typed
pub none_fails : StrongestDecides → RowsPass → (image : ImageParts) → WellTyped image → (pc : ℕ) (x : PlacedInst) → placed_at (instructions image.code) pc ≡ Some x
    → NoRuleAt (shown image) (strongest_at image pc) x
unfolding strongest strongest_at
none_fails decides pass image w pc x e = pass (shown image) (instructions image.code) pc x ((decides image w.formed).0 w) e

-- an image has one first refusal, or it is well typed
pub one_answer : StrongestDecides → RowsPass → OneRuleIsLeast → OneRefusal
unfolding strongest
one_answer decides pass laws = record {
  one = λ image a b r s f g. one_refused (shown image) (instructions image.code) Dead a b r s (to-refused image a r f) (to-refused image b s g);
  not_typed = λ image a r f w. none_fails decides pass image w a f.placed f.here r f.fails.fails;
  some = λ image f. elim (decided laws (shown image) (instructions image.code) Dead (code-ordered image.code)) [ inl n ↦ inl ((decides image f).1 n) | inr r ↦ inr (r.0, r.1, of-refused image r.0 r.1 r.2) ];
}
