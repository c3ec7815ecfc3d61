use Rattle.std.specs.Prelude.{◌≡◌, ℕ, ◌<◌, ◌⊎◌, Bool, true, false, List}
use Rattle.ia32_code.specs.OperandForms.{number}
use Rattle.ia32_code.specs.declared.instruction.Reg.{Reg}
use Rattle.object_layout.specs.Classes.{ShapesView}
use Rattle.object_layout.specs.Laws.{ClassLaws}
use Rattle.tal_types.specs.declared.types.Ty.{Ty}
use Rattle.tal_types.specs.declared.types.FlagKind.{FlagKind}
use Rattle.tal_types.specs.Types.{SubType, within}
use Rattle.tal_types.specs.Contexts.{ContextView, ContextBelow, same, kind_below, all_sub, every, context_below}
use Rattle.tal_types.specs.Kept.{pair_in}

-- What holds of registers, types and contexts.
pub record TypeLaws : Type 0 where
  -- a register is the same as itself, and as no other
  pub register_below_8 : (r : Reg) → number r < 8
  pub same_reflexive : (r : Reg) → same r r ≡ true
  pub same_told : (r q : Reg) → same r q ≡ true → r ≡ q
  pub same_or_not : (r q : Reg) → (same r q ≡ false) ⊎ ((same r q ≡ true) × (r ≡ q))
  -- `every` is a test of each register
  pub every_told : (p : Reg → Bool) (r : Reg) → every p ≡ true → p r ≡ true
  pub every_tells : (p : Reg → Bool) → ((r : Reg) → p r ≡ true) → every p ≡ true
  -- the number 0 is no pair of registers
  pub no_pairs : (r q : Reg) → pair_in 0 r q ≡ false
  -- a class, a type, a list of types, a kind and a context is below itself, and what is below one is below what that is below
  pub within_reflexive : (s : ShapesView) (c : ℕ) → within s c c ≡ true
  pub within_transitive : (s : ShapesView) → ClassLaws s → (c d e : ℕ) → within s c d ≡ true → within s d e ≡ true → within s c e ≡ true
  pub types_reflexive : (s : ShapesView) (t : Ty) → SubType s t t
  pub types_transitive : (s : ShapesView) → ClassLaws s → (t u v : Ty) → SubType s t u → SubType s u v → SubType s t v
  pub lists_reflexive : (s : ShapesView) (ts : List Ty) → all_sub s ts ts ≡ true
  pub kinds_reflexive : (k : FlagKind) → kind_below k k ≡ true
  pub kinds_transitive : (k m n : FlagKind) → kind_below k m ≡ true → kind_below m n ≡ true → kind_below k n ≡ true
  pub contexts_reflexive : (s : ShapesView) (a : ContextView) → ContextBelow s a a
  pub contexts_transitive : (s : ShapesView) → ClassLaws s → (a b c : ContextView) → ContextBelow s a b → ContextBelow s b c → ContextBelow s a c
  -- the test of contexts holds exactly where they are in their order
  pub context_told : (s : ShapesView) (a b : ContextView) → context_below s a b ≡ true → ContextBelow s a b
  pub context_tells : (s : ShapesView) (a b : ContextView) → ContextBelow s a b → context_below s a b ≡ true
