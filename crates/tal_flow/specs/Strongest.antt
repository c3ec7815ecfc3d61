-- The strongest context at each instruction.
use Rattle.std.specs.Prelude.{◌≡◌, ℕ, ◌<◌, ◌==◌, true, List, [], ◌∷◌, Option, Some, None, if◌then◌else◌}
use Rattle.std.specs.Option.{option_map, option_and_then, option_or}
use Rattle.ia32_code.specs.declared.instruction.Reg.{Reg}
use Rattle.ia32_code.specs.declared.instruction.Reg.TheVariants.{Esp}
use Rattle.ia32_code.specs.declared.instruction.Inst.{Inst}
use Rattle.tal_types.specs.declared.types.Ty.TheVariants.{Junk}
use Rattle.tal_types.specs.Contexts.{LiveContext, ContextView, Dead, Live, ContextBelow, entry}
use Rattle.tal_types.specs.Shown.{ShownImage}
use Rattle.tal_flow.specs.Rules.{NoRuleFails, LeastRule, rule_of, next_address, Falls}

-- an instruction of the code, with its address and the length of its spelling
pub record PlacedInst : Type 0 where
  pub pc : ℕ
  pub inst : Inst
  pub len : ℕ

-- no rule fails at it
abbrev pub NoRuleAt : ShownImage → ContextView → PlacedInst → Type 0
NoRuleAt v c x = NoRuleFails v c x.pc x.inst x.len

-- rule n is the least that fails at it
abbrev pub LeastRuleAt : ShownImage → ContextView → PlacedInst → ℕ → Type 0
LeastRuleAt v c x n = LeastRule v c x.pc x.inst x.len n

-- the first rule that fails at it, or none
abbrev pub rule_at : ShownImage → ContextView → PlacedInst → Option ℕ
rule_at v c x = rule_of v c x.pc x.inst x.len

-- what falls through it
abbrev pub falls_from : ShownImage → ContextView → PlacedInst → ContextView
falls_from v c x = Falls v c x.pc x.inst x.len

-- what an address has by itself: at a function's first instruction the context of its signature, and at a
-- block the annotation
unfoldable pub known_at : ShownImage → ℕ → Option ContextView
known_at v pc = option_or (option_map entry (option_and_then v.sig (v.function_at pc))) (v.block_at pc)

-- what falls to an address, where that has nothing by itself
abbrev pub carried : ContextView → Option ContextView → ContextView
carried c None = c
carried c (Some d) = d

-- the context at an address: its own, or else what falls to it
unfoldable pub start : ShownImage → ℕ → ContextView → ContextView
start v pc c = carried c (known_at v pc)

-- the contexts of instructions that lie one after another, where c falls to the first
abbrev pub contexts : ShownImage → List PlacedInst → ContextView → List ContextView
contexts v [] c = []
contexts v (x ∷ xs) c = start v x.pc c ∷ contexts v xs (falls_from v (start v x.pc c) x)

-- the context at the instruction at pc among these, where c falls to the first
unfoldable pub at_in : ShownImage → List PlacedInst → ContextView → ℕ → ContextView
at_in v [] c pc = Dead
at_in v (x ∷ xs) c pc = if x.pc == pc then start v x.pc c else at_in v xs (falls_from v (start v x.pc c) x) pc

-- the strongest context at the instruction at pc, dead where nothing falls to it
unfoldable pub At : ShownImage → List PlacedInst → ℕ → ContextView
At v xs pc = at_in v xs Dead pc

-- there is a context for each instruction, and no rule fails at any in its context
abbrev pub NoneFails : ShownImage → List PlacedInst → List ContextView → Type 0
NoneFails v [] [] = Unit {0}
NoneFails v [] (c ∷ cs) = ⊥
NoneFails v (x ∷ xs) [] = ⊥
NoneFails v (x ∷ xs) (c ∷ cs) = NoRuleAt v c x × NoneFails v xs cs

-- each context is above what its address has by itself, or else above what falls to it
abbrev pub JoinedContexts : ShownImage → List PlacedInst → List ContextView → ContextView → Type 0
JoinedContexts v [] [] falls = Unit {0}
JoinedContexts v [] (c ∷ cs) falls = ⊥
JoinedContexts v (x ∷ xs) [] falls = ⊥
JoinedContexts v (x ∷ xs) (c ∷ cs) falls = ContextBelow v.shapes (start v x.pc falls) c × JoinedContexts v xs cs (falls_from v c x)

-- the instruction at an address
unfoldable pub placed_at : List PlacedInst → ℕ → Option PlacedInst
placed_at [] pc = None
placed_at (x ∷ xs) pc = if x.pc == pc then Some x else placed_at xs pc

-- each instruction begins where the one before ends, from n on, and addresses rise
abbrev pub Chained : ℕ → List PlacedInst → Type 0
Chained n [] = Unit {0}
Chained n (x ∷ xs) = (x.pc ≡ n) × (n < next_address x.pc x.len) × Chained (next_address x.pc x.len) xs

-- nothing is known of what ESP holds
abbrev pub HasJunkEsp : ContextView → Type 0
HasJunkEsp Dead = Unit {0}
HasJunkEsp (Live c) = c.regs Esp ≡ Junk

-- no block's annotation tells of ESP
abbrev pub BlocksHaveJunkEsp : ShownImage → Type 0
BlocksHaveJunkEsp v = (pc : ℕ) (c : ContextView) → v.block_at pc ≡ Some c → HasJunkEsp c

-- no table register has two heads
abbrev pub OneHead : LiveContext → Type 0
OneHead c = (t r q : Reg) → c.heads t r ≡ true → c.heads t q ≡ true → r ≡ q

-- the same of a context that may be dead
abbrev pub HasOneHead : ContextView → Type 0
HasOneHead Dead = Unit {0}
HasOneHead (Live c) = OneHead c

-- no block's annotation gives a table register two heads; those of an image have no heads at all
abbrev pub BlocksHaveOneHead : ShownImage → Type 0
BlocksHaveOneHead v = (pc : ℕ) (c : ContextView) → v.block_at pc ≡ Some c → HasOneHead c
