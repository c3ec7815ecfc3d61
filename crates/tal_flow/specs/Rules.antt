-- The rules of typing: which are tried at an instruction, by its form, and which fail.
use Rattle.std.specs.Prelude.{◌≡◌, ℕ, ◌+◌, ◌%◌, ◌^◌, ◌<◌, ◌==◌, Bool, true, false, not, ◌&&◌, ◌||◌, nat_le, nat_lt, List, [], ◌∷◌, ◌++◌, length, Option, Some, None, is_some}
use Rattle.std.specs.Option.{option_map, option_and_then, option_map_or, option_or}
use Rattle.ia32_code.specs.declared.instruction.Reg.{Reg}
use Rattle.ia32_code.specs.declared.instruction.Reg.TheVariants.{Esp}
use Rattle.ia32_code.specs.declared.instruction.Mem.{Mem}
use Rattle.ia32_code.specs.declared.instruction.Inst.{Inst}
use Rattle.object_layout.specs.Classes.{ShapesView}
use Rattle.tal_types.specs.Contexts.{LiveContext, ContextView, Dead, Live, same, context_below}
use Rattle.tal_types.specs.Shown.{ShownImage}
use Rattle.tal_flow.specs.declared.forms.Form.{Form}
use Rattle.tal_flow.specs.declared.forms.Form.TheVariants as form
use Rattle.tal_flow.specs.declared.seen.Seen.{Seen}
use Rattle.tal_flow.specs.declared.seen.Seen.TheVariants.{Refused, Compute, Move, Address, Compare, TestBits, PushOf, PopTo, DropSlots, CallTo, CallBy, Return, Jump, Branch, Nothing}
use Rattle.tal_flow.specs.declared.trials.RuleName.{RuleName}
use Rattle.tal_flow.specs.declared.trials.RuleName.TheVariants as rule
use Rattle.tal_flow.specs.declared.trials.Trial.{Trial}
use Rattle.tal_flow.specs.Trials.{rule_number, ask, fails_in, first_failing}
use Rattle.tal_flow.specs.Forms.{form_of}
use Rattle.tal_flow.specs.Places.{is_esp, found, readable, writable, is_num}
use Rattle.tal_flow.specs.Calls.{is_callable, is_fit}
use Rattle.tal_flow.specs.Functions.{in_function}
use Rattle.tal_flow.specs.Seen.{see}
use Rattle.tal_flow.specs.Afterwards.{slots_in}
use Rattle.tal_flow.specs.Edges.{allows, falling, branching, target_of, falls_to, branches_to, is_refused}

-- rule 2, of LEA, whose operand names no ESP
abbrev pub address_spares_esp : Reg → Mem → Bool
address_spares_esp r m = not (same r Esp) && (not (is_esp m.base) && not (is_esp m.index))

-- rule 5, of LEA: base and index
abbrev pub address_is_num : LiveContext → Mem → Bool
address_is_num c m = option_map_or (λ q. is_num (c.regs q)) m.base true && option_map_or (λ q. is_num (c.regs q)) m.index true

-- rule 8, of ADD ESP: so many slots are there
unfoldable pub may_drop : LiveContext → ℕ → Bool
may_drop c bytes = option_map_or (λ n. nat_le n (length c.slots)) (slots_in bytes) false

-- the rules 1 to 15 that are tried at an instruction with its operands resolved
abbrev pub operand_trials : LiveContext → Seen → List Trial
operand_trials c Refused =
    ask rule.Instruction false
    ∷ []
operand_trials c (Compute reads d wide kind) =
    ask rule.EspRole (reads.spares_esp && d.spares_esp)
    ∷ ask rule.Place (reads.found && found d)
    ∷ ask rule.Access (reads.readable && writable d)
    ∷ ask rule.Number reads.numbers
    ∷ []
operand_trials c (Move d x fits) =
    ask rule.EspRole (d.spares_esp && x.spares_esp)
    ∷ ask rule.Place (found d && found x)
    ∷ ask rule.Access (writable d && readable x)
    ∷ ask rule.Stored fits
    ∷ []
operand_trials c (Address r m) =
    ask rule.EspRole (address_spares_esp r m)
    ∷ ask rule.Number (address_is_num c m)
    ∷ []
operand_trials c (Compare d x kind) =
    ask rule.EspRole (d.spares_esp && x.spares_esp)
    ∷ ask rule.Place (found d && found x)
    ∷ ask rule.Comparison (is_some kind)
    ∷ []
operand_trials c (TestBits d x kind) =
    ask rule.EspRole (d.spares_esp && x.spares_esp)
    ∷ ask rule.Place (found d && found x)
    ∷ ask rule.Access (readable d && readable x)
    ∷ ask rule.Comparison (is_some kind)
    ∷ []
operand_trials c (PushOf x) =
    ask rule.EspRole x.spares_esp
    ∷ ask rule.Place (found x)
    ∷ ask rule.Access (readable x)
    ∷ ask rule.SlotRoom (nat_lt (length c.slots) 64)
    ∷ []
operand_trials c (PopTo r) =
    ask rule.EspRole (not (same r Esp))
    ∷ ask rule.SlotsThere (nat_le 1 (length c.slots))
    ∷ []
operand_trials c (DropSlots bytes t) =
    ask rule.Number (is_num t)
    ∷ ask rule.SlotsThere (may_drop c bytes)
    ∷ []
operand_trials c (CallTo called) =
    ask rule.Callee (is_callable called)
    ∷ ask rule.Arguments (is_fit called)
    ∷ []
operand_trials c (CallBy x called) =
    ask rule.EspRole x.spares_esp
    ∷ ask rule.Place (found x)
    ∷ ask rule.Access (readable x)
    ∷ ask rule.Callee (is_callable called)
    ∷ ask rule.Arguments (is_fit called)
    ∷ []
operand_trials c (Return fits) =
    ask rule.SlotsLeft (length c.slots == 0)
    ∷ ask rule.Returned fits
    ∷ []
operand_trials c (Jump is_block) =
    ask rule.Target is_block
    ∷ []
operand_trials c (Branch condition is_block) =
    ask rule.Target is_block
    ∷ ask rule.Condition (allows c.kind condition)
    ∷ []
operand_trials c Nothing = []

-- the first of the rules 1 to 15 that fails at an instruction of the form, or none
unfoldable pub operand_rule : ShownImage → LiveContext → ℕ → Form → Option RuleName
operand_rule v c pc form = first_failing (operand_trials c (see v c pc form))

-- rule 16: what is known on an edge is below the block's annotation, where the edge comes to a block
unfoldable pub edge_fits : ShapesView → ContextView → Option ContextView → Bool
edge_fits s c block = option_map_or (context_below s c) block true

-- no run comes there
unfoldable pub is_dead : ContextView → Bool
is_dead Dead = true
is_dead (Live c) = false

-- the rules 16 and 17, on both edges
abbrev pub edge_trials : ShownImage → LiveContext → ℕ → ℕ → Form → List Trial
edge_trials v c pc next form =
    ask rule.Annotation (edge_fits v.shapes (branching v c form) (option_and_then v.block_at (target_of form)) && edge_fits v.shapes (falling v c pc form) (v.block_at next))
    ∷ ask rule.FunctionEnd (is_dead (falling v c pc form) || in_function v pc next)
    ∷ []

-- the first of the rules 16 and 17 that fails, or none
unfoldable pub edge_rule : ShownImage → LiveContext → ℕ → ℕ → Form → Option RuleName
edge_rule v c pc next form = first_failing (edge_trials v c pc next form)

-- the rules that are tried at the instruction at pc of this form, with the next one at `next`; in the dead
-- context rule 1 alone
abbrev pub trials : ShownImage → ContextView → ℕ → ℕ → Form → List Trial
trials v Dead pc next form = ask rule.Instruction (not (is_refused form)) ∷ []
trials v (Live c) pc next form = operand_trials c (see v c pc form) ++ edge_trials v c pc next form

-- the first rule that fails at such an instruction, or none
unfoldable pub rule_of_form : ShownImage → ContextView → ℕ → ℕ → Form → Option RuleName
rule_of_form v Dead pc next form.Refused = Some rule.Instruction
rule_of_form v Dead pc next form = None
rule_of_form v (Live c) pc next form = option_or (operand_rule v c pc form) (edge_rule v c pc next form)

-- the address behind an instruction, modulo 2^32
unfoldable pub next_address : ℕ → ℕ → ℕ
next_address pc len = (pc + len) % 2 ^ 32

-- rule n fails at an instruction
abbrev pub RuleFails : ShownImage → ContextView → ℕ → Inst → ℕ → ℕ → Type 0
RuleFails v c pc inst len n = fails_in (trials v c pc (next_address pc len) (form_of (next_address pc len) inst)) n ≡ true

-- no rule fails at it
abbrev pub NoRuleFails : ShownImage → ContextView → ℕ → Inst → ℕ → Type 0
NoRuleFails v c pc inst len = (n : ℕ) → RuleFails v c pc inst len n → ⊥

-- rule n fails at it, and none of a lower number
pub record LeastRule (v : ShownImage) (c : ContextView) (pc : ℕ) (inst : Inst) (len n : ℕ) : Type 0 where
  pub fails : RuleFails v c pc inst len n
  pub least : (m : ℕ) → m < n → RuleFails v c pc inst len m → ⊥

-- the number of the first rule that fails at an instruction, or none. It is the least one, since the rules are tried in their order
unfoldable pub rule_of : ShownImage → ContextView → ℕ → Inst → ℕ → Option ℕ
rule_of v c pc inst len = option_map rule_number (rule_of_form v c pc (next_address pc len) (form_of (next_address pc len) inst))

-- what falls through an instruction
unfoldable pub Falls : ShownImage → ContextView → ℕ → Inst → ℕ → ContextView
Falls v c pc inst len = falls_to v c pc (form_of (next_address pc len) inst)

-- what its jump or branch takes along
unfoldable pub Branches : ShownImage → ContextView → ℕ → Inst → ℕ → ContextView
Branches v c pc inst len = branches_to v c (form_of (next_address pc len) inst)

-- where its jump or branch goes
unfoldable pub Target : ℕ → Inst → ℕ → Option ℕ
Target pc inst len = target_of (form_of (next_address pc len) inst)
