-- What an instruction does to a state, by the values of its operands and never by contexts; none where it is ill typed.
use Rattle.std.specs.Prelude.{ℕ, zero, suc, Bool, true, false, ◌&&◌, ◌||◌, ◌==◌, not, nat_le, List, [], ◌∷◌, length, drop, Option, Some, None, slice_get, is_some, if◌then◌else◌}
use Rattle.std.specs.Option.{option_map, option_and_then, option_map_or}
use Rattle.std.specs.List.{list_all}
use Rattle.ia32_code.specs.declared.instruction.Reg.{Reg}
use Rattle.ia32_code.specs.declared.instruction.Reg.TheVariants.{Eax, Ecx, Edx, Esp}
use Rattle.ia32_code.specs.declared.instruction.Cond.{Cond}
use Rattle.ia32_code.specs.declared.instruction.Cond.TheVariants as condition
use Rattle.ia32_code.specs.declared.instruction.Mem.{Mem}
use Rattle.ia32_code.specs.declared.instruction.Operand.{Operand}
use Rattle.ia32_code.specs.declared.instruction.Operand.TheVariants.{R, M, I}
use Rattle.ia32_code.specs.declared.instruction.Inst.{Inst}
use Rattle.ia32_step.specs.declared.effect.Effect.{Effect as StepEffect}
use Rattle.ia32_step.specs.declared.effect.Effect.TheVariants as step
use Rattle.ia32_step.specs.Operands.{WordState, read_word}
use Rattle.ia32_step.specs.Conditions.{holds}
use Rattle.ia32_step.specs.Effects.{executed, effect_of}
use Rattle.tal_types.specs.declared.types.FlagKind.{FlagKind}
use Rattle.tal_types.specs.declared.types.FlagKind.TheVariants as kind
use Rattle.tal_types.specs.declared.signatures.Sig.{Sig}
use Rattle.tal_types.specs.Contexts.{same, every, register_type}
use Rattle.tal_types.specs.Shown.{ShownImage}
use Rattle.tal_flow.specs.declared.calls.Arguments.{Arguments}
use Rattle.tal_flow.specs.declared.calls.Arguments.TheVariants.{Table, DescriptorAndNumber, Nothing as NoArguments, OneNumber, TwoNumbers}
use Rattle.tal_flow.specs.declared.forms.Form.{Form}
use Rattle.tal_flow.specs.declared.forms.Form.TheVariants.{Refused, Compute, Move, Address, Compare, TestBits, PushOf, PopTo, DropSlots, CallTo, CallBy, Return, Jump, Branch, Nothing}
use Rattle.tal_flow.specs.Forms.{form_of}
use Rattle.tal_flow.specs.Rows.{same_register}
use Rattle.tal_flow.specs.Calls.{nucleus_arguments, entry_number}
use Rattle.tal_flow.specs.Afterwards.{slots_in}
use Rattle.tal_flow.specs.Rules.{next_address}
use Rattle.tal_image.specs.Image.{ImageParts}
use Rattle.tal_image.specs.Shown.{shown}
use Rattle.typed_machine.specs.Values.{Value, Number, Null, Ref, Code, Ret, Tab, Desc, Fits}
use Rattle.typed_machine.specs.States.{State, Known, AllConditions, Equality, NoCondition, placed_shapes, at_place, with_register, with_flags, with_values, most_values}
use Rattle.typed_machine.specs.Operands.{Spot, AtDisplay, spot_of, operand_value, is_number, number_in, word_among, write_operand}
use Rattle.typed_machine.specs.Code.{may_go}
use Rattle.typed_machine.specs.Words.{words_of}

-- what an instruction does: the state after it; a fault of a vector, which changes nothing; a call of the Nucleus; a return
-- to the end word
pub data EffectView : Type 0 where
  Moves : State → EffectView
  Faults : ℕ → EffectView
  Calls : ℕ → EffectView
  Ends : EffectView

-- the state after an instruction that the next one follows
abbrev pub goes_on : ℕ → State → EffectView
goes_on next s = Moves (at_place next s)

-- ---- operations on numbers

-- the conditions that a flag kind lets be used
unfoldable pub known_by : FlagKind → Known
known_by kind.Lost = NoCondition
known_by kind.Eq = Equality
known_by kind.Num = AllConditions
known_by (kind.NullTest r) = Equality
known_by (kind.Bound i a) = AllConditions
known_by (kind.IsA r c) = Equality

-- the same, where the operation gives a kind; else it is as before
unfoldable pub known_after : Option FlagKind → Known → Known
known_after k known = option_map_or known_by k known

-- the upper word of a wide result goes to EDX
abbrev pub with_high : Bool → WordState → State → State
with_high true m s = with_register Edx (Number (read_word (R Edx) m)) s
with_high false m s = s

-- the registers and flags after an operation whose words are these
abbrev pub settled : Bool → Option FlagKind → WordState → State → State
settled wide k m s = with_flags m.flags (known_after k s.thread.known) (with_high wide m s)

-- the divide error is a fault, and else the result is written
abbrev pub fault_or : StepEffect → Option EffectView → Option EffectView
fault_or (step.Fault n) otherwise = Some (Faults n)
fault_or step.Next otherwise = otherwise
fault_or (step.Call a) otherwise = otherwise
fault_or step.Return otherwise = otherwise

-- what an operation leaves, whose words before it are these
abbrev pub computed : ShownImage → State → Inst → ℕ → ℕ → Operand → Bool → Option FlagKind → WordState → Option EffectView
computed v s i len next d wide k m =
    fault_or (effect_of i m len)
    (option_map (λ t. goes_on next (settled wide k (executed i m) t)) (write_operand v s d (Number (read_word d (executed i m)))))

-- an operation on numbers
unfoldable pub computes : ShownImage → State → Inst → ℕ → ℕ → List Operand → Operand → Bool → Option FlagKind → Option EffectView
computes v s i len next sources d wide k =
    if list_all (is_number v s) sources then computed v s i len next d wide k (words_of s (word_among v s (d ∷ sources))) else None

-- ---- comparisons

-- a reference or null
abbrev pub is_object : Value → Bool
is_object Null = true
is_object (Ref i) = true
is_object w = false

-- a value that a type has beside null, or null
abbrev pub may_be_null : Value → Bool
may_be_null Null = true
may_be_null (Ref i) = true
may_be_null (Code a) = true
may_be_null w = false

-- the operand is the number 0 and has no mark
abbrev pub is_bare_zero : Operand → Option Value → Bool
is_bare_zero (I n) (Some (Number m)) = n == 0
is_bare_zero x w = false

-- what is known after a comparison of two values, of which the second may be a bare 0
unfoldable pub known_of_values : Value → Value → Bool → Option Known
known_of_values (Number a) (Number b) bare = Some AllConditions
known_of_values w u bare = if (is_object w && is_object u) || (may_be_null w && bare) then Some Equality else None

-- the operand is a display
abbrev pub is_display : ShownImage → State → Operand → Bool
is_display v s (M m) = option_map_or at_display (spot_of v.shapes s m) false
  where
    at_display : Spot → Bool
    at_display (AtDisplay c d) = true
    at_display spot = false
is_display v s x = false

-- the value is a class's table
abbrev pub is_table : Option Value → Bool
is_table (Some (Tab c)) = true
is_table w = false

-- what is known after CMP: of two values, or of a display and a marked class
abbrev pub known_of : Option Value → Option Value → Bool → Bool → Option Known
known_of (Some w) (Some u) bare display = known_of_values w u bare
known_of None u bare display = if display && is_table u then Some Equality else None
known_of (Some w) None bare display = None

-- the flags are those of the words, and so much is known of them
abbrev pub sets_flags : ShownImage → State → Inst → ℕ → List Operand → Option Known → Option EffectView
sets_flags v s i next xs known = option_map (λ k. goes_on next (with_flags (executed i (words_of s (word_among v s xs))).flags k s)) known

unfoldable pub compares : ShownImage → State → Inst → ℕ → Operand → Operand → Option EffectView
compares v s i next d x =
    sets_flags v s i next (d ∷ x ∷ [])
    (known_of (operand_value v s d) (operand_value v s x) (is_bare_zero x (operand_value v s x)) (is_display v s d))

-- what is known after TEST: of two numbers, or of one register twice that may hold null
unfoldable pub known_of_test : Option Value → Option Value → Bool → Option Known
known_of_test (Some (Number a)) (Some (Number b)) alike = Some AllConditions
known_of_test (Some w) u alike = if alike && may_be_null w then Some Equality else None
known_of_test None u alike = None

unfoldable pub tests : ShownImage → State → Inst → ℕ → Operand → Operand → Option EffectView
tests v s i next d x =
    sets_flags v s i next (d ∷ x ∷ []) (known_of_test (operand_value v s d) (operand_value v s x) (same_register d x))

-- ---- moves, addresses and the stack

unfoldable pub moves : ShownImage → State → ℕ → Operand → Operand → Option EffectView
moves v s next d x = option_map (goes_on next) (option_and_then (write_operand v s d) (operand_value v s x))

-- there is no register, or it holds a number; ESP holds none
abbrev pub is_number_in : State → Option Reg → Bool
is_number_in s None = true
is_number_in s (Some r) = not (same r Esp) && is_some (number_in (s.thread.regs r))

-- an address is a number, made of numbers
unfoldable pub addresses : State → Inst → ℕ → Reg → Mem → Option EffectView
addresses s i next r m =
    if not (same r Esp) && (is_number_in s m.base && is_number_in s m.index)
    then Some (goes_on next (with_register r (Number (read_word (R r) (executed i (words_of s 0)))) s)) else None

-- the stack is full
unfoldable pub is_full : State → Bool
is_full s = nat_le most_values (length s.values)

-- a value is pushed and the run goes on at a place; where the stack is full that is the stack fault
unfoldable pub pushes : ℕ → Value → State → EffectView
pushes next w s = if is_full s then Faults 12 else goes_on next (with_values (w ∷ s.values) s)

-- the value on top is popped, which is no place to return to
abbrev pub pops : ℕ → Reg → List Value → State → Option EffectView
pops next r [] s = None
pops next r (Ret a ∷ vs) s = None
pops next r (w ∷ vs) s = if same r Esp then None else Some (goes_on next (with_register r w (with_values vs s)))

-- so many values lie above the top return place
abbrev pub has_above : ℕ → List Value → Bool
has_above zero vs = true
has_above (suc n) [] = false
has_above (suc n) (Ret a ∷ vs) = false
has_above (suc n) (w ∷ vs) = has_above n vs

-- so many values are dropped, and the flags are those of the sum with ESP's word
abbrev pub drops : State → Inst → ℕ → Option ℕ → Option EffectView
drops s i next None = None
drops s i next (Some n) =
    if has_above n s.values
    then Some (goes_on next (with_flags (executed i (words_of s 0)).flags NoCondition (with_values (drop n s.values) s))) else None

-- ---- calls and returns

-- the values in the registers fit the parameters
unfoldable pub values_fit : ShownImage → State → Sig → Bool
values_fit v s sig = every (λ r. Fits v (placed_shapes s) (s.thread.regs r) (register_type sig.params r))

-- nothing is known of the flags where a function begins
abbrev pub entered : ℕ → State → State
entered next s = record s { thread = record s.thread { known = NoCondition } }

-- the function at an address is called, if one begins there, with arguments that fit; the place after the call is pushed
abbrev pub calls_function : ShownImage → State → ℕ → ℕ → Option EffectView
calls_function v s next address =
    option_and_then (λ sig. if values_fit v s sig then Some (pushes address (Ret next) (entered next s)) else None)
    (option_and_then v.sig (v.function_at address))

-- what an entry of the Nucleus asks of EAX and ECX
unfoldable pub has_arguments : Arguments → Value → Value → Bool
has_arguments Table (Tab c) ecx = true
has_arguments DescriptorAndNumber (Desc k) (Number n) = true
has_arguments NoArguments eax ecx = true
has_arguments OneNumber (Number n) ecx = true
has_arguments TwoNumbers (Number n) (Number m) = true
has_arguments arguments eax ecx = false

-- entry k is called
abbrev pub calls_entry : State → ℕ → Arguments → Option EffectView
calls_entry s k arguments = if has_arguments arguments (s.thread.regs Eax) (s.thread.regs Ecx) then Some (Calls k) else None

-- an entry of the Nucleus, by its number, or else another call
abbrev pub numbered_entry_or : State → Option EffectView → Option ℕ → Option EffectView
numbered_entry_or s otherwise None = otherwise
numbered_entry_or s otherwise (Some k) = option_map_or (calls_entry s k) (slice_get nucleus_arguments k) otherwise

-- a CALL of an address: of the Nucleus, or of a function's first instruction
unfoldable pub calls_to : ShownImage → State → ℕ → ℕ → Option EffectView
calls_to v s next address = numbered_entry_or s (calls_function v s next address) (entry_number address)

-- a CALL of a value, which is a function's address
abbrev pub calls_value : ShownImage → State → ℕ → Option Value → Option EffectView
calls_value v s next (Some (Code a)) = calls_function v s next a
calls_value v s next w = None

-- a return takes the place on top; at the end word that is an end
abbrev pub returns_from : List Value → State → Option EffectView
returns_from (Ret zero ∷ []) s = Some Ends
returns_from (Ret (suc a) ∷ vs) s = Some (goes_on (suc a) (with_values vs s))
returns_from vs s = None

-- ---- branches

-- a condition is among those that were defined
unfoldable pub is_known : Known → Cond → Bool
is_known AllConditions c = true
is_known NoCondition c = false
is_known Equality condition.E = true
is_known Equality condition.Ne = true
is_known Equality c = false

-- a jump goes to an address
abbrev pub jumps : ImageParts → State → ℕ → Option EffectView
jumps image s to = if may_go image s.thread.place to then Some (goes_on to s) else None

-- a branch goes there where its condition, which was defined, holds, and else to the next instruction
abbrev pub branches : ImageParts → State → ℕ → Cond → ℕ → Option EffectView
branches image s next c to =
    if is_known s.thread.known c && may_go image s.thread.place to
    then Some (goes_on (if holds c s.thread.flags then to else next) s) else None

-- ---- all instructions

-- what an instruction of the form does; the next one follows at an address
unfoldable pub form_effect : ImageParts → State → Inst → ℕ → ℕ → Form → Option EffectView
form_effect image s i len next Refused = None
form_effect image s i len next (Compute sources d wide k) = computes (shown image) s i len next sources d wide k
form_effect image s i len next (Move d x) = moves (shown image) s next d x
form_effect image s i len next (Address r m) = addresses s i next r m
form_effect image s i len next (Compare d x) = compares (shown image) s i next d x
form_effect image s i len next (TestBits d x) = tests (shown image) s i next d x
form_effect image s i len next (PushOf x) = option_map (λ w. pushes next w s) (operand_value (shown image) s x)
form_effect image s i len next (PopTo r) = pops next r s.values s
form_effect image s i len next (DropSlots bytes) = drops s i next (slots_in bytes)
form_effect image s i len next (CallTo a) = calls_to (shown image) s next a
form_effect image s i len next (CallBy x) = calls_value (shown image) s next (operand_value (shown image) s x)
form_effect image s i len next Return = returns_from s.values s
form_effect image s i len next (Jump to) = jumps image s to
form_effect image s i len next (Branch c to) = branches image s next c to
form_effect image s i len next Nothing = Some (goes_on next s)

-- what an instruction whose spelling has `len` bytes does to a state that it stands at
unfoldable pub Effect : ImageParts → State → Inst → ℕ → Option EffectView
Effect image s i len = form_effect image s i len (next_address s.thread.place len) (form_of (next_address s.thread.place len) i)
