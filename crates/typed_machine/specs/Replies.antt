-- What calls of the Nucleus come to: a row an entry.
use Rattle.std.specs.Prelude.{ℕ, ◌/◌, ◌%◌, ◌^◌, ◌==◌, ◌&&◌, ◌||◌, not, Bool, nat_lt, nat_le, List, [], ◌∷◌, ◌++◌, Option, Some, None, is_some, slice_get, slice_set, if◌then◌else◌}
use Rattle.std.specs.Option.{option_map, option_and_then}
use Rattle.ia32_code.specs.declared.instruction.Reg.TheVariants.{Eax, Ecx}
use Rattle.device_model.specs.declared.screen.TheConstants.{CELLS}
use Rattle.device_model.specs.LineBits.{any_below}
use Rattle.device_model.specs.History.{Item, Wrote, Took, Drew, waiting}
use Rattle.device_model.specs.ItemByItem.{is_served}
use Rattle.typed_machine.specs.Values.{Value, Number, Tab, Desc, ObjectShape, InstanceOf, ArrayOf}
use Rattle.typed_machine.specs.States.{State, Stack, EmptyStack, RunningStack, YieldedStack, InterruptedStack}
use Rattle.typed_machine.specs.Operands.{number_in}

-- What a call comes to: this reply at once, in the state with what the call changes beside the caller's registers, flags and
-- place; the caller yields to a stack, and its reply comes when it is resumed; an object of a shape is asked for, and the reply
-- is what the allocation is answered; or the heap's free words are the reply.
pub data ReplyView : Type 0 where
  Replies : ℕ → State → ReplyView
  YieldsTo : ℕ → ReplyView
  Allocates : ObjectShape → ReplyView
  Collects : ReplyView

-- ---- the heap

-- the class whose table it is
abbrev pub class_asked : Value → Option ObjectShape
class_asked (Tab c) = Some (InstanceOf c)
class_asked w = None

-- the array kind whose descriptor it is, with a length
abbrev pub array_asked : Value → Value → Option ObjectShape
array_asked (Desc k) (Number n) = Some (ArrayOf k n)
array_asked w u = None

-- the class's table is in EAX
abbrev pub alloc_object : State → Option ReplyView
alloc_object s = option_map Allocates (class_asked (s.thread.regs Eax))

-- the kind's descriptor is in EAX, and the length in ECX
abbrev pub alloc_array : State → Option ReplyView
alloc_array s = option_map Allocates (array_asked (s.thread.regs Eax) (s.thread.regs Ecx))

abbrev pub garbage_collect : State → ReplyView
garbage_collect s = Collects

-- ---- stacks

-- there is a stack of this number
abbrev pub is_stack : ℕ → State → Bool
is_stack n s = is_some (slice_get s.stacks n)

-- the stack is an application's
abbrev pub is_application : ℕ → Bool
is_application n = nat_lt 0 n

-- 1 where there is no such stack or it is the caller; else 2 where both are applications; else the stacks switch
abbrev pub yield_to : ℕ → State → ReplyView
yield_to n s =
    if not (is_stack n s) || n == s.current then Replies 1 s else
    if is_application s.current && is_application n then Replies 2 s else YieldsTo n

-- the number that tells how a stack stands
abbrev pub state_number : Option Stack → ℕ
state_number (Some EmptyStack) = 0
state_number (Some RunningStack) = 1
state_number (Some (YieldedStack place values)) = 2
state_number (Some (InterruptedStack thread values)) = 3
state_number None = 4

abbrev pub get_stack_state : ℕ → State → ReplyView
get_stack_state n s = Replies (state_number (slice_get s.stacks n)) s

-- 1 where there is no such stack or it runs; else it becomes empty
abbrev pub emptied : ℕ → State → Option Stack → ReplyView
emptied n s None = Replies 1 s
emptied n s (Some RunningStack) = Replies 1 s
emptied n s (Some stack) = Replies 0 (record s { stacks = slice_set s.stacks n EmptyStack })

-- 2 where the caller is not stack 0
abbrev pub reset_stack : ℕ → State → ReplyView
reset_stack n s = if is_application s.current then Replies 2 s else emptied n s (slice_get s.stacks n)

abbrev pub current_stack : State → ReplyView
current_stack s = Replies s.current s

-- ---- devices

-- these items happened, the latest first
abbrev pub happened : List Item → State → State
happened items s = record s { devices = items ++ s.devices }

-- 1 where there is no such cell; else it gets the value modulo 65536
abbrev pub vga_text_write : ℕ → ℕ → State → ReplyView
vga_text_write position value s =
    if nat_lt position CELLS then Replies 0 (happened (Drew position (value % 2 ^ 16) ∷ []) s) else Replies 1 s

-- the oldest waiting code, which is taken; 256 where none waits
abbrev pub code_taken : Option ℕ → State → ReplyView
code_taken (Some code) s = Replies code (happened (Took ∷ []) s)
code_taken None s = Replies 256 s

abbrev pub try_read_keyboard : State → ReplyView
try_read_keyboard s = code_taken (slice_get (waiting s.devices) 0) s

-- a count is set by the command, its low byte and its high byte; 0 stands for 65536
abbrev pub count_items : ℕ → List Item
count_items count = Wrote 0x40 (count / 2 ^ 8 % 2 ^ 8) ∷ Wrote 0x40 (count % 2 ^ 8) ∷ Wrote 0x43 0x34 ∷ []

-- 0 for a count of 2 to 65536; else 1
abbrev pub start_timer : ℕ → State → ReplyView
start_timer count s = if nat_le 2 count && nat_le count 65536 then Replies 0 (happened (count_items count) s) else Replies 1 s

-- 1 where no line is in service; else the end byte ends the service of the lowest
abbrev pub send_eoi : State → ReplyView
send_eoi s = if any_below (is_served s.devices) 8 then Replies 0 (happened (Wrote 0x20 0x20 ∷ []) s) else Replies 1 s

-- ---- all entries

-- a call without arguments
abbrev pub by_nothing : (State → ReplyView) → State → Option ReplyView
by_nothing reply s = Some (reply s)

-- a call with the number in EAX
abbrev pub by_number : (ℕ → State → ReplyView) → State → Option ReplyView
by_number reply s = option_map (λ n. reply n s) (number_in (s.thread.regs Eax))

-- a call with the numbers in EAX and ECX
abbrev pub by_numbers : (ℕ → ℕ → State → ReplyView) → State → Option ReplyView
by_numbers reply s = option_and_then (λ n. by_number_and n (number_in (s.thread.regs Ecx))) (number_in (s.thread.regs Eax))
  where
    by_number_and : ℕ → Option ℕ → Option ReplyView
    by_number_and n o = option_map (λ m. reply n m s) o

-- what each entry replies, by its number
abbrev pub entry_replies : List (State → Option ReplyView)
entry_replies =
    alloc_object ∷ alloc_array ∷ by_nothing garbage_collect ∷ by_number yield_to ∷ by_number get_stack_state ∷ by_number reset_stack ∷ by_numbers vga_text_write
    ∷ by_nothing try_read_keyboard ∷ by_number start_timer ∷ by_nothing send_eoi ∷ by_nothing current_stack ∷ []

-- What a call of entry k comes to; none where the state has not its arguments.
unfoldable pub Reply : ℕ → State → Option ReplyView
Reply k s = option_and_then (λ reply. reply s) (slice_get entry_replies k)
