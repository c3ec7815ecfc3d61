-- Calls: of functions by their signatures, and of the Nucleus's entries.
use Rattle.std.specs.Prelude.{ℕ, ◌-◌, ◌/◌, ◌%◌, ◌==◌, Bool, true, false, ◌&&◌, nat_le, List, [], ◌∷◌, Option, Some, None, slice_get, is_some, if◌then◌else◌}
use Rattle.std.specs.Option.{option_and_then}
use Rattle.ia32_code.specs.declared.instruction.Reg.TheVariants.{Eax, Ecx}
use Rattle.object_layout.specs.Classes.{ShapesView}
use Rattle.tal_types.specs.declared.types.Ty.{Ty}
use Rattle.tal_types.specs.declared.types.Ty.TheVariants as ty
use Rattle.tal_types.specs.declared.signatures.Sig.{Sig}
use Rattle.tal_types.specs.Types.{sub}
use Rattle.tal_types.specs.Contexts.{LiveContext, every, register_type}
use Rattle.tal_types.specs.Shown.{ShownImage}
use Rattle.tal_flow.specs.declared.calls.Arguments.{Arguments}
use Rattle.tal_flow.specs.declared.calls.Arguments.TheVariants.{Table, DescriptorAndNumber, Nothing, OneNumber, TwoNumbers}
use Rattle.tal_flow.specs.declared.calls.Called.{Called}
use Rattle.tal_flow.specs.declared.calls.Called.TheVariants.{Nowhere, Misfit, Gives}

-- each register's type is below its parameter's
unfoldable pub arguments_fit : ShapesView → LiveContext → Sig → Bool
arguments_fit s c sig = every (λ r. sub s (c.regs r) (register_type sig.params r))

-- a call of a function of the signature, if there is one
abbrev pub called_with : ShapesView → LiveContext → Option Sig → Called
called_with s c None = Nowhere
called_with s c (Some sig) = if arguments_fit s c sig then Gives sig.result else Misfit

-- a call of a function whose signature has the number
unfoldable pub call_of_signature : ShownImage → LiveContext → Option ℕ → Called
call_of_signature v c g = called_with v.shapes c (option_and_then v.sig g)

-- the Nucleus's entries by number: AllocObject, AllocArray, GarbageCollect, YieldTo, GetStackState,
-- ResetStack, VgaTextWrite, TryReadKeyboard, StartTimer, SendEoi, CurrentStack
unfoldable pub nucleus_arguments : List Arguments
nucleus_arguments =
    Table ∷ DescriptorAndNumber ∷ Nothing ∷ OneNumber ∷ OneNumber ∷ OneNumber ∷ TwoNumbers ∷ Nothing ∷ OneNumber ∷ Nothing ∷ Nothing ∷ []

-- the number of the entry at an address: entry k is at 0x1000 + 16k
unfoldable pub entry_number : ℕ → Option ℕ
entry_number address = if nat_le 0x1000 address && ((address - 0x1000) % 16 == 0) then Some ((address - 0x1000) / 16) else None

-- a Nucleus entry stands at the address
unfoldable pub is_entry : ℕ → Bool
is_entry address = is_some (option_and_then (slice_get nucleus_arguments) (entry_number address))

-- what an entry gives, where EAX and ECX have these types
abbrev pub entry_gives : Arguments → Ty → Ty → Called
entry_gives Table (ty.Tab c) ecx = Gives (ty.Ref c)
entry_gives DescriptorAndNumber (ty.Desc k) ty.Num = Gives (ty.ArrRef k)
entry_gives Nothing eax ecx = Gives ty.Num
entry_gives OneNumber ty.Num ecx = Gives ty.Num
entry_gives TwoNumbers ty.Num ty.Num = Gives ty.Num
entry_gives _ eax ecx = Misfit

-- a call of an entry that asks this, or else the other call
abbrev pub entry_or : Called → LiveContext → Option Arguments → Called
entry_or otherwise c None = otherwise
entry_or otherwise c (Some arguments) = entry_gives arguments (c.regs Eax) (c.regs Ecx)

-- a CALL of an address: a Nucleus entry's, or that of a function's first instruction
unfoldable pub call_to : ShownImage → LiveContext → ℕ → Called
call_to v c address =
    entry_or (call_of_signature v c (v.function_at address)) c (option_and_then (slice_get nucleus_arguments) (entry_number address))

-- the signature of the function whose address it is
abbrev pub code_signature : Ty → Option ℕ
code_signature (ty.Code g) = Some g
code_signature _ = None

-- a CALL of what has the type
unfoldable pub call_by : ShownImage → LiveContext → Ty → Called
call_by v c t = call_of_signature v c (code_signature t)

-- rule 10
unfoldable pub is_callable : Called → Bool
is_callable Nowhere = false
is_callable _ = true

-- rule 11
unfoldable pub is_fit : Called → Bool
is_fit Misfit = false
is_fit _ = true

-- the type of the result
unfoldable pub result_of : Called → Ty
result_of (Gives t) = t
result_of _ = ty.Junk
