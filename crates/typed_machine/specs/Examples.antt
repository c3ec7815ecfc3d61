-- Small programs, and what their runs come to: the definitions, computed.
use Rattle.std.specs.Prelude.{◌≡◌, ℕ, List, [], ◌∷◌, length, Option, Some, None}
use Rattle.std.specs.Option.{option_map}
use Rattle.device_model.specs.declared.events.Event.{Event}
use Rattle.device_model.specs.declared.events.EventKind.TheVariants.{Tick, Key}
use Rattle.device_model.specs.History.{Ticked, Keyed, Wrote, Took, Granted, Drew, History}
use Rattle.stack_states.specs.declared.journal_entry.Entry.{Entry}
use Rattle.stack_states.specs.declared.journal_entry.EntryKind.{EntryKind}
use Rattle.stack_states.specs.declared.journal_entry.EntryKind.TheVariants.{Call, Yield, Interrupt, Ended}
use Rattle.object_layout.specs.declared.rows.FieldTy.TheVariants as field
use Rattle.tal_types.specs.declared.types.Ty.TheVariants.{Num, Junk}
use Rattle.tal_types.specs.declared.signatures.Sig.{Sig}
use Rattle.tal_image.specs.Image.{ImageParts}
use Rattle.typed_machine.specs.declared.ending.Ending.{Ending}
use Rattle.typed_machine.specs.declared.ending.Ending.TheVariants.{Halted, KernelFault}
use Rattle.typed_machine.specs.Values.{Value, Number}
use Rattle.typed_machine.specs.Turns.{Run, RunOf}

-- what is looked at of a run
pub record RunSeen : Type 0 where
  pub ending : Option Ending
  pub turns : ℕ
  pub statics : List Value

abbrev pub seen_of : Run → RunSeen
seen_of r = record { ending = r.state.ending; turns = r.state.turns; statics = r.state.statics }

-- so many turns of the image come to this end, after so many turns, with these statics
abbrev pub RunsTo : ImageParts → ℕ → Option Ending → ℕ → List Value → Type 0
RunsTo image n ending turns statics = option_map seen_of (RunOf image [] n []) ≡ Some (record { ending = ending; turns = turns; statics = statics })

-- a signature of no parameters that gives a number
abbrev pub plain_sig : Sig
plain_sig = record { params = Junk ∷ Junk ∷ Junk ∷ Junk ∷ Junk ∷ Junk ∷ Junk ∷ []; result = Num }

-- code of one function, without data
abbrev pub plain_image : ℕ → List ℕ → ImageParts
plain_image size code = record {
  heap_words = 64;
  stacks = 2;
  sigs = plain_sig ∷ [];
  functions = record { length = size; sig = 0 } ∷ [];
  entries = 0 ∷ 0 ∷ [];
  classes = [];
  kinds = [];
  statics = [];
  arrays = [];
  code = code;
  blocks = [];
  marks = [];
}

-- one static; MOV EAX, 5; MOV [0x300000], EAX; RET
abbrev pub static_image : ImageParts
static_image = record (plain_image 11 (0xB8 ∷ 5 ∷ 0 ∷ 0 ∷ 0 ∷ 0xA3 ∷ 0 ∷ 0 ∷ 0x30 ∷ 0 ∷ 0xC3 ∷ [])) { statics = field.Num ∷ [] }

abbrev pub StaticIsWritten : Type 0
StaticIsWritten = RunsTo static_image 10 (Some (Halted 5)) 3 (Number 5 ∷ [])

-- one class, whose method is the second function; MOV EAX, its table; CALL [EAX + 44]; RET; and MOV EAX, 9; RET
abbrev pub method_image : ImageParts
method_image = record (plain_image 9 (0xB8 ∷ 0 ∷ 0 ∷ 0x20 ∷ 0 ∷ 0xFF ∷ 0x50 ∷ 0x2C ∷ 0xC3 ∷ 0xB8 ∷ 9 ∷ 0 ∷ 0 ∷ 0 ∷ 0xC3 ∷ [])) {
  functions = record { length = 9; sig = 0 } ∷ record { length = 6; sig = 0 } ∷ [];
  classes = record { parent = None; fields = []; methods = 1 ∷ [] } ∷ [];
  marks = record { offset = 0; tag = 7; index = 0 } ∷ [];
}

abbrev pub MethodIsCalled : Type 0
MethodIsCalled = RunsTo method_image 10 (Some (Halted 9)) 5 []

-- a data array of 5, 6 and 7; MOV EAX, 0; MOV EBX, the array; MOV ECX, 2; CMP ECX, [EBX + 4]; JAE to RET;
-- MOV EAX, [EBX + 4 * ECX + 8]; RET
abbrev pub array_image : ImageParts
array_image = record (plain_image 25 (
    0xB8 ∷ 0 ∷ 0 ∷ 0 ∷ 0 ∷ 0xBB ∷ 0 ∷ 0 ∷ 0x30 ∷ 0 ∷ 0xB9 ∷ 2 ∷ 0 ∷ 0 ∷ 0 ∷ 0x3B ∷ 0x4B ∷ 4 ∷ 0x73 ∷ 4 ∷ 0x8B ∷ 0x44 ∷ 0x8B ∷ 8 ∷ 0xC3 ∷ [])) {
      kinds = record { element = field.Num } ∷ [];
      arrays = record { kind = 0; size = 3; numbers = 5 ∷ 6 ∷ 7 ∷ [] } ∷ [];
      blocks = record { offset = 24; types = Num ∷ Junk ∷ Junk ∷ Junk ∷ Junk ∷ Junk ∷ Junk ∷ []; slots = [] } ∷ [];
      marks = record { offset = 5; tag = 10; index = 0 } ∷ [];
    }

abbrev pub ElementIsRead : Type 0
ElementIsRead = RunsTo array_image 10 (Some (Halted 7)) 7 []

-- MOV EAX, 1; MOV EDX, 0; MOV ECX, 0; DIV ECX; RET
abbrev pub divide_image : ImageParts
divide_image = plain_image 18 (0xB8 ∷ 1 ∷ 0 ∷ 0 ∷ 0 ∷ 0xBA ∷ 0 ∷ 0 ∷ 0 ∷ 0 ∷ 0xB9 ∷ 0 ∷ 0 ∷ 0 ∷ 0 ∷ 0xF7 ∷ 0xF1 ∷ 0xC3 ∷ [])

abbrev pub DivideErrorEnds : Type 0
DivideErrorEnds = RunsTo divide_image 10 (Some (KernelFault 0)) 4 []

-- ---- several stacks

-- what the journal tells of a run, what happened to its devices, its end, and after how many turns it came
pub record Told : Type 0 where
  pub entries : List Entry
  pub devices : History
  pub ending : Option Ending
  pub turns : ℕ

abbrev pub told_of : Run → Told
told_of r = record { entries = r.entries; devices = r.state.devices; ending = r.state.ending; turns = r.state.turns }

-- So many turns of the image with these events come to this end after so many turns; these entries and this history tell of
-- them.
abbrev pub IsTold : ImageParts → List Event → ℕ → List Entry → History → Option Ending → ℕ → Type 0
IsTold image events n entries devices ending turns =
    option_map told_of (RunOf image events n []) ≡ Some (record { entries = entries; devices = devices; ending = ending; turns = turns })

-- in a turn this happened to a stack, with a value
abbrev pub entry_in : ℕ → ℕ → EntryKind → ℕ → Entry
entry_in turn stack kind value = record { turn = turn; stack = stack; kind = kind; value = value }

-- a kernel and applications, which begin at the second function
abbrev pub kernel_image : ℕ → ℕ → List ℕ → List ℕ → ImageParts
kernel_image size other entries code = record (plain_image size code) {
  stacks = length entries;
  functions = record { length = size; sig = 0 } ∷ record { length = other; sig = 0 } ∷ [];
  entries = entries;
}

-- The kernel: MOV EAX, 1; CALL YieldTo; RET. The two applications: MOV EAX, 1; CALL YieldTo; MOV EAX, 64; CALL YieldTo;
-- MOV EAX, 2; CALL YieldTo; MOV EAX, 0; CALL ResetStack; RET
abbrev pub refused_image : ImageParts
refused_image = kernel_image 11 41 (0 ∷ 1 ∷ 1 ∷ []) (
    0xB8 ∷ 1 ∷ 0 ∷ 0 ∷ 0 ∷ 0xE8 ∷ 0x26 ∷ 0x10 ∷ 0xF0 ∷ 0xFF ∷ 0xC3 ∷ 0xB8 ∷ 1 ∷ 0 ∷ 0 ∷ 0 ∷ 0xE8 ∷ 0x1B ∷ 0x10 ∷ 0xF0 ∷ 0xFF
    ∷ 0xB8 ∷ 64 ∷ 0 ∷ 0 ∷ 0 ∷ 0xE8 ∷ 0x11 ∷ 0x10 ∷ 0xF0 ∷ 0xFF ∷ 0xB8 ∷ 2 ∷ 0 ∷ 0 ∷ 0 ∷ 0xE8 ∷ 0x07 ∷ 0x10 ∷ 0xF0 ∷ 0xFF
    ∷ 0xB8 ∷ 0 ∷ 0 ∷ 0 ∷ 0 ∷ 0xE8 ∷ 0x1D ∷ 0x10 ∷ 0xF0 ∷ 0xFF ∷ 0xC3 ∷ [])

abbrev pub RefusalsAreTold : Type 0
RefusalsAreTold = IsTold refused_image [] 13
    (entry_in 2 0 Yield 1 ∷ entry_in 4 1 (Call 3) 1 ∷ entry_in 6 1 (Call 3) 1 ∷ entry_in 8 1 (Call 3) 2 ∷ entry_in 10 1 (Call 5) 2 ∷ entry_in 11 1 Ended 0 ∷ [])
    [] (Some (Halted 262145)) 12

-- The kernel: MOV EAX, 2; CALL StartTimer; MOV EAX, 1; CALL YieldTo; CALL SendEoi; MOV EAX, 1; CALL YieldTo; RET. The
-- application: MOV EAX, 7; RET
abbrev pub ticking_image : ImageParts
ticking_image = kernel_image 36 6 (0 ∷ 1 ∷ []) (
    0xB8 ∷ 2 ∷ 0 ∷ 0 ∷ 0 ∷ 0xE8 ∷ 0x76 ∷ 0x10 ∷ 0xF0 ∷ 0xFF ∷ 0xB8 ∷ 1 ∷ 0 ∷ 0 ∷ 0 ∷ 0xE8 ∷ 0x1C ∷ 0x10 ∷ 0xF0 ∷ 0xFF
    ∷ 0xE8 ∷ 0x77 ∷ 0x10 ∷ 0xF0 ∷ 0xFF ∷ 0xB8 ∷ 1 ∷ 0 ∷ 0 ∷ 0 ∷ 0xE8 ∷ 0x0D ∷ 0x10 ∷ 0xF0 ∷ 0xFF ∷ 0xC3
    ∷ 0xB8 ∷ 7 ∷ 0 ∷ 0 ∷ 0 ∷ 0xC3 ∷ [])

-- a tick in turn 6 interrupts the application at its RET
abbrev pub TickInterrupts : Type 0
TickInterrupts = IsTold ticking_image (record { turn = 6; kind = Tick } ∷ []) 12
    (entry_in 2 0 (Call 8) 0 ∷ entry_in 4 0 Yield 1 ∷ entry_in 6 1 Interrupt 0 ∷ entry_in 7 0 (Call 9) 0 ∷ entry_in 9 0 Yield 1 ∷ entry_in 10 1 Ended 0 ∷ [])
    (Wrote 0x20 0x20 ∷ Granted 0 ∷ Ticked ∷ Wrote 0x40 0 ∷ Wrote 0x40 2 ∷ Wrote 0x43 0x34 ∷ [])
    (Some (Halted 262145)) 11

-- The kernel: MOV EAX, 1; CALL YieldTo; MOV EAX, 1; CALL GetStackState; MOV EAX, 1; CALL ResetStack; CALL ResetStack;
-- CALL GetStackState; CALL GetStackState; CALL StartTimer; MOV ECX, 0x10741; CALL VgaTextWrite; MOV ECX, 0x741;
-- MOV EAX, 2000; CALL VgaTextWrite; CALL SendEoi; CALL TryReadKeyboard; CALL TryReadKeyboard; CALL GetStackState; RET.
-- The application: CALL CurrentStack; MOV EAX, 0; CALL YieldTo; RET
abbrev pub calling_image : ImageParts
calling_image = kernel_image 96 16 (0 ∷ 1 ∷ []) (
    0xB8 ∷ 1 ∷ 0 ∷ 0 ∷ 0 ∷ 0xE8 ∷ 0x26 ∷ 0x10 ∷ 0xF0 ∷ 0xFF ∷ 0xB8 ∷ 1 ∷ 0 ∷ 0 ∷ 0 ∷ 0xE8 ∷ 0x2C ∷ 0x10 ∷ 0xF0 ∷ 0xFF
    ∷ 0xB8 ∷ 1 ∷ 0 ∷ 0 ∷ 0 ∷ 0xE8 ∷ 0x32 ∷ 0x10 ∷ 0xF0 ∷ 0xFF ∷ 0xE8 ∷ 0x2D ∷ 0x10 ∷ 0xF0 ∷ 0xFF ∷ 0xE8 ∷ 0x18 ∷ 0x10 ∷ 0xF0 ∷ 0xFF
    ∷ 0xE8 ∷ 0x13 ∷ 0x10 ∷ 0xF0 ∷ 0xFF ∷ 0xE8 ∷ 0x4E ∷ 0x10 ∷ 0xF0 ∷ 0xFF ∷ 0xB9 ∷ 0x41 ∷ 7 ∷ 1 ∷ 0 ∷ 0xE8 ∷ 0x24 ∷ 0x10 ∷ 0xF0 ∷ 0xFF
    ∷ 0xB9 ∷ 0x41 ∷ 7 ∷ 0 ∷ 0 ∷ 0xB8 ∷ 0xD0 ∷ 7 ∷ 0 ∷ 0 ∷ 0xE8 ∷ 0x15 ∷ 0x10 ∷ 0xF0 ∷ 0xFF ∷ 0xE8 ∷ 0x40 ∷ 0x10 ∷ 0xF0 ∷ 0xFF
    ∷ 0xE8 ∷ 0x1B ∷ 0x10 ∷ 0xF0 ∷ 0xFF ∷ 0xE8 ∷ 0x16 ∷ 0x10 ∷ 0xF0 ∷ 0xFF ∷ 0xE8 ∷ 0xE1 ∷ 0x0F ∷ 0xF0 ∷ 0xFF ∷ 0xC3
    ∷ 0xE8 ∷ 0x3B ∷ 0x10 ∷ 0xF0 ∷ 0xFF ∷ 0xB8 ∷ 0 ∷ 0 ∷ 0 ∷ 0 ∷ 0xE8 ∷ 0xC1 ∷ 0x0F ∷ 0xF0 ∷ 0xFF ∷ 0xC3 ∷ [])

-- the code of a key comes in turn 19
abbrev pub EachCallReplies : Type 0
EachCallReplies = IsTold calling_image (record { turn = 19; kind = Key 30 } ∷ []) 24
    (entry_in 2 0 Yield 1 ∷ entry_in 3 1 (Call 10) 1 ∷ entry_in 5 1 Yield 0 ∷ entry_in 7 0 (Call 4) 2 ∷ entry_in 9 0 (Call 5) 0 ∷ entry_in 10 0 (Call 5) 1
    ∷ entry_in 11 0 (Call 4) 0 ∷ entry_in 12 0 (Call 4) 1 ∷ entry_in 13 0 (Call 8) 1 ∷ entry_in 15 0 (Call 6) 0 ∷ entry_in 18 0 (Call 6) 1 ∷ entry_in 19 0 (Call 9) 1
    ∷ entry_in 20 0 (Call 7) 30 ∷ entry_in 21 0 (Call 7) 256 ∷ entry_in 22 0 (Call 4) 4 ∷ [])
    (Took ∷ Keyed 30 ∷ Drew 1 0x741 ∷ []) (Some (Halted 4)) 23
