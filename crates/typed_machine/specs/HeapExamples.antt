-- Small stores, gaps, and runs that allocate, computed by the definitions.
use Rattle.std.specs.Prelude.{◌≡◌, ℕ, Bool, true, false, nat_le, nat_lt, ◌&&◌, List, [], ◌∷◌, map, Option, Some, None}
use Rattle.std.specs.Option.{option_map}
use Rattle.stack_states.specs.declared.journal_entry.Entry.{Entry}
use Rattle.stack_states.specs.declared.journal_entry.EntryKind.TheVariants.{Call}
use Rattle.object_layout.specs.declared.rows.FieldTy.TheVariants as field
use Rattle.object_layout.specs.Classes.{ShapesView}
use Rattle.tal_image.specs.Image.{ImageParts}
use Rattle.typed_machine.specs.declared.ending.Ending.{Ending}
use Rattle.typed_machine.specs.declared.ending.Ending.TheVariants.{Halted}
use Rattle.typed_machine.specs.Values.{Value, Null, Ref, ArrayOf}
use Rattle.typed_machine.specs.Stores.{Object, Store}
use Rattle.typed_machine.specs.Reaching.{Reach}
use Rattle.typed_machine.specs.Placing.{Answer, Placed, Refused, WordRun, runs_from, Legal}
use Rattle.typed_machine.specs.Turns.{Run, RunOf}
use Rattle.typed_machine.specs.Examples.{plain_image, entry_in}

-- arrays of one reference each
abbrev pub one_kind : ShapesView
one_kind = record { classes = []; kinds = record { element = field.ArrRef 0 } ∷ []; funs = []; sigs = 0 }

abbrev pub one_reference : Value → Object
one_reference value = record { shape = ArrayOf 0 1; place = 0x800008; values = value ∷ [] }

-- object 0 refers to 2, 2 to 3, and 3 to 0; object 1 refers to 0 and is referred to by none
abbrev pub ringed : Store
ringed = one_reference (Ref 2) ∷ one_reference (Ref 0) ∷ one_reference (Ref 3) ∷ one_reference (Ref 0) ∷ []

abbrev pub RingIsReached : Type 0
RingIsReached = map (Reach one_kind ringed (Null ∷ Ref 0 ∷ [])) (0 ∷ 1 ∷ 2 ∷ 3 ∷ 4 ∷ []) ≡ (true ∷ false ∷ true ∷ true ∷ false ∷ [])

-- 16 words, of which 4 to 7 are taken
abbrev pub two_gaps : List WordRun
two_gaps = runs_from (λ k. nat_le 4 k && nat_lt k 8) 0 0 16

-- A gap of 4 and one of 8 words: what needs 4 or 8 words is placed at a multiple of 4 words in one of them and not refused; what
-- needs 12 is refused.
abbrev pub GapsDecide : Type 0
GapsDecide =
    (two_gaps ≡ (record { first = 0; count = 4 } ∷ record { first = 8; count = 8 } ∷ []))
    × (map (Legal two_gaps 4) (Placed 0x800008 ∷ Placed 0x800018 ∷ Placed 0x800028 ∷ Placed 0x800038 ∷ Placed 0x80000C ∷ Placed 0x800048 ∷ Refused ∷ [])
    ≡ (true ∷ false ∷ true ∷ true ∷ false ∷ false ∷ false ∷ []))
    × (map (Legal two_gaps 8) (Placed 0x800008 ∷ Placed 0x800028 ∷ Placed 0x800038 ∷ Refused ∷ []) ≡ (false ∷ true ∷ false ∷ false ∷ []))
    × (map (Legal two_gaps 12) (Placed 0x800008 ∷ Placed 0x800028 ∷ Refused ∷ []) ≡ (false ∷ false ∷ true ∷ []))

-- ---- runs that allocate

-- what the journal tells of a run, its end, the answers that are left, and whether those that it took were legal
pub record AnsweredRun : Type 0 where
  pub entries : List Entry
  pub ending : Option Ending
  pub left : List Answer
  pub legal : Bool

abbrev pub answered_run : Run → AnsweredRun
answered_run r = record { entries = r.entries; ending = r.state.ending; left = r.left; legal = r.legal }

-- with these answers the run halts with a number in EAX; the entries of its calls tell of it; no answer is left
abbrev pub HaltsWith : ImageParts → List Answer → List Entry → ℕ → Bool → Type 0
HaltsWith image answers entries eax legal =
    option_map answered_run (RunOf image [] 8 answers) ≡ Some (record { entries = entries; ending = Some (Halted eax); left = []; legal = legal })

-- one class without fields; MOV EAX, its table; CALL AllocObject; MOV [0x300000], EAX; CALL GarbageCollect; RET
abbrev pub keeping_image : ImageParts
keeping_image = record (plain_image 21 (
    0xB8 ∷ 0 ∷ 0 ∷ 0x20 ∷ 0 ∷ 0xE8 ∷ 0xF6 ∷ 0x0F ∷ 0xF0 ∷ 0xFF ∷ 0xA3 ∷ 0 ∷ 0 ∷ 0x30 ∷ 0 ∷ 0xE8 ∷ 0x0C ∷ 0x10 ∷ 0xF0 ∷ 0xFF ∷ 0xC3 ∷ [])) {
      classes = record { parent = None; fields = []; methods = [] } ∷ [];
      statics = field.Ref 0 ∷ [];
      marks = record { offset = 0; tag = 7; index = 0 } ∷ [];
    }

-- The object takes 4 of the 64 words of the heap, and the static holds it when the collection comes. A place that is no multiple of
-- 4 words, and a refusal, are not legal; without an answer there is no turn.
abbrev pub ObjectIsKept : Type 0
ObjectIsKept =
    HaltsWith keeping_image (Placed 0x800008 ∷ []) (entry_in 2 0 (Call 0) 0x800008 ∷ entry_in 4 0 (Call 2) 60 ∷ []) 60 true
    × HaltsWith keeping_image (Placed 0x80000C ∷ []) (entry_in 2 0 (Call 0) 0x80000C ∷ entry_in 4 0 (Call 2) 60 ∷ []) 60 false
    × HaltsWith keeping_image (Refused ∷ []) (entry_in 2 0 (Call 0) 0 ∷ entry_in 4 0 (Call 2) 64 ∷ []) 64 false
    × (RunOf keeping_image [] 2 [] ≡ None)

-- the same without the MOV to the static
abbrev pub dropping_image : ImageParts
dropping_image = record keeping_image { code = 0xB8 ∷ 0 ∷ 0 ∷ 0x20 ∷ 0 ∷ 0xE8 ∷ 0xF6 ∷ 0x0F ∷ 0xF0 ∷ 0xFF ∷ 0xE8 ∷ 0x11 ∷ 0x10 ∷ 0xF0 ∷ 0xFF ∷ 0xC3 ∷ [] }

-- the caller's registers are no roots
abbrev pub ObjectIsDropped : Type 0
ObjectIsDropped = HaltsWith dropping_image (Placed 0x800008 ∷ []) (entry_in 2 0 (Call 0) 0x800008 ∷ entry_in 3 0 (Call 2) 64 ∷ []) 64 true

-- arrays of numbers; MOV EAX, their descriptor; MOV ECX, 100; CALL AllocArray; MOV EAX, 7; RET
abbrev pub asking_image : ImageParts
asking_image = record (plain_image 21 (
    0xB8 ∷ 0 ∷ 0 ∷ 0x28 ∷ 0 ∷ 0xB9 ∷ 100 ∷ 0 ∷ 0 ∷ 0 ∷ 0xE8 ∷ 0x01 ∷ 0x10 ∷ 0xF0 ∷ 0xFF ∷ 0xB8 ∷ 7 ∷ 0 ∷ 0 ∷ 0 ∷ 0xC3 ∷ [])) {
      kinds = record { element = field.Num } ∷ [];
      marks = record { offset = 0; tag = 8; index = 0 } ∷ [];
    }

-- an array that the heap has no room for is refused
abbrev pub ArrayIsRefused : Type 0
ArrayIsRefused = HaltsWith asking_image (Refused ∷ []) (entry_in 3 0 (Call 1) 0 ∷ []) 7 true

abbrev pub AllocationsAreTold : Type 0
AllocationsAreTold = ObjectIsKept × ObjectIsDropped × ArrayIsRefused
