-- A turn of the typed machine, and runs.
use Rattle.std.specs.Prelude.{◌≡◌, ℕ, zero, suc, ◌+◌, ◌==◌, Bool, true, ◌&&◌, List, [], ◌∷◌, ◌++◌, filter, Option, Some, None, is_some, if◌then◌else◌}
use Rattle.std.specs.Option.{option_map, option_and_then, option_to_list}
use Rattle.ia32_code.specs.declared.instruction.Reg.TheVariants.{Eax}
use Rattle.ia32_code.specs.declared.instruction.Inst.{Inst}
use Rattle.tal_flow.specs.Rules.{next_address}
use Rattle.tal_image.specs.Image.{ImageParts}
use Rattle.tal_image.specs.Shown.{shown}
use Rattle.device_model.specs.declared.events.Event.{Event}
use Rattle.device_model.specs.History.{Granted}
use Rattle.device_model.specs.Devices.{after_events}
use Rattle.device_model.specs.ItemByItem.{grantable}
use Rattle.stack_states.specs.declared.journal_entry.Entry.{Entry}
use Rattle.stack_states.specs.declared.journal_entry.EntryKind.{EntryKind}
use Rattle.stack_states.specs.declared.journal_entry.EntryKind.TheVariants.{Call, Yield, Interrupt, Fault, Ended}
use Rattle.typed_machine.specs.declared.ending.Ending.{Ending}
use Rattle.typed_machine.specs.declared.ending.Ending.TheVariants.{Halted, KernelFault}
use Rattle.typed_machine.specs.Values.{Value, Number, Word, ObjectShape}
use Rattle.typed_machine.specs.Stores.{need}
use Rattle.typed_machine.specs.States.{State, EmptyStack, YieldedStack, InterruptedStack, fresh_thread, first_state, places_of}
use Rattle.typed_machine.specs.Code.{inst_at}
use Rattle.typed_machine.specs.Effects.{EffectView, Moves, Faults, Calls, Ends, Effect}
use Rattle.typed_machine.specs.Switches.{runs, switched}
use Rattle.typed_machine.specs.Replies.{ReplyView, Replies, YieldsTo, Allocates, Collects, Reply}
use Rattle.typed_machine.specs.Reaching.{Roots}
use Rattle.typed_machine.specs.Placing.{Answer, Gaps, Legal, reply_to, allocated, free_words}

-- what a turn comes to: the state after it, its entry in the journal if it has one, the answers that it has not taken, and
-- whether the one that it took, if it took one, was legal
pub record Turned : Type 0 where
  pub state : State
  pub entry : Option Entry
  pub left : List Answer
  pub legal : Bool

-- a turn that takes no answer
abbrev pub turned : List Answer → Option Entry → State → Turned
turned answers entry s = record { state = s; entry = entry; left = answers; legal = true }

-- ---- before the instruction

-- the events of a turn enter the devices, in the order of the list
abbrev pub events_of : ℕ → List Event → List Event
events_of turn events = filter (λ (event : Event). event.turn == turn) events

-- the state with the turn counted, after the events of that turn
abbrev pub begun : List Event → State → State
begun events s = record s { devices = after_events (events_of (s.turns + 1) events) s.devices; turns = s.turns + 1 }

-- the line that interrupts the running stack, if one does; stack 0 is never interrupted
abbrev pub line_granted : State → Option ℕ
line_granted s = if s.current == 0 then None else grantable s.devices

-- ---- what happens to the running stack

-- the entry of the journal for the running stack
abbrev pub entry_of : EntryKind → ℕ → State → Entry
entry_of kind value s = record { turn = s.turns; stack = s.current; kind = kind; value = value }

-- the running application is put away, and stack 0 goes on with a reply
abbrev pub kernel_goes_on : ImageParts → List Answer → EntryKind → ℕ → ℕ → State → Option Turned
kernel_goes_on image answers kind value reply s =
    option_map (turned answers (Some (entry_of kind value s))) (switched image 0 (Number reply) EmptyStack s)

-- an interrupt of the running application
abbrev pub interrupted : ImageParts → List Answer → ℕ → State → Option Turned
interrupted image answers line s =
    option_map (turned answers (Some (entry_of Interrupt line s)))
    (switched image 0 (Number (131072 + line)) (InterruptedStack s.thread s.values) (record s { devices = Granted line ∷ s.devices }))

-- the run has come to its end, and the turn changes nothing else
abbrev pub ended_by : Ending → List Answer → State → Option Turned
ended_by ending answers s = Some (turned answers None (record s { ending = Some ending }))

-- a fault of the kernel ends the run, that of an application ends the application
abbrev pub faulted : ImageParts → List Answer → ℕ → State → Option Turned
faulted image answers vector s =
    if s.current == 0 then ended_by (KernelFault vector) answers s else kernel_goes_on image answers Fault vector (196608 + vector) s

-- a return to the end word: of the kernel, which halts with EAX, or of an application
abbrev pub returned : ImageParts → List Answer → State → Option Turned
returned image answers s =
    if s.current == 0 then ended_by (Halted (Word (places_of s) (s.thread.regs Eax))) answers s
    else kernel_goes_on image answers Ended 0 (262144 + s.current) s

-- the caller goes on at `next` with a reply in EAX, the other registers 0 and no flag set
abbrev pub comes_back : Value → ℕ → State → State
comes_back reply next s = runs (fresh_thread reply next) s.values s

-- An allocation of entry k takes the next answer, if there is one. The journal has the reply's word, which is the object's place
-- or 0. The answer is legal by the gaps that the roots leave.
abbrev pub answered : ImageParts → ℕ → ℕ → State → ObjectShape → List Answer → Option Turned
answered image next k s shape [] = None
answered image next k s shape (answer ∷ left) =
    Some
    (record {
      state = comes_back (reply_to answer s) next (allocated (shown image).shapes shape answer s);
      entry = Some (entry_of (Call k) (Word (places_of (allocated (shown image).shapes shape answer s)) (reply_to answer s)) s);
      left = left;
      legal = Legal (Gaps image (Roots image next s) s) (need (shown image).shapes shape) answer;
    })

-- What a reply of entry k comes to, where the call comes back to `next`: the caller goes on there; or it waits there, and the
-- stack that it yields to goes on.
abbrev pub replied : ImageParts → List Answer → ℕ → ℕ → State → ReplyView → Option Turned
replied image answers next k s (Replies n t) = Some (turned answers (Some (entry_of (Call k) n s)) (comes_back (Number n) next t))
replied image answers next k s (YieldsTo to) =
    option_map (turned answers (Some (entry_of Yield to s))) (switched image to (Number (65536 + s.current)) (YieldedStack next s.values) s)
replied image answers next k s (Allocates shape) = answered image next k s shape answers
replied image answers next k s Collects =
    Some
    (turned answers (Some (entry_of (Call k) (free_words image (Roots image next s) s) s))
    (comes_back (Number (free_words image (Roots image next s) s)) next s))

-- what an effect comes to, where the instruction at `next` follows
abbrev pub after_effect : ImageParts → List Answer → ℕ → State → EffectView → Option Turned
after_effect image answers next s (Moves t) = Some (turned answers None t)
after_effect image answers next s (Faults vector) = faulted image answers vector s
after_effect image answers next s (Calls k) = option_and_then (replied image answers next k s) (Reply k s)
after_effect image answers next s Ends = returned image answers s

-- the instruction at the running place
abbrev pub instruction : ImageParts → List Answer → State → Option Turned
instruction image answers s =
    option_and_then
    (λ (i : Inst × ℕ). option_and_then (after_effect image answers (next_address s.thread.place i.1) s) (Effect image s i.0 i.1))
    (inst_at image s.thread.place)

-- an interrupt, where a line is granted, and else the instruction
abbrev pub interrupt_or : ImageParts → List Answer → State → Option ℕ → Option Turned
interrupt_or image answers s (Some line) = interrupted image answers line s
interrupt_or image answers s None = instruction image answers s

-- One turn of a machine that has not ended: the events of the turn enter the devices; then one interrupt is accepted, or the
-- instruction at the running place has its effect. None where the step is ill typed, or an allocation has no answer.
unfoldable pub TurnOf : ImageParts → List Event → List Answer → State → Option Turned
TurnOf image events answers s = interrupt_or image answers (begun events s) (line_granted (begun events s))

-- ---- runs

-- where a run has come to, its entries so far, the answers that are left, and whether all that it took were legal
pub record Run : Type 0 where
  pub state : State
  pub entries : List Entry
  pub left : List Answer
  pub legal : Bool

-- a run after a turn more
abbrev pub continued : Run → Turned → Run
continued r t = record { state = t.state; entries = r.entries ++ option_to_list t.entry; left = t.left; legal = r.legal && t.legal }

-- one turn more, unless the run has ended
abbrev pub next_run : ImageParts → List Event → Run → Option Run
next_run image events r =
    if is_some r.state.ending then Some r else option_map (continued r) (TurnOf image events r.left r.state)

-- so many turns from the first state, or until an end; none where a step is ill typed or an answer is wanting
unfoldable pub RunOf : ImageParts → List Event → ℕ → List Answer → Option Run
RunOf image events zero answers = Some (record { state = first_state image; entries = []; left = answers; legal = true })
RunOf image events (suc n) answers = option_and_then (λ r. next_run image events r) (RunOf image events n answers)

-- The run is not stuck, each answer was legal where it was taken, and none is left.
pub record LegalRun (image : ImageParts) (events : List Event) (n : ℕ) (answers : List Answer) (run : Run) : Type 0 where
  pub reached : RunOf image events n answers ≡ Some run
  pub used : run.left ≡ []
  pub legal : run.legal ≡ true
