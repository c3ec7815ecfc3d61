-- Where leaving, yields, replies and interrupts lead processor and Nucleus: as the turn leads the state.
use Rattle.std.specs.Prelude.{slice_index}
use Rattle.std.specs.Option.{option_map}
use Rattle.std.proofs.Common.{◌≡◌, ◌≢◌, ◌==◌, ℕ, ◌+◌, Bool, false, List, [], ◌∷◌, ◌++◌, length, Option, Some, slice_get, inl, inr, refl, sym, ap, ◌∙◌, arith}
use Rattle.std.proofs.lemmas.Bool.Decides.{nat_tests}
use Rattle.ia32_step.specs.declared.cpu.Cpu.{Cpu}
use Rattle.stack_states.specs.declared.journal_entry.Entry.{Entry}
use Rattle.stack_states.specs.declared.journal_entry.EntryKind.{EntryKind}
use Rattle.stack_states.specs.declared.journal_entry.EntryKind.TheVariants.{Call, Yield, Interrupt}
use Rattle.stack_states.specs.declared.stack_state.StackState.{StackState}
use Rattle.stack_states.specs.declared.stack_state.StackState.TheVariants.{Empty, Yielded, Interrupted}
use Rattle.stack_states.specs.StackTable.{OneRuns, current_of}
use Rattle.stack_states.specs.StackTable as table
use Rattle.device_model.specs.History.{History, Granted}
use Rattle.device_model.specs.Devices.{DevicesView, StandsFor}
use Rattle.tal_image.specs.Image.{ImageParts}
use Rattle.typed_machine.specs.Values.{Number}
use Rattle.typed_machine.specs.States.{State, EmptyStack, YieldedStack, InterruptedStack, fresh_thread}
use Rattle.typed_machine.specs.Effects.{Calls}
use Rattle.typed_machine.specs.Switches.{runs}
use Rattle.typed_machine.specs.Replies.{YieldsTo, Reply}
use Rattle.typed_machine.specs.Placing.{Answer}
use Rattle.typed_machine.specs.Turns.{turned, entry_of, kernel_goes_on, interrupted, after_effect}
use Rattle.typed_machine.specs.Typing.{TypedAmong}
use Rattle.typed_machine.specs.Words.{stack_pointer}
use Rattle.word_machine.specs.Memory.{MemoryView}
use Rattle.word_machine.specs.Standing.{values_at, kept_values}
use Rattle.word_machine.specs.Laws.{EmptyStacksAreFree}
use Rattle.nucleus_calls.specs.declared.outcome.Leaving.{Leaving}
use Rattle.nucleus_calls.specs.declared.outcome.Leaving.TheVariants as leaving
use Rattle.nucleus_calls.specs.Nucleus.{NucleusView, NucleusStands}
use Rattle.nucleus_calls.specs.Turning.{StandsBefore, Leads, leaving_effect}
use Rattle.nucleus_calls.specs.Calling.{fresh_cpu, GoesOn, RepliesAt, kind_of, value_of, reply_of}
use Rattle.nucleus_calls.proofs.Restacked.{restacked}
use Rattle.nucleus_calls.proofs.Switched.{current-is, fresh-stands, SwitchStands, switch-stands}

-- the Nucleus with other memory, stacks and devices
abbrev pub with_parts : NucleusView → MemoryView → List StackState → DevicesView → NucleusView
with_parts v memory stacks devices = record { memory = memory; stacks = stacks; starts = v.starts; devices = devices; index = v.index; marks = v.marks }

-- an entry with the words that the code puts in it
abbrev pub entry_at : ℕ → ℕ → EntryKind → ℕ → Entry
entry_at turn stack kind value = record { turn = turn; stack = stack; kind = kind; value = value }

-- an entry for the running stack is this
entry-same : (s : State) (turn current : ℕ) (kind : EntryKind) (value : ℕ) → s.turns ≡ turn → current ≡ s.current → entry_at turn current kind value ≡ entry_of kind value s
entry-same s turn current kind value turns is = rw (← turns, is) refl

-- a switch leads to what a turn comes to that switches
switch-leads : (image : ImageParts) (live : ℕ → Bool) (s : State) (answers : List Answer) (before : List Entry) (entry made : Entry) (o : Option State) (cpu : Cpu) (v : NucleusView)
    → made ≡ entry → SwitchStands image live s o cpu v → Leads image live s answers before (before ++ made ∷ []) cpu v (option_map (turned answers (Some entry)) o)
switch-leads image live s answers before entry made o cpu v same sw = (
  turned answers (Some entry) sw.state,
  rw sw.is refl,
  record { processor = sw.processor; nucleus = sw.nucleus; entries = rw same refl; same_turn = sw.same_turn; left = refl },
)

-- ---- an application leaves

-- what the turn comes to
leaving-turn : (image : ImageParts) (answers : List Answer) (next : ℕ) (s : State) (why : Leaving) → s.current ≢ 0
    → after_effect image answers next s (leaving_effect why) ≡ kernel_goes_on image answers (kind_of why) (value_of why) (reply_of why s.current) s
leaving-turn image answers next s (leaving.Fault vector) other = let e : (s.current == 0) ≡ false = grind (arith, nat_tests) in rw e refl
leaving-turn image answers next s leaving.Ended other = let e : (s.current == 0) ≡ false = grind (arith, nat_tests) in rw e refl

pub leave-leads : EmptyStacksAreFree → (image : ImageParts) (live : ℕ → Bool) (s : State) (next : ℕ) (cpu : Cpu) (v : NucleusView) → StandsBefore image live s next cpu v
    → OneRuns v.stacks → current_of v.stacks ≢ 0 → (was : StackState) → slice_get v.stacks 0 ≡ Some was → (start : ℕ) → slice_get v.starts 0 ≡ Some start
    → (why : Leaving) (ran : Cpu) (after : MemoryView) → GoesOn start 0 (reply_of why (current_of v.stacks)) was v.memory ran after
    → (turn : ℕ) → s.turns ≡ turn → (before : List Entry) (answers : List Answer)
    → Leads image live s answers before (before ++ entry_at turn (current_of v.stacks) (kind_of why) (value_of why) ∷ []) ran
    (with_parts v after (table.handed_over v.stacks Empty 0) v.devices) (after_effect image answers next s (leaving_effect why))
unfolding kept_values
leave-leads law image live s next cpu v h one application was waits start starts why ran after went turn turns before answers =
    let current = current-is h.typed h.nucleus one in
    let other : s.current ≢ 0 = λ e. application (current ∙ e) in
    rw (leaving-turn image answers next s why other)
    (switch-leads image live s answers before _ _ _ ran _ (entry-same s turn (current_of v.stacks) (kind_of why) (value_of why) turns current)
    (switch-stands law image live s v h.well_typed h.typed h.nucleus one 0 (λ e. application (sym e)) was waits start starts EmptyStack (inr refl)
    (reply_of why s.current) ran after (rw current at went)))

-- ---- a yield

pub yield_leads : EmptyStacksAreFree → (image : ImageParts) (live : ℕ → Bool) (s : State) (next : ℕ) (cpu : Cpu) (v : NucleusView) → StandsBefore image live s next cpu v
    → OneRuns v.stacks → (to : ℕ) → to ≢ current_of v.stacks → (was : StackState) → slice_get v.stacks to ≡ Some was → (start : ℕ) → slice_get v.starts to ≡ Some start
    → (k : ℕ) → Reply k s ≡ Some (YieldsTo to) → (ran : Cpu) (after : MemoryView) → GoesOn start to (65536 + current_of v.stacks) was v.memory ran after
    → (turn : ℕ) → s.turns ≡ turn → (before : List Entry) (answers : List Answer)
    → Leads image live s answers before (before ++ entry_at turn (current_of v.stacks) Yield to ∷ []) ran
    (with_parts v after (table.handed_over v.stacks (Yielded (slice_index cpu.regs 4) cpu.pc) to) v.devices) (after_effect image answers next s (Calls k))
unfolding kept_values
yield_leads law image live s next cpu v h one to other was waits start starts k reply ran after went turn turns before answers =
    let current = current-is h.typed h.nucleus one in
    rw (reply, h.processor.regs, h.processor.place)
    (switch-leads image live s answers before _ _ _ ran _ (entry-same s turn (current_of v.stacks) Yield to turns current)
    (switch-stands law image live s v h.well_typed h.typed h.nucleus one to other was waits start starts (YieldedStack next s.values) (inl refl)
    (65536 + s.current) ran after (rw current at went)))

-- ---- a reply at once

-- The Nucleus stands for a state whose caller goes on.
caller-goes-on : (image : ImageParts) (live : ℕ → Bool) (t : State) (v : NucleusView) (reply next : ℕ) → NucleusStands image live t v
    → NucleusStands image live (runs (fresh_thread (Number reply) next) t.values t) v
unfolding values_at
caller-goes-on image live t v reply next h = record {
  memory = restacked image live t (runs (fresh_thread (Number reply) next) t.values t) v.memory h.memory refl refl h.memory.stacks;
  stacks = h.stacks;
  starts = h.starts;
  devices = h.devices;
  marks = h.marks;
}

pub reply-leads : (image : ImageParts) (live : ℕ → Bool) (s : State) (next : ℕ) (cpu : Cpu) (v : NucleusView) → StandsBefore image live s next cpu v → OneRuns v.stacks
    → (k reply : ℕ) (after : NucleusView) → RepliesAt image live s reply (Reply k s) after
    → (turn : ℕ) → s.turns ≡ turn → (before : List Entry) (answers : List Answer)
    → Leads image live s answers before (before ++ entry_at turn (current_of v.stacks) (Call k) reply ∷ []) (fresh_cpu reply (slice_index cpu.regs 4) cpu.pc) after
    (after_effect image answers next s (Calls k))
reply-leads image live s next cpu v h one k reply after r turn turns before answers = (
  turned answers (Some (entry_of (Call k) reply s)) (runs (fresh_thread (Number reply) next) r.state.values r.state),
  rw r.replies refl,
  record {
    processor = rw h.processor.place (fresh-stands _ reply _ _ refl esp);
    nucleus = caller-goes-on image live r.state after reply next r.nucleus;
    entries = ap (λ (e : Entry). before ++ e ∷ []) (entry-same s turn (current_of v.stacks) (Call k) reply turns (current-is h.typed h.nucleus one));
    same_turn = record { turns = r.kept.same_turn.turns; ending = r.kept.same_turn.ending };
    left = refl;
  },
)
  where
    esp : slice_index cpu.regs 4 ≡ stack_pointer r.state.current (length r.state.values)
    esp = rw (h.processor.regs, r.kept.current, r.kept.values) refl

-- ---- an interrupt

-- the devices change
pub devices-stand : (image : ImageParts) (live : ℕ → Bool) (s : State) (v : NucleusView) (history : History) (devices : DevicesView) → NucleusStands image live s v
    → StandsFor devices history → NucleusStands image live (record s { devices = history }) (with_parts v v.memory v.stacks devices)
unfolding values_at
devices-stand image live s v history devices h stand = record {
  memory = restacked image live s (record s { devices = history }) v.memory h.memory refl refl h.memory.stacks;
  stacks = h.stacks;
  starts = h.starts;
  devices = stand;
  marks = h.marks;
}

devices-typed : (image : ImageParts) (live : ℕ → Bool) (s : State) (history : History) → TypedAmong image live s → TypedAmong image live (record s { devices = history })
devices-typed image live s history h =
    record { thread = h.thread; others = h.others; one = h.one; only = h.only; kernel = h.kernel; count = h.count; statics = h.statics; store = h.store }

-- a switch from the state with another history is one in its turn
retold_switch : (image : ImageParts) (live : ℕ → Bool) (s : State) (history : History) (o : Option State) (cpu : Cpu) (v : NucleusView)
    → SwitchStands image live (record s { devices = history }) o cpu v → SwitchStands image live s o cpu v
retold_switch image live s history o cpu v sw = record {
  state = sw.state;
  is = sw.is;
  same_turn = record { turns = sw.same_turn.turns; ending = sw.same_turn.ending };
  processor = sw.processor;
  nucleus = sw.nucleus;
}

pub interrupt-leads : EmptyStacksAreFree → (image : ImageParts) (live : ℕ → Bool) (s : State) (cpu : Cpu) (v : NucleusView) → StandsBefore image live s s.thread.place cpu v
    → OneRuns v.stacks → current_of v.stacks ≢ 0 → (was : StackState) → slice_get v.stacks 0 ≡ Some was → (start : ℕ) → slice_get v.starts 0 ≡ Some start
    → (line : ℕ) (devices : DevicesView) → StandsFor devices (Granted line ∷ s.devices)
    → (ran : Cpu) (after : MemoryView) → GoesOn start 0 (131072 + line) was v.memory ran after
    → (turn : ℕ) → s.turns ≡ turn → (before : List Entry) (answers : List Answer)
    → Leads image live s answers before (before ++ entry_at turn (current_of v.stacks) Interrupt line ∷ []) ran
    (with_parts v after (table.handed_over v.stacks (Interrupted cpu.regs cpu.flags cpu.pc) 0) devices) (interrupted image answers line s)
unfolding kept_values
interrupt-leads law image live s cpu v h one application was waits start starts line devices stand ran after went turn turns before answers =
    let current = current-is h.typed h.nucleus one in
    let granted : NucleusStands image live (record s { devices = Granted line ∷ s.devices }) (with_parts v v.memory v.stacks devices) =
    devices-stand image live s v (Granted line ∷ s.devices) devices h.nucleus stand in
    rw (h.processor.regs, h.processor.flags, h.processor.place)
    (switch-leads image live s answers before _ _ _ ran _ (entry-same s turn (current_of v.stacks) Interrupt line turns current)
    (retold_switch image live s (Granted line ∷ s.devices) _ _ _
    (switch-stands law image live (record s { devices = Granted line ∷ s.devices }) (with_parts v v.memory v.stacks devices) h.well_typed
    (devices-typed image live s (Granted line ∷ s.devices) h.typed) granted one 0 (λ e. application (sym e)) was waits start starts
    (InterruptedStack s.thread s.values) (inl refl) (131072 + line) ran after went)))
