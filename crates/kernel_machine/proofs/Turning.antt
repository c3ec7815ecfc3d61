-- A turn of a machine leads on as the typed machine's turn does, from every typed state that the machine stands for.
use Rattle.std.specs.Prelude.{IsSome, ◌&&◌}
use Rattle.std.specs.Option.{option_to_list}
use Rattle.std.proofs.Common.{◌≡◌, ◌≢◌, ◌⊎◌, inl, inr, ℕ, ◌+◌, ◌-◌, ◌≤◌, Bool, true, false, List, [], ◌++◌, length, drop, Option, Some, None, nat_le, is_some, refl, sym, ◌∙◌, ap, append-nil, add-one, arith}
use Rattle.std.proofs.lemmas.Bool.Decides.{nat_tests}
use Rattle.ia32_code.specs.declared.instruction.Inst.{Inst}
use Rattle.ia32_code.specs.Decoding.{decoded, instruction_of}
use Rattle.ia32_step.specs.declared.cpu.Cpu.{Cpu}
use Rattle.object_layout.specs.Areas.{code_start}
use Rattle.object_layout.specs.Classes.{ShapesView}
use Rattle.device_model.specs.declared.events.Event.{Event}
use Rattle.device_model.specs.History.{History}
use Rattle.device_model.specs.Devices.{after_events}
use Rattle.stack_states.specs.declared.journal_entry.Entry.{Entry}
use Rattle.frame_tables.specs.FrameRows.{RowAt}
use Rattle.tal_image.specs.Image.{ImageParts}
use Rattle.tal_image.specs.Shown.{shown}
use Rattle.tal_checker.specs.Frames.{frames_of}
use Rattle.tal_checker.specs.WellTyped.{WellTyped}
use Rattle.tal_checker.specs.Running.{AcceptedRuns}
use Rattle.typed_machine.specs.declared.ending.Ending.{Ending}
use Rattle.typed_machine.specs.Values.{all_objects}
use Rattle.typed_machine.specs.States.{State}
use Rattle.typed_machine.specs.Code.{inst_at}
use Rattle.typed_machine.specs.Placing.{Answer}
use Rattle.typed_machine.specs.Turns.{Turned, begun, events_of, line_granted, interrupted, instruction, interrupt_or, TurnOf, Run, continued, RunOf}
use Rattle.typed_machine.specs.Reaching.{Held, live_in}
use Rattle.typed_machine.specs.Typing.{TypedAmong, Typed}
use Rattle.typed_safety.specs.Laws.{WellTypedImagesKeepTyping, RunsAreTyped}
use Rattle.word_machine.specs.Laws.{StandingFalls}
use Rattle.nucleus_calls.specs.Nucleus.{NucleusView, NucleusStands}
use Rattle.nucleus_calls.specs.Turning.{StandsBefore, Leads}
use Rattle.kernel_machine.specs.Machine.{MachineView, Stands, Follows, ComesNext, Lawful, answers_of}
use Rattle.kernel_machine.specs.Stepping.{viewed, HasCome, TurnLeads, InTurn, ActsAt, MayAct, TakesTurn, TurnLaws}
use Rattle.kernel_machine.proofs.EffectsLead.{nucleus_retold, leads-on}
use Rattle.kernel_machine.proofs.NoAnswers.{interrupt-tells-none, answers-append}
use Rattle.kernel_machine.proofs.MoreAnswers.{run_extended, run-extends}

-- ---- the instruction

-- what `inst_in` asks of the place of a machine: an instruction stands there, within the code
pub record InstHere (image : ImageParts) (place : ℕ) : Type 0 where
  pub low : code_start ≤ place
  pub inside : place ≤ code_start + length image.code
  pub whole : IsSome (inst_at image place)

pub inst_here : WellTypedImagesKeepTyping → AcceptedRuns → (m : MachineView) (index : ℕ) → Lawful m index → InstHere m.image m.cpu.pc
inst_here law accepted m index h =
    let keeps = law m.image h.well_typed all_objects h.state h.typed.among in
    let at = (accepted m.image h.well_typed).spelled h.state.thread.place keeps.placed keeps.here in
    let there : InstHere m.image h.state.thread.place =
    record { low = at.after_start; inside = omega (arith, at.before_end); whole = rw keeps.spelled refl } in
    rw h.stands.processor.place there

-- from the code's start on, what stands at an address is what the bytes from there begin with
pub front-there : (image : ImageParts) (place : ℕ) → code_start ≤ place → inst_at image place ≡ instruction_of (decoded (drop (place - code_start) image.code))
unfolding inst_at
front-there image place h =
    let low : nat_le code_start place ≡ true = grind (arith, nat_tests, h) in
    rw low refl

-- ---- the beginning of a turn

-- devices, turns and the end have no types
typed-retold : (image : ImageParts) (live : ℕ → Bool) (s : State) (devices : History) (turns : ℕ) (ending : Option Ending)
    → TypedAmong image live s → TypedAmong image live (record s { devices = devices; turns = turns; ending = ending })
typed-retold image live s devices turns ending h =
    record { thread = h.thread; others = h.others; one = h.one; only = h.only; kernel = h.kernel; count = h.count; statics = h.statics; store = h.store }

-- nor are they reached
begun-lives : (image : ImageParts) (events : List Event) (s : State) → live_in image (begun events s) ≡ live_in image s
unfolding live_in Held
begun-lives image events s = refl

-- what the code's proofs know of a machine that has not ended, once the events of its turn have come
pub record Begun (image : ImageParts) (events : List Event) (cpu : Cpu) (v come : NucleusView) (turns : ℕ) (ending : Option Ending) (index : ℕ) : Type 0 where
  pub laws : TurnLaws
  pub lawful : Lawful (viewed image events cpu v turns ending) index
  pub on : ending ≡ None
  pub has_come : HasCome (events_of (turns + 1) events) v come

pub begun-turn : {image : ImageParts} {events : List Event} {cpu : Cpu} {v come : NucleusView} {turns : ℕ} {ending : Option Ending} {index : ℕ} → TurnLaws
    → Lawful (viewed image events cpu v turns ending) index → ending ≡ None → HasCome (events_of (turns + 1) events) v come → Begun image events cpu v come turns ending index
begun-turn laws lawful on has-come = record { laws = laws; lawful = lawful; on = on; has_come = has-come }

-- the Nucleus stands for the state at which they have come
come_stands : (image : ImageParts) (live : ℕ → Bool) (events : List Event) (v come : NucleusView) (turns : ℕ) (s : State) → HasCome (events_of (turns + 1) events) v come
    → turns ≡ s.turns → NucleusStands image live s v → NucleusStands image live (begun events s) come
come_stands image live events v come turns s has-come same stands =
    let came : NucleusStands image live (record s { devices = after_events (events_of (s.turns + 1) events) s.devices }) come = rw same at (has-come image live s stands) in
    nucleus_retold image live (record s { devices = after_events (events_of (s.turns + 1) events) s.devices }) come (s.turns + 1) s.ending came

module _ {image : ImageParts} {events : List Event} {cpu : Cpu} {v come : NucleusView} {turns : ℕ} {ending : Option Ending} {index : ℕ}
    (h : Begun image events cpu v come turns ending index) where
  -- processor and Nucleus stand for it, among the objects that a run can come to
  pub begun-before : (s : State) → Typed image s → Stands (viewed image events cpu v turns ending) s
      → StandsBefore image (live_in image s) (begun events s) s.thread.place cpu come
  begun-before s typed stands = record {
    well_typed = h.lawful.well_typed;
    typed = typed-retold image (live_in image s) s _ _ s.ending (h.laws.least image h.lawful.well_typed all_objects s typed.among).typed;
    processor = record { regs = stands.processor.regs; flags = stands.processor.flags; place = stands.processor.place };
    nucleus = come_stands image (live_in image s) events v come turns s h.has_come stands.turns stands.nucleus;
  }

  -- it is in the turn
  begun-now : (s : State) → Stands (viewed image events cpu v turns ending) s → InTurn (turns + 1) (begun events s)
  begun-now s stands = record { turns = ap (λ n. n + 1) (sym stands.turns); on = sym stands.ending ∙ h.on }

  -- the instruction of the processor's place acts at it
  begun-acts : (i : Inst) (len : ℕ) → inst_at image cpu.pc ≡ Some (i, len) → (shapes : ShapesView) (table : List RowAt) → shapes ≡ (shown image).shapes → table ≡ frames_of image
      → (s : State) → Typed image s → Stands (viewed image events cpu v turns ending) s → ActsAt image (begun events s) i len shapes table cpu come
  begun-acts i len here shapes table classes rows s typed stands =
      let lives = begun-lives image events s in
      record {
        at = rw lives (record { before = begun-before s typed stands; here = rw stands.processor.place at here });
        typed = record { among = typed-retold image all_objects s _ _ s.ending typed.among; heap = rw lives typed.heap };
        classes = classes;
        rows = rows;
      }

  -- the instruction may act
  pub may_act : (i : Inst) (len : ℕ) → inst_at image cpu.pc ≡ Some (i, len) → (shapes : ShapesView) (table : List RowAt) → shapes ≡ (shown image).shapes → table ≡ frames_of image
      → MayAct i len shapes table cpu come
  may_act i len here shapes table classes rows =
      let s = h.lawful.state in
      (image, begun events s, begun-acts i len here shapes table classes rows s h.lawful.typed h.lawful.stands)

  -- what `accept` tells of the line that is granted
  abbrev pub Grants : Bool → Type 0
  Grants accepted = (image : ImageParts) (live : ℕ → Bool) (s : State) → TypedAmong image live s → NucleusStands image live s come → accepted ≡ is_some (line_granted s)

  -- an interrupt is accepted, and the machine takes a turn
  pub accept-takes : Grants true → (entries more : List Entry) (ran : Cpu) (after : NucleusView)
      → ((image : ImageParts) (live : ℕ → Bool) (s : State) → StandsBefore image live s s.thread.place cpu come → s.turns ≡ turns + 1
      → (line : ℕ) → line_granted s ≡ Some line → (answers : List Answer) → Leads image live s answers entries more ran after (interrupted image answers line s))
      → TakesTurn (viewed image events cpu v turns ending) (viewed image events ran after (turns + 1) ending) entries more
  unfolding TurnOf
  accept-takes grants entries more ran after led = record {
    image = refl;
    events = refl;
    turns = refl;
    leads = λ s typed stands left.
        let before = begun-before s typed stands in
        go (live_in image s) (begun events s) left before (begun-now s stands) (line_granted (begun events s)) refl
        (grants image (live_in image s) (begun events s) before.typed before.nucleus);
  }
    where
      go : (live : ℕ → Bool) (s : State) (left : List Answer) → StandsBefore image live s s.thread.place cpu come → InTurn (turns + 1) s
          → (o : Option ℕ) → line_granted s ≡ o → true ≡ is_some o
          → TurnLeads image live (turns + 1) left entries more ran after ending (λ answers. interrupt_or image answers s o)
      go live s left before now None line granted = absurd (cc)
      go live s left before now (Some n) line granted =
          rw h.on (leads-on image live (turns + 1) s left entries more ran after (λ answers. interrupted image answers n s) (interrupt-tells-none image left n s) now
          (led image live s before now.turns n line left))

  -- none is, and the instruction has its effect
  pub act-takes : Grants false → (i : Inst) (len : ℕ) → inst_at image cpu.pc ≡ Some (i, len) → (shapes : ShapesView) (table : List RowAt)
      → shapes ≡ (shown image).shapes → table ≡ frames_of image → (entries more : List Entry) (ran : Cpu) (after : NucleusView) (end : Option Ending)
      → ((image : ImageParts) (s : State) → ActsAt image s i len shapes table cpu come → InTurn (turns + 1) s → (left : List Answer)
      → TurnLeads image (live_in image s) (turns + 1) left entries more ran after end (λ answers. instruction image answers s))
      → TakesTurn (viewed image events cpu v turns ending) (viewed image events ran after (turns + 1) end) entries more
  unfolding TurnOf
  act-takes grants i len here shapes table classes rows entries more ran after end led = record {
    image = refl;
    events = refl;
    turns = refl;
    leads = λ s typed stands left.
        let acts = begun-acts i len here shapes table classes rows s typed stands in
        rw (begun-lives image events s) at
        (go (begun events s) left acts (begun-now s stands) (line_granted (begun events s))
        (grants image (live_in image (begun events s)) (begun events s) acts.at.before.typed acts.at.before.nucleus));
  }
    where
      go : (s : State) (left : List Answer) → ActsAt image s i len shapes table cpu come → InTurn (turns + 1) s
          → (o : Option ℕ) → false ≡ is_some o
          → TurnLeads image (live_in image s) (turns + 1) left entries more ran after end (λ answers. interrupt_or image answers s o)
      go s left acts now None granted = led image s acts now left
      go s left acts now (Some n) granted = absurd (cc)

-- ---- after a turn

-- a Nucleus that stands among objects stands among fewer
nucleus_falls : StandingFalls → (image : ImageParts) (more live : ℕ → Bool) (s : State) (v : NucleusView) → ((i : ℕ) → live i ≡ true → more i ≡ true)
    → NucleusStands image more s v → NucleusStands image live s v
nucleus_falls law image more live s v fewer h =
    record { memory = law image more live s v.memory fewer h.memory; stacks = h.stacks; starts = h.starts; devices = h.devices; marks = h.marks }

-- what a turn from a typed state comes to: the state is typed, and the machine stands for it
pub record TurnComesTo (before after : MachineView) (entries more : List Entry) (s : State) (left : List Answer) : Type 0 where
  pub told : List Answer
  pub comes_to : Turned
  pub is : TurnOf before.image before.events (told ++ left) s ≡ Some comes_to
  pub typed : Typed after.image comes_to.state
  pub stands : Stands after comes_to.state
  pub entries_are : more ≡ entries ++ option_to_list comes_to.entry
  pub tells : answers_of (option_to_list comes_to.entry) ≡ told
  pub others : comes_to.left ≡ left
  pub legal : comes_to.legal ≡ true

pub turn-comes-to : TurnLaws → (before after : MachineView) (entries more : List Entry) → WellTyped before.image → TakesTurn before after entries more
    → (s : State) → Typed before.image s → Stands before s → (left : List Answer) → TurnComesTo before after entries more s left
turn-comes-to laws before after entries more w takes s typed stands left =
    let (told, r, is, led) = takes.leads s typed stands left in
    record {
      told = told;
      comes_to = r;
      is = is;
      typed = rw takes.image ((rw is at (laws.typing before.image w before.events (told ++ left) s typed)) led.legal);
      stands = record {
        processor = led.processor;
        nucleus = rw takes.image (nucleus told r is led.others led.legal led.nucleus);
        turns = led.turns;
        ending = led.ending;
      };
      entries_are = led.entries;
      tells = led.tells;
      others = led.others;
      legal = led.legal;
    }
  where
    live : ℕ → Bool
    live = live_in before.image s

    -- where no answer was taken, what a run can come to it could come to before
    fewer : (told : List Answer) (r : Turned) → TurnOf before.image before.events (told ++ left) s ≡ Some r → r.left ≡ left → r.legal ≡ true → told ≡ []
        → (i : ℕ) → live_in before.image r.state i ≡ true → live i ≡ true
    fewer told r is others legal none i lives = go (laws.shrinks before.image w before.events (told ++ left) s typed r is legal i lives)
      where
        go : (live i ≡ true) ⊎ ((r.left ≢ told ++ left) × (i ≡ length s.store)) → live i ≡ true
        go (inl h) = h
        go (inr (taken, new)) = absurd (taken (others ∙ (rw none refl)))

    nucleus : (told : List Answer) (r : Turned) → TurnOf before.image before.events (told ++ left) s ≡ Some r → r.left ≡ left → r.legal ≡ true
        → ((told ≡ []) × NucleusStands before.image live r.state after.nucleus) ⊎ NucleusStands before.image (live_in before.image r.state) r.state after.nucleus
        → NucleusStands before.image (live_in before.image r.state) r.state after.nucleus
    nucleus told r is others legal (inl (none, h)) =
        nucleus_falls laws.falls before.image live (live_in before.image r.state) r.state after.nucleus (fewer told r is others legal none) h
    nucleus told r is others legal (inr h) = h

-- a lawful machine is lawful after a turn
pub turn-lawful : TurnLaws → (before after : MachineView) (entries more : List Entry) (index next : ℕ) → Lawful before index → TakesTurn before after entries more
    → ComesNext before.events next (before.turns + 1 + 1) → Lawful after next
turn-lawful laws before after entries more index next h takes comes =
    let t = turn-comes-to laws before after entries more h.well_typed takes h.state h.typed h.stands [] in
    record {
      well_typed = rw takes.image h.well_typed;
      state = t.comes_to.state;
      typed = t.typed;
      stands = t.stands;
      next = rw (takes.events, takes.turns) comes;
    }

-- at most one entry is added
pub turn-adds : TurnLaws → (before after : MachineView) (entries more : List Entry) (index : ℕ) → Lawful before index → TakesTurn before after entries more
    → (entry : Option Entry) × (more ≡ entries ++ option_to_list entry)
turn-adds laws before after entries more index h takes =
    let t = turn-comes-to laws before after entries more h.well_typed takes h.state h.typed h.stands [] in
    (t.comes_to.entry, t.entries_are)

-- a run of a turn more
run-more : (image : ImageParts) (events : List Event) (n : ℕ) (answers : List Answer) (r : Run) (t : Turned) → RunOf image events n answers ≡ Some r
    → r.state.ending ≡ None → TurnOf image events r.left r.state ≡ Some t → RunOf image events (n + 1) answers ≡ Some (continued r t)
unfolding RunOf
run-more image events n answers r t reached on turn = rw (add-one, reached, turn, on) refl

-- the same run of the same image and events
run-same : (image moved : ImageParts) (events came : List Event) (n turns : ℕ) (answers told : List Answer) (r : Run) → moved ≡ image → came ≡ events → turns ≡ n → told ≡ answers
    → RunOf image events n answers ≡ Some r → RunOf moved came turns told ≡ Some r
run-same image moved events came n turns answers told r images lists counts answered reached = rw (images, lists, counts, answered) reached

-- what was legal so far and in the turn is legal
both-legal : (a b : Bool) → a ≡ true → b ≡ true → (a && b) ≡ true
both-legal true b e f = f
both-legal false b e f = absurd (cc)

-- a turn goes on from what the journal tells
pub turn-follows : TurnLaws → RunsAreTyped → (before after : MachineView) (entries more : List Entry) (index : ℕ) → Lawful before index → TakesTurn before after entries more
    → before.ending ≡ None → Follows before entries → Follows after more
turn-follows laws law before after entries more index h takes on f =
    let off : f.run.state.ending ≡ None = sym f.stands.ending ∙ on in
    let typed = (law before.image h.well_typed before.events before.turns (answers_of entries) f.run f.legal.reached f.legal.legal).typed in
    let t = turn-comes-to laws before after entries more h.well_typed takes f.run.state typed f.stands [] in
    let longer : Run = run_extended t.told f.run in
    let answers : answers_of more ≡ answers_of entries ++ t.told =
    ap answers_of t.entries_are ∙ answers-append entries (option_to_list t.comes_to.entry) ∙ ap (λ es. answers_of entries ++ es) t.tells in
    let left : longer.left ≡ t.told ++ [] = ap (λ es. es ++ t.told) f.legal.used ∙ sym (append-nil t.told) in
    record {
      run = continued longer t.comes_to;
      legal = record {
        reached = run-same before.image after.image before.events after.events (before.turns + 1) after.turns (answers_of entries ++ t.told) (answers_of more) (continued longer t.comes_to)
            takes.image takes.events takes.turns answers
            (run-more before.image before.events before.turns (answers_of entries ++ t.told) longer t.comes_to
            (run-extends t.told before.image before.events before.turns (answers_of entries) f.run f.legal.reached) off (rw left t.is));
        used = t.others;
        legal = both-legal f.run.legal t.comes_to.legal f.legal.legal t.legal;
      };
      entries_are = ap (λ es. es ++ option_to_list t.comes_to.entry) f.entries_are ∙ sym t.entries_are;
      stands = t.stands;
    }
