-- What an instruction of a turn comes to: processor and Nucleus go where the turn leads the state.
use Rattle.std.specs.Prelude.{slice_index}
use Rattle.std.proofs.Common.{◌≡◌, inl, inr, ℕ, ◌≤◌, ◌<◌, Bool, List, [], ◌++◌, Option, Some, None, slice_get, refl, sym, ap, ◌∙◌, append-nil, arith}
use Rattle.std.proofs.lemmas.Option.{slice_get_within}
use Rattle.ia32_code.specs.declared.instruction.Reg.TheVariants.{Eax}
use Rattle.ia32_code.specs.declared.instruction.Inst.{Inst}
use Rattle.ia32_step.specs.declared.cpu.Cpu.{Cpu}
use Rattle.stack_states.specs.declared.journal_entry.Entry.{Entry}
use Rattle.object_layout.specs.Classes.{ShapesView}
use Rattle.tal_flow.specs.declared.calls.Arguments.{Arguments}
use Rattle.tal_flow.specs.Calls.{nucleus_arguments}
use Rattle.tal_flow.specs.Rules.{next_address}
use Rattle.frame_tables.specs.FrameRows.{RowAt}
use Rattle.tal_image.specs.Image.{ImageParts}
use Rattle.typed_machine.specs.declared.ending.Ending.{Ending}
use Rattle.typed_machine.specs.Values.{Word}
use Rattle.typed_machine.specs.States.{State, places_of}
use Rattle.typed_machine.specs.Code.{inst_at}
use Rattle.typed_machine.specs.Effects.{EffectView, Moves, Faults, Calls, Ends, Effect}
use Rattle.typed_machine.specs.Placing.{Answer}
use Rattle.typed_machine.specs.Turns.{Turned, turned, after_effect, instruction}
use Rattle.typed_machine.specs.Reaching.{live_in}
use Rattle.typed_machine.specs.Typing.{scope_of}
use Rattle.typed_safety.specs.Laws.{CallTyped, EffectTyped, WellTypedImagesKeepTyping, CallsReply}
use Rattle.word_machine.specs.declared.step.Step.{Step}
use Rattle.word_machine.specs.declared.step.Step.TheVariants as step
use Rattle.word_machine.specs.Standing.{values_at, ObjectsLie}
use Rattle.nucleus_calls.specs.declared.outcome.Leaving.{Leaving}
use Rattle.nucleus_calls.specs.declared.outcome.Leaving.TheVariants as leaving
use Rattle.nucleus_calls.specs.Nucleus.{NucleusView, NucleusStands}
use Rattle.nucleus_calls.specs.Turning.{StandsBefore, SameTurn, AtInstruction, BothStand, Stepped, Leads, leaving_effect}
use Rattle.nucleus_calls.specs.HeapEntries.{AtHeapCall, LeadsAnswered}
use Rattle.kernel_machine.specs.Stepping.{TurnLeads, InTurn, ending_by, ActsAt, MayAct}
use Rattle.kernel_machine.proofs.NoAnswers.{TellsNone, effect-tells-none}
use Rattle.kernel_machine.proofs.AnswersTold.{heap_tells}

-- ---- turns and the end are no words

-- a Nucleus stands for the state whatever its turns and its end are
pub nucleus_retold : (image : ImageParts) (live : ℕ → Bool) (s : State) (v : NucleusView) (turns : ℕ) (ending : Option Ending) → NucleusStands image live s v
    → NucleusStands image live (record s { turns = turns; ending = ending }) v
unfolding values_at
nucleus_retold image live s v turns ending h =
    let m = h.memory in
    let lie : ObjectsLie image live (record s { turns = turns; ending = ending }) =
    record { short = m.lie.short; aligned = m.lie.aligned; inside = m.lie.inside; apart = m.lie.apart } in
    record {
      memory = record {
        tables = m.tables;
        descriptors = m.descriptors;
        statics = m.statics;
        objects = m.objects;
        stacks = m.stacks;
        room = m.room;
        lie = lie;
        blocks = m.blocks;
      };
      stacks = h.stacks;
      starts = h.starts;
      devices = h.devices;
      marks = h.marks;
    }

-- ---- what a step came to

-- a step that moved
stepped-moves : (cpu : Cpu) (v : NucleusView) (image : ImageParts) (live : ℕ → Bool) (s : State) (o : Option EffectView) → Stepped step.Moves cpu v image live s o
    → (t : State) × (o ≡ Some (Moves t)) × BothStand image live t cpu v × SameTurn s t
stepped-moves cpu v image live s None h = absurd h
stepped-moves cpu v image live s (Some (Moves t)) h = (t, refl, h.1, h.2)
stepped-moves cpu v image live s (Some (Faults n)) h = absurd (let e = h.0 in cc)
stepped-moves cpu v image live s (Some (Calls k)) h = absurd (let e = h.0 in cc)
stepped-moves cpu v image live s (Some Ends) h = absurd (let e = h.0 in cc)

-- one that called the Nucleus
stepped-calls : (k : ℕ) (cpu : Cpu) (v : NucleusView) (image : ImageParts) (live : ℕ → Bool) (s : State) (o : Option EffectView) → Stepped (step.Calls k) cpu v image live s o
    → (o ≡ Some (Calls k)) × BothStand image live s cpu v
stepped-calls k cpu v image live s None h = absurd h
stepped-calls k cpu v image live s (Some (Moves t)) h = absurd (let e = h.0 in cc)
stepped-calls k cpu v image live s (Some (Faults n)) h = absurd (let e = h.0 in cc)
stepped-calls k cpu v image live s (Some (Calls n)) h = let e = h.0 in let same : n ≡ k = cc in (rw same refl, h.1)
stepped-calls k cpu v image live s (Some Ends) h = absurd (let e = h.0 in cc)

-- what a step answers at which the running stack leaves
abbrev pub step_of : Leaving → Step
step_of (leaving.Fault vector) = step.Faults vector
step_of leaving.Ended = step.Ends

-- one at which it leaves
stepped-leaves : (why : Leaving) (cpu : Cpu) (v : NucleusView) (image : ImageParts) (live : ℕ → Bool) (s : State) (o : Option EffectView) → Stepped (step_of why) cpu v image live s o
    → (o ≡ Some (leaving_effect why)) × BothStand image live s cpu v
stepped-leaves why cpu v image live s None h = absurd h
stepped-leaves (leaving.Fault vector) cpu v image live s (Some (Moves t)) h = absurd (let e = h.0 in cc)
stepped-leaves (leaving.Fault vector) cpu v image live s (Some (Faults n)) h = let e = h.0 in let same : n ≡ vector = cc in (rw same refl, h.1)
stepped-leaves (leaving.Fault vector) cpu v image live s (Some (Calls k)) h = absurd (let e = h.0 in cc)
stepped-leaves (leaving.Fault vector) cpu v image live s (Some Ends) h = absurd (let e = h.0 in cc)
stepped-leaves leaving.Ended cpu v image live s (Some (Moves t)) h = absurd (let e = h.0 in cc)
stepped-leaves leaving.Ended cpu v image live s (Some (Faults n)) h = absurd (let e = h.0 in cc)
stepped-leaves leaving.Ended cpu v image live s (Some (Calls k)) h = absurd (let e = h.0 in cc)
stepped-leaves leaving.Ended cpu v image live s (Some Ends) h = (refl, h.1)

-- ---- where turns lead

-- the turn is what the effect comes to
instruction-is : (image : ImageParts) (answers : List Answer) (s : State) (i : Inst) (len : ℕ) (e : EffectView) → inst_at image s.thread.place ≡ Some (i, len)
    → Effect image s i len ≡ Some e → instruction image answers s ≡ after_effect image answers (next_address s.thread.place len) s e
instruction-is image answers s i len e here effect = rw (here, effect) refl

-- a turn without an end that takes no answer leads as the Nucleus does
pub leads-on : (image : ImageParts) (live : ℕ → Bool) (turn : ℕ) (s : State) (left : List Answer) (before after : List Entry) (cpu : Cpu) (v : NucleusView)
    (takes : List Answer → Option Turned) → TellsNone left (takes left) → InTurn turn s → Leads image live s left before after cpu v (takes left)
    → TurnLeads image live turn left before after cpu v None takes
leads-on image live turn s left before after cpu v takes none now (r, is, h) =
    let untold = (rw is at none) h.left in (
      [],
      r,
      is,
      record {
        processor = h.processor;
        nucleus = inl (refl, h.nucleus);
        turns = sym (h.same_turn.turns ∙ now.turns);
        ending = sym (h.same_turn.ending ∙ now.on);
        entries = h.entries;
        tells = untold.1;
        others = h.left;
        legal = untold.0;
      },
    )

-- so it is with the turn whose instruction has this effect
effect_leads : (image : ImageParts) (live : ℕ → Bool) (turn : ℕ) (s : State) (i : Inst) (len : ℕ) (cpu ran : Cpu) (v after : NucleusView) → AtInstruction image live s i len cpu v
    → (e : EffectView) → Effect image s i len ≡ Some e → (left : List Answer) (entries more : List Entry) (ending : Option Ending)
    → TurnLeads image live turn left entries more ran after ending (λ answers. after_effect image answers (next_address s.thread.place len) s e)
    → TurnLeads image live turn left entries more ran after ending (λ answers. instruction image answers s)
effect_leads image live turn s i len cpu ran v after h e effect left entries more ending (told, r, is, stands) =
    (told, r, instruction-is image (told ++ left) s i len e h.here effect ∙ is, stands)

-- an instruction that moves on
pub moves-lead : (image : ImageParts) (live : ℕ → Bool) (turn : ℕ) (s : State) (i : Inst) (len : ℕ) (cpu ran : Cpu) (v after : NucleusView) → AtInstruction image live s i len cpu v
    → InTurn turn s → Stepped step.Moves ran after image live s (Effect image s i len) → (left : List Answer) (entries : List Entry)
    → TurnLeads image live turn left entries entries ran after None (λ answers. instruction image answers s)
moves-lead image live turn s i len cpu ran v after h now stepped left entries =
    let (t, effect, both, same) = stepped-moves ran after image live s (Effect image s i len) stepped in
    effect_leads image live turn s i len cpu ran v after h (Moves t) effect left entries entries None (
      [],
      turned left None t,
      refl,
      record {
        processor = both.processor;
        nucleus = inl (refl, both.nucleus);
        turns = sym (same.turns ∙ now.turns);
        ending = sym (same.ending ∙ now.on);
        entries = sym (append-nil entries);
        tells = refl;
        others = refl;
        legal = refl;
      },
    )

-- ---- the running stack leaves

-- the effect is the same wherever the next instruction stands
leaving-anywhere : (image : ImageParts) (answers : List Answer) (next other : ℕ) (s : State) (why : Leaving)
    → after_effect image answers next s (leaving_effect why) ≡ after_effect image answers other s (leaving_effect why)
leaving-anywhere image answers next other s (leaving.Fault vector) = refl
leaving-anywhere image answers next other s leaving.Ended = refl

-- the kernel's end
kernel_ends : (image : ImageParts) (answers : List Answer) (next : ℕ) (s : State) (why : Leaving) → s.current ≡ 0
    → after_effect image answers next s (leaving_effect why) ≡ Some (turned answers None (record s { ending = Some (ending_by why (Word (places_of s) (s.thread.regs Eax))) }))
kernel_ends image answers next s (leaving.Fault vector) current = rw current refl
kernel_ends image answers next s leaving.Ended current = rw current refl

pub kernel_leads : (image : ImageParts) (live : ℕ → Bool) (turn : ℕ) (s : State) (cpu : Cpu) (v : NucleusView) (why : Leaving) → StandsBefore image live s s.thread.place cpu v
    → InTurn turn s → s.current ≡ 0 → (left : List Answer) (next : ℕ) (entries : List Entry)
    → TurnLeads image live turn left entries entries cpu v (Some (ending_by why (slice_index cpu.regs 0))) (λ answers. after_effect image answers next s (leaving_effect why))
kernel_leads image live turn s cpu v why h now current left next entries = (
  [],
  turned left None (record s { ending = Some (ending_by why (Word (places_of s) (s.thread.regs Eax))) }),
  kernel_ends image left next s why current,
  record {
    processor = record { regs = h.processor.regs; flags = h.processor.flags; place = h.processor.place };
    nucleus = inl (refl, nucleus_retold image live s v s.turns (Some (ending_by why (Word (places_of s) (s.thread.regs Eax)))) h.nucleus);
    turns = sym now.turns;
    ending = ap (λ (rs : List ℕ). Some (ending_by why (slice_index rs 0))) h.processor.regs;
    entries = sym (append-nil entries);
    tells = refl;
    others = refl;
    legal = refl;
  },
)

-- an application's
pub application_leads : (image : ImageParts) (live : ℕ → Bool) (turn : ℕ) (s : State) (why : Leaving) (place : ℕ) (ran : Cpu) (after : NucleusView) → InTurn turn s
    → (left : List Answer) (entries more : List Entry) → Leads image live s left entries more ran after (after_effect image left place s (leaving_effect why))
    → (next : ℕ) → TurnLeads image live turn left entries more ran after None (λ answers. after_effect image answers next s (leaving_effect why))
application_leads image live turn s why place ran after now left entries more led next =
    let (told, r, is, stands) =
    leads-on image live turn s left entries more ran after (λ answers. after_effect image answers place s (leaving_effect why))
    (effect-tells-none image left place s (leaving_effect why)) now led in
    (told, r, leaving-anywhere image (told ++ left) next place s why ∙ is, stands)

-- where a step says that the running stack leaves, processor and Nucleus stand as before
pub leaves_before : (image : ImageParts) (live : ℕ → Bool) (s : State) (i : Inst) (len : ℕ) (cpu ran : Cpu) (v after : NucleusView) (why : Leaving) → AtInstruction image live s i len cpu v
    → Stepped (step_of why) ran after image live s (Effect image s i len) → StandsBefore image live s s.thread.place ran after
leaves_before image live s i len cpu ran v after why h stepped =
    let (effect, both) = stepped-leaves why ran after image live s (Effect image s i len) stepped in
    record { well_typed = h.before.well_typed; typed = h.before.typed; processor = both.processor; nucleus = both.nucleus }

pub leaving-leads : (image : ImageParts) (live : ℕ → Bool) (turn : ℕ) (s : State) (i : Inst) (len : ℕ) (cpu stood ran : Cpu) (v between after : NucleusView) (why : Leaving)
    → AtInstruction image live s i len cpu v → Stepped (step_of why) stood between image live s (Effect image s i len)
    → (left : List Answer) (entries more : List Entry) (ending : Option Ending)
    → ((next : ℕ) → TurnLeads image live turn left entries more ran after ending (λ answers. after_effect image answers next s (leaving_effect why)))
    → TurnLeads image live turn left entries more ran after ending (λ answers. instruction image answers s)
leaving-leads image live turn s i len cpu stood ran v between after why h stepped left entries more ending led =
    let (effect, both) = stepped-leaves why stood between image live s (Effect image s i len) stepped in
    effect_leads image live turn s i len cpu ran v after h (leaving_effect why) effect left entries more ending (led (next_address s.thread.place len))

-- ---- a call of the Nucleus

-- one answer has one instruction and one length
one-answer : (a b : Inst × ℕ) → Some a ≡ Some b → (a.0 ≡ b.0) × (a.1 ≡ b.1)
one-answer a b e = let same : a ≡ b = cc in (ap (λ x. x.0) same, ap (λ x. x.1) same)

-- its arguments have their types
call-typed : WellTypedImagesKeepTyping → (image : ImageParts) (live : ℕ → Bool) (s : State) (i : Inst) (len k : ℕ) (cpu : Cpu) (v : NucleusView) → AtInstruction image live s i len cpu v
    → Effect image s i len ≡ Some (Calls k) → CallTyped (scope_of image live s) s (next_address s.thread.place len) k
call-typed law image live s i len k cpu v h effect =
    let keeps = law image h.before.well_typed live s h.before.typed in
    let x = keeps.placed in
    let same = one-answer (x.inst, x.len) (i, len) (sym keeps.spelled ∙ h.here) in
    let typed : EffectTyped image live s (next_address s.thread.place len) (Effect image s i len) = rw (same.0, same.1) at keeps.typed in
    rw effect at typed

-- there are no more than 11 entries
entry-most : (k : ℕ) (arguments : Arguments) → slice_get nucleus_arguments k ≡ Some arguments → k ≤ 10
unfolding nucleus_arguments
entry-most k arguments there = let inside = slice_get_within nucleus_arguments k arguments there in omega (arith, inside)

-- it is of one of them
pub call-most : WellTypedImagesKeepTyping → (i : Inst) (len k : ℕ) (shapes : ShapesView) (table : List RowAt) (cpu ran : Cpu) (v after : NucleusView)
    → ((image : ImageParts) (live : ℕ → Bool) (s : State) → AtInstruction image live s i len cpu v → Stepped (step.Calls k) ran after image live s (Effect image s i len))
    → MayAct i len shapes table cpu v → k ≤ 10
call-most law i len k shapes table cpu ran v after stepped (image, s, h) =
    let live = live_in image s in
    let (effect, both) = stepped-calls k ran after image live s (Effect image s i len) (stepped image live s h.at) in
    let typed = call-typed law image live s i len k cpu v h.at effect in
    entry-most k typed.arguments typed.entry

-- the processor stands at the next instruction
next-before : (image : ImageParts) (live : ℕ → Bool) (s : State) (i : Inst) (len : ℕ) (cpu ran : Cpu) (v after : NucleusView) → AtInstruction image live s i len cpu v → BothStand image live s ran after
    → StandsBefore image live s (next_address s.thread.place len) (record ran { pc = next_address ran.pc len }) after
next-before image live s i len cpu ran v after h both = record {
  well_typed = h.before.well_typed;
  typed = h.before.typed;
  processor = record { regs = both.processor.regs; flags = both.processor.flags; place = ap (λ place. next_address place len) both.processor.place };
  nucleus = both.nucleus;
}

pub calls-lead : WellTypedImagesKeepTyping → (image : ImageParts) (live : ℕ → Bool) (turn : ℕ) (s : State) (i : Inst) (len k : ℕ) (cpu stood ran : Cpu) (v between after : NucleusView)
    → AtInstruction image live s i len cpu v → InTurn turn s → Stepped (step.Calls k) stood between image live s (Effect image s i len)
    → (left : List Answer) (entries more : List Entry)
    → ((next : ℕ) → StandsBefore image live s next (record stood { pc = next_address stood.pc len }) between
    → CallTyped (scope_of image live s) s next k → Leads image live s left entries more ran after (after_effect image left next s (Calls k)))
    → TurnLeads image live turn left entries more ran after None (λ answers. instruction image answers s)
calls-lead law image live turn s i len k cpu stood ran v between after h now stepped left entries more led =
    let (effect, both) = stepped-calls k stood between image live s (Effect image s i len) stepped in
    let next = next_address s.thread.place len in
    effect_leads image live turn s i len cpu ran v after h (Calls k) effect left entries more None
    (leads-on image live turn s left entries more ran after (λ answers. after_effect image answers next s (Calls k)) (effect-tells-none image left next s (Calls k)) now
    (led next (next-before image live s i len cpu stood v between h both) (call-typed law image live s i len k cpu v h effect)))

-- of the heap
pub heap_call : WellTypedImagesKeepTyping → CallsReply → (image : ImageParts) (s : State) (i : Inst) (len k : ℕ) (shapes : ShapesView) (table : List RowAt) (cpu stood : Cpu) (v between : NucleusView)
    → ActsAt image s i len shapes table cpu v → Stepped (step.Calls k) stood between image (live_in image s) s (Effect image s i len)
    → AtHeapCall image s (next_address s.thread.place len) k shapes table (record stood { pc = next_address stood.pc len }) between
heap_call law replies image s i len k shapes table cpu stood v between h stepped =
    let live = live_in image s in
    let (effect, both) = stepped-calls k stood between image live s (Effect image s i len) stepped in
    let next = next_address s.thread.place len in
    let (reply, gives) = replies image h.at.before.well_typed live s h.at.before.typed next k (call-typed law image live s i len k cpu v h.at effect) in
    record {
      before = next-before image live s i len cpu stood v between h.at both;
      typed = h.typed;
      reply = reply;
      comes = record { inst = i; len = len; here = h.at.here; calls = effect; follows = refl; gives = gives };
      classes = h.classes;
      rows = h.rows;
    }

pub heap_calls_lead : (image : ImageParts) (turn : ℕ) (s : State) (i : Inst) (len k : ℕ) (shapes : ShapesView) (table : List RowAt) (cpu stood ran : Cpu) (v between after : NucleusView)
    → ActsAt image s i len shapes table cpu v → InTurn turn s → Stepped (step.Calls k) stood between image (live_in image s) s (Effect image s i len) → k < 3
    → (left : List Answer) (entries more : List Entry) → LeadsAnswered image s (next_address s.thread.place len) k left entries more ran after
    → TurnLeads image (live_in image s) turn left entries more ran after None (λ answers. instruction image answers s)
heap_calls_lead image turn s i len k shapes table cpu stood ran v between after h now stepped few left entries more led =
    let live = live_in image s in
    let (effect, both) = stepped-calls k stood between image live s (Effect image s i len) stepped in
    effect_leads image live turn s i len cpu ran v after h.at (Calls k) effect left entries more None (
      led.told,
      led.turn,
      led.is,
      record {
        processor = led.stands.processor;
        nucleus = inr led.stands.nucleus;
        turns = sym (led.stands.same_turn.turns ∙ now.turns);
        ending = sym (led.stands.same_turn.ending ∙ now.on);
        entries = led.stands.entries;
        tells = heap_tells image (next_address s.thread.place len) k s led.told left led.turn few led.is led.stands.left led.legal;
        others = led.stands.left;
        legal = led.legal;
      },
    )
