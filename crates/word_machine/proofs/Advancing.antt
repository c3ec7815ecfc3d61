-- From what an instruction leaves to where its effect leads, as the code goes.
use Rattle.std.specs.Prelude.{◌==◌, slice_get, slice_index, slice_set, is_some, if◌then◌else◌}
use Rattle.std.specs.Option.{option_map, option_and_then, option_map_or}
use Rattle.std.proofs.Common.{◌≡◌, ◌≢◌, ℕ, ◌+◌, ◌-◌, ◌*◌, ◌/◌, ◌%◌, ◌^◌, ◌<◌, ◌≤◌, ◌&&◌, zero, suc, Bool, true, false, List, [], ◌∷◌, length, Option, Some, None, refl, sym, ap, ◌∙◌, arith, eqb-true}
use Rattle.std.proofs.lemmas.Bool.Decides.{nat_tests}
use Rattle.ia32_code.specs.declared.instruction.Operand.{Operand}
use Rattle.ia32_code.specs.declared.instruction.Inst.{Inst}
use Rattle.ia32_code.specs.declared.instruction.Inst.TheVariants as inst
use Rattle.ia32_code.specs.Canonical.{Canonical}
use Rattle.ia32_step.specs.declared.cpu.Cpu.{Cpu}
use Rattle.ia32_step.specs.declared.effect.Effect.{Effect as StepEffect}
use Rattle.ia32_step.specs.declared.effect.Effect.TheVariants as left
use Rattle.ia32_step.specs.Operands.{state_of}
use Rattle.ia32_step.specs.Effects.{effect_of, below_top, pushed}
use Rattle.ia32_step.specs.Reaches.{Reaches, is_system}
use Rattle.tal_types.specs.declared.signatures.Sig.{Sig}
use Rattle.tal_types.specs.Shown.{ShownImage}
use Rattle.tal_flow.specs.declared.calls.Arguments.{Arguments}
use Rattle.tal_flow.specs.Calls.{nucleus_arguments, entry_number, is_entry}
use Rattle.tal_flow.specs.Forms.{form_of}
use Rattle.tal_flow.specs.Rules.{next_address}
use Rattle.tal_image.specs.Image.{ImageParts}
use Rattle.tal_image.specs.Shown.{shown}
use Rattle.typed_machine.specs.Values.{Value, Ret, Word}
use Rattle.typed_machine.specs.States.{State, places_of, with_values, most_values}
use Rattle.typed_machine.specs.Operands.{operand_value}
use Rattle.typed_machine.specs.Effects.{EffectView, Moves, Faults, Calls, goes_on, is_full, pushes, values_fit, entered, calls_function, calls_entry, numbered_entry_or, calls_to, returns_from, form_effect, Effect}
use Rattle.typed_machine.specs.Words.{stack_pointer, register_words, esp_of}
use Rattle.word_machine.specs.declared.step.Step.TheVariants as step
use Rattle.word_machine.specs.Memory.{MemoryView, is_mapped, memory_word}
use Rattle.word_machine.specs.Standing.{MemoryStands, WordsStand}
use Rattle.word_machine.specs.Following.{Grounds, StandsAt, Runs, Came}
use Rattle.word_machine.specs.Laws.{WordChanges, PushLaw, DropLaw}
use Rattle.word_machine.specs.Stepping.{StepLaws, is_push, is_at_limit, overflows, Left, return_leads, went_back}
use Rattle.word_machine.proofs.Telling.{there}
use Rattle.word_machine.proofs.Grounding.{held, thread_stands, Begins, begins, current-few}
use Rattle.word_machine.proofs.StackForms.{below-top, not-full, full}
use Rattle.word_machine.proofs.Table.{step-of}
use Rattle.word_machine.proofs.Leaving.{Ran, StepOf}

-- what is in an effect that is there, behind a test
passed : (t : Bool) (x : EffectView) → (if t then Some x else None) ≢ None → (if t then Some x else None) ≡ Some x
passed true x h = refl
passed false x h = absurd (h refl)

-- ---- the limit of the stack

-- ESP is at the limit where the stack is full
limit-full : (s : State) (cpu : Cpu) → cpu.regs ≡ register_words (places_of s) s.thread.regs (esp_of s) → length s.values ≤ most_values
    → is_at_limit cpu s.current ≡ true → most_values ≤ length s.values
limit-full s cpu regs few h =
    let top : esp_of s ≡ 0x400000 + 16384 * s.current = sym (ap (λ r. slice_index r 4) regs) ∙ eqb-true _ _ h in
    omega (arith, top, few)

-- and else it has room
limit-room : (s : State) (cpu : Cpu) → cpu.regs ≡ register_words (places_of s) s.thread.regs (esp_of s) → length s.values ≤ most_values
    → is_at_limit cpu s.current ≡ false → length s.values < most_values
limit-room s cpu regs few h =
    let other : (esp_of s == 0x400000 + 16384 * s.current) ≡ false = sym (ap (λ r. slice_index r 4 == 0x400000 + 16384 * s.current) regs) ∙ h in
    grind (arith, nat_tests)

-- ---- the instruction

-- PUSH of this value on a full stack
push-faults : (image : ImageParts) (live : ℕ → Bool) (s : State) (cpu : Cpu) (m : MemoryView) (x : Operand) (len next : ℕ) → Begins image live s cpu m (inst.Push x) len
    → most_values ≤ length s.values → Left image live s next (left.Fault 12) (Effect image s (inst.Push x) len) cpu m
unfolding Effect form_effect form_of pushes
push-faults image live s cpu m x len next b h = go (operand_value (shown image) s x) b.known
  where
    go : (o : Option Value) → option_map (λ w. pushes (next_address s.thread.place len) w s) o ≢ None
        → Left image live s next (left.Fault 12) (option_map (λ w. pushes (next_address s.thread.place len) w s) o) cpu m
    go None known = absurd (known refl)
    go (Some w) known = rw (full s h) (refl, b.grounds.stand)

module _ (laws : StepLaws) (cpu : Cpu) (m : MemoryView) (current : ℕ) (i : Inst) (len : ℕ) (spelled : Canonical i ≢ None) where
  -- where PUSH does not overflow there is room
  room-for : (image : ImageParts) (live : ℕ → Bool) (s : State) → StandsAt image live s cpu m i len → s.current ≡ current → (t : Bool) → is_at_limit cpu current ≡ t
      → is_push i && t ≡ false → (x : Operand) → i ≡ inst.Push x → length s.values < most_values
  room-for image live s at same false e h x is = limit-room s cpu at.grounds.stand.processor.regs at.grounds.typed.thread.room (rw same e)
  room-for image live s at same true e h x is = let on : is_push i ≡ true = rw is refl in absurd (cc)

  -- the step of the instruction
  step-here : (image : ImageParts) (live : ℕ → Bool) (s : State) → StandsAt image live s cpu m i len → s.current ≡ current → overflows i cpu current ≡ false
      → StepOf image live s m i len (Effect image s i len)
  step-here image live s at same h =
      step-of i (begins image live s cpu m i len laws spelled at) (room-for image live s at same (is_at_limit cpu current) refl h)

  -- what it asks of the words
  pub step-asks : Runs current i len cpu m → overflows i cpu current ≡ false → (is_system i ≡ false) × Reaches i (state_of cpu (memory_word m)) (is_mapped m)
  step-asks (image, live, s, at, same) h =
      let step = step-here image live s at same h in
      (step.runs, rw (held s cpu m at.grounds.stand.processor) step.reaches)

  -- what it leaves
  pub step-leaves : overflows i cpu current ≡ false → (e : StepEffect) (ran : Cpu) (after : MemoryView) → e ≡ effect_of i (state_of cpu (memory_word m)) len
      → Ran i len (state_of cpu (memory_word m)) m ran after → (image : ImageParts) (live : ℕ → Bool) (s : State) → StandsAt image live s cpu m i len → s.current ≡ current
      → Left image live s (next_address s.thread.place len) e (Effect image s i len) ran after
  step-leaves h e ran after is r image live s at same =
      let words = held s cpu m at.grounds.stand.processor in
      rw (is, words) ((step-here image live s at same h).leaves ran after (rw words at r))

-- PUSH on a full stack is the stack fault
pub step-overflows : (laws : StepLaws) (cpu : Cpu) (m : MemoryView) (current : ℕ) (i : Inst) (len : ℕ) → Canonical i ≢ None → overflows i cpu current ≡ true
    → (image : ImageParts) (live : ℕ → Bool) (s : State) → StandsAt image live s cpu m i len → s.current ≡ current
    → Left image live s (next_address s.thread.place len) (left.Fault 12) (Effect image s i len) cpu m
step-overflows laws cpu m current (inst.Push x) len spelled h image live s at same =
    push-faults image live s cpu m x len (next_address s.thread.place len) (begins image live s cpu m (inst.Push x) len laws spelled at)
    (limit-full s cpu at.grounds.stand.processor.regs at.grounds.typed.thread.room (rw same h))
step-overflows laws cpu m current i len spelled h image live s at same = absurd (cc)

-- the running stack is one of 64
pub stack_few : (current : ℕ) (i : Inst) (len : ℕ) (cpu : Cpu) (m : MemoryView) → Runs current i len cpu m → current < 64
stack_few current i len cpu m (image, live, s, at, same) = rw (← same) (current-few at.grounds)

-- ---- what came, by what is left

-- an instruction that goes on
pub next-comes : (image : ImageParts) (live : ℕ → Bool) (s : State) (e : Option EffectView) (ran : Cpu) (after : MemoryView)
    → (t : State) × (e ≡ Some (Moves t)) × WordsStand image live t ran after → Came step.Moves ran after image live s e
next-comes image live s e ran after (t, is, stand) = rw is (refl, stand)

-- a fault
pub fault_comes : (image : ImageParts) (live : ℕ → Bool) (s : State) (e : Option EffectView) (ran : Cpu) (after : MemoryView) (n : ℕ)
    → (e ≡ Some (Faults n)) × WordsStand image live s ran after → Came (step.Faults n) ran after image live s e
fault_comes image live s e ran after n (is, stand) = rw is (refl, stand)

-- the words that are left stand for the same typed state
pub left-grounds : (image : ImageParts) (live : ℕ → Bool) (s : State) (cpu ran : Cpu) (m after : MemoryView) (i : Inst) (len : ℕ) → StandsAt image live s cpu m i len
    → WordsStand image live s ran after → Grounds image live s ran after
left-grounds image live s cpu ran m after i len at stand = record { well_typed = at.grounds.well_typed; typed = at.grounds.typed; stand = stand }

-- where the next instruction stands
pub next-place : (image : ImageParts) (live : ℕ → Bool) (s : State) (cpu : Cpu) (m : MemoryView) (i : Inst) (len : ℕ) → StandsAt image live s cpu m i len
    → (cpu.pc + len) % 2 ^ 32 ≡ next_address s.thread.place len
unfolding next_address
next-place image live s cpu m i len at = ap (λ pc. (pc + len) % 2 ^ 32) at.grounds.stand.processor.place

-- ---- calls

-- an entry is at an address with its number
entry-there : (a k : ℕ) → is_entry a ≡ true → entry_number a ≡ Some k → (arguments : Arguments) × (slice_get nucleus_arguments k ≡ Some arguments)
unfolding is_entry
entry-there a k h e = at (slice_get nucleus_arguments k) (rw e at h)
  where
    at : (o : Option Arguments) → is_some o ≡ true → (arguments : Arguments) × (o ≡ Some arguments)
    at None h = absurd (cc)
    at (Some x) h = (x, refl)

-- a call of an entry
pub entry-comes : (image : ImageParts) (live : ℕ → Bool) (s : State) (next a k : ℕ) (ran : Cpu) (after : MemoryView) (e : Option EffectView) → is_entry a ≡ true → entry_number a ≡ Some k
    → Left image live s next (left.Call a) e ran after → Came (step.Calls k) ran after image live s e
unfolding calls_to
entry-comes image live s next a k ran after e h number (known, is, stand) =
    let x = entry-there a k h number in
    let calls : calls_to (shown image) s next a ≡ calls_entry s k x.0 = rw (number, x.1) refl in
    let there : calls_entry s k x.0 ≢ None = λ none. known (is ∙ (calls ∙ none)) in
    rw (is ∙ (calls ∙ passed _ (Calls k) there)) (refl, stand)

-- a call of any other address is one of a function
other-call : (v : ShownImage) (s : State) (next a : ℕ) → is_entry a ≡ false → calls_to v s next a ≡ calls_function v s next a
unfolding calls_to is_entry
other-call v s next a h = go (entry_number a) h
  where
    at : (k : ℕ) (o : Option Arguments) → is_some o ≡ false → option_map_or (calls_entry s k) o (calls_function v s next a) ≡ calls_function v s next a
    at k None h = refl
    at k (Some x) h = absurd (cc)

    go : (o : Option ℕ) → is_some (option_and_then (slice_get nucleus_arguments) o) ≡ false → numbered_entry_or s (calls_function v s next a) o ≡ calls_function v s next a
    go None h = refl
    go (Some k) h = at k (slice_get nucleus_arguments k) h

-- and it pushes the place after it
function-pushes : (v : ShownImage) (s : State) (next a : ℕ) → calls_function v s next a ≢ None → calls_function v s next a ≡ Some (pushes a (Ret next) (entered next s))
function-pushes v s next a known = go (option_and_then v.sig (v.function_at a)) known
  where
    go : (o : Option Sig) → option_and_then (λ sig. if values_fit v s sig then Some (pushes a (Ret next) (entered next s)) else None) o ≢ None
        → option_and_then (λ sig. if values_fit v s sig then Some (pushes a (Ret next) (entered next s)) else None) o ≡ Some (pushes a (Ret next) (entered next s))
    go None h = absurd (h refl)
    go (Some sig) h = passed (values_fit v s sig) _ h

-- a call of a function, by its effect
call-is : (image : ImageParts) (s : State) (next a : ℕ) (e : Option EffectView) → e ≢ None → is_entry a ≡ false → e ≡ calls_to (shown image) s next a
    → e ≡ Some (pushes a (Ret next) (entered next s))
call-is image s next a e known other is =
    let function = is ∙ other-call (shown image) s next a other in
    function ∙ function-pushes (shown image) s next a (λ none. known (function ∙ none))

-- whether the stack is full does not hang on what is known
entered-full : (s : State) (next : ℕ) → is_full (entered next s) ≡ is_full s
unfolding is_full
entered-full s next = refl

module _ (laws : StepLaws) (image : ImageParts) (live : ℕ → Bool) (s : State) (next a : ℕ) (ran : Cpu) (after : MemoryView) (g : Grounds image live s ran after)
    (e : Option EffectView) (other : is_entry a ≡ false) (call : Left image live s next (left.Call a) e ran after) where
  -- on a full stack it is the stack fault
  pub call-overflows : is_at_limit ran s.current ≡ true → Came (step.Faults 12) ran after image live s e
  unfolding pushes
  call-overflows h =
      let no_room = full s (limit-full s ran g.stand.processor.regs g.typed.thread.room h) in
      rw (call-is image s next a e call.0 other call.1, entered-full s next, no_room) (refl, g.stand)

  -- where there is room, the word below the top is mapped
  pub call-reaches : is_at_limit ran s.current ≡ false → is_mapped after (below_top (state_of ran (memory_word after))) ≡ true
  call-reaches h =
      let room = limit-room s ran g.stand.processor.regs g.typed.thread.room h in
      let law : PushLaw image live s after = laws.pushes image live s ran after g room in
      rw (ap (λ r. slice_index r 4) g.stand.processor.regs, (below-top s.current (length s.values) (current-few g) room).0) law.there

  -- and the place after the call is pushed there
  pub call-enters : is_at_limit ran s.current ≡ false → (entered_cpu : Cpu) (written : MemoryView)
      → entered_cpu.regs ≡ (pushed next (state_of ran (memory_word after))).regs → entered_cpu.flags ≡ ran.flags → entered_cpu.pc ≡ a
      → WordChanges after written (below_top (state_of ran (memory_word after))) next
      → Came step.Moves entered_cpu written image live s e
  unfolding pushes Word
  call-enters h cpu written regs flags place word =
      let room = limit-room s ran g.stand.processor.regs g.typed.thread.room h in
      let law : PushLaw image live s after = laws.pushes image live s ran after g room in
      let under = below-top s.current (length s.values) (current-few g) room in
      let top : below_top (state_of ran (memory_word after)) ≡ esp_of s - 4 = rw (ap (λ r. slice_index r 4) g.stand.processor.regs) under.0 in
      let put : WordChanges after written (esp_of s - 4) next = rw top at word in
      rw (call-is image s next a e call.0 other call.1, entered-full s next, not-full s room) (
        refl,
        record {
          processor = record { regs = rw (top, g.stand.processor.regs, under.1) at regs; flags = flags ∙ g.stand.processor.flags; place = place };
          memory = thread_stands (law.pushed (Ret next) written put) _;
        },
      )

-- ---- returns

-- a return finds a place
returned-top : (vs : List Value) (s : State) → returns_from vs s ≢ None → (a : ℕ) × (us : List Value) × (vs ≡ Ret a ∷ us)
returned-top (Ret a ∷ us) s h = (a, us, refl)
returned-top vs s h = absurd (h refl)

module _ (image : ImageParts) (live : ℕ → Bool) (s : State) (ran : Cpu) (after : MemoryView) (g : Grounds image live s ran after) (law : DropLaw image live s after)
    (next : ℕ) (e : Option EffectView) (back : Left image live s next left.Return e ran after) where
  -- a place is on top
  place-there : (a : ℕ) × (us : List Value) × (s.values ≡ Ret a ∷ us)
  place-there = returned-top s.values s (λ none. back.0 (back.1 ∙ none))

  -- whose word is mapped
  pub return_reaches : is_mapped after (slice_index ran.regs 4) ≡ true
  return_reaches =
      let top = place-there in
      rw (ap (λ r. slice_index r 4) g.stand.processor.regs) (law.there (Ret top.0) top.1 top.2)

  -- the word is the place
  return_word : (a : ℕ) (us : List Value) → s.values ≡ Ret a ∷ us → memory_word after (slice_index ran.regs 4) ≡ a
  unfolding Word
  return_word a us values = rw (ap (λ r. slice_index r 4) g.stand.processor.regs) (there after (esp_of s) a (law.top (Ret a) us values))

  -- a return to a place
  goes-back : (a : ℕ) (us : List Value) → s.values ≡ Ret (suc a) ∷ us
      → Came step.Moves (record { regs = slice_set ran.regs 4 ((slice_index ran.regs 4 + 4) % 2 ^ 32); flags = ran.flags; pc = suc a }) after image live s
      (Some (goes_on (suc a) (with_values us s)))
  goes-back a us values =
      let depth : length s.values ≡ suc (length us) = ap length values in
      let up : (esp_of s + 4) % 2 ^ 32 ≡ stack_pointer s.current (length us) =
      let few = current-few g in let room = g.typed.thread.room in omega (arith, few, room, depth) in
      let left : MemoryStands image live (with_values us s) after = rw values at (law.dropped 1 (omega (arith, depth))) in (
        refl,
        record {
          processor = record {
            regs = rw g.stand.processor.regs (ap (register_words (places_of s) s.thread.regs) up);
            flags = g.stand.processor.flags;
            place = refl;
          };
          memory = thread_stands left _;
        },
      )

  -- a return goes back, or ends at the end word
  pub return_comes : Came (return_leads (memory_word after (slice_index ran.regs 4))) (went_back (memory_word after (slice_index ran.regs 4)) ran) after image live s e
  return_comes = let top = place-there in go top.0 top.1 top.2
    where
      go : (a : ℕ) (us : List Value) → s.values ≡ Ret a ∷ us
          → Came (return_leads (memory_word after (slice_index ran.regs 4))) (went_back (memory_word after (slice_index ran.regs 4)) ran) after image live s e
      go zero [] values = rw (back.1 ∙ ap (λ vs. returns_from vs s) values, return_word zero [] values) (refl, g.stand)
      go zero (v ∷ us) values = absurd (back.0 (back.1 ∙ ap (λ vs. returns_from vs s) values))
      go (suc a) us values =
          let some : (suc a == 0) ≡ false = grind (arith, nat_tests) in
          rw (back.1 ∙ ap (λ vs. returns_from vs s) values, return_word (suc a) us values, some) (goes-back a us values)
