-- Turns keep typing.
use Rattle.std.proofs.Common.{◌≡◌, ◌≢◌, sym, ◌+◌, ◌==◌, ℕ, Bool, true, false, if◌then◌else◌, Option, Some, None, arith, refl, ap, List, [], ◌∷◌, ◌++◌, length}
use Rattle.std.specs.Option.{option_map, option_and_then}
use Rattle.std.proofs.lemmas.Bool.Decides.{nat_tests}
use Rattle.std.proofs.lemmas.Option.{slice_get_within}
use Rattle.stack_states.specs.declared.journal_entry.Entry.{Entry}
use Rattle.stack_states.specs.declared.journal_entry.EntryKind.{EntryKind}
use Rattle.ia32_code.specs.declared.instruction.Inst.{Inst}
use Rattle.device_model.specs.declared.events.Event.{Event}
use Rattle.device_model.specs.History.{Granted}
use Rattle.device_model.specs.ItemByItem.{grantable}
use Rattle.tal_image.specs.Image.{ImageParts}
use Rattle.tal_checker.specs.Running.{RunsOn}
use Rattle.typed_machine.specs.declared.ending.Ending.{Ending}
use Rattle.tal_types.specs.declared.types.Ty.{Ty}
use Rattle.tal_types.specs.declared.types.Ty.TheVariants.{Num}
use Rattle.tal_image.specs.Shown.{shown}
use Rattle.typed_machine.specs.Values.{Value, Number, Null, Ref, ObjectShape}
use Rattle.typed_machine.specs.Stores.{need, shapes_in}
use Rattle.typed_machine.specs.States.{State, Stack, EmptyStack, RunningStack, InterruptedStack}
use Rattle.typed_machine.specs.Switches.{switched}
use Rattle.typed_machine.specs.Replies.{ReplyView, Replies, YieldsTo, Allocates, Collects, Reply}
use Rattle.typed_machine.specs.Code.{inst_at}
use Rattle.typed_machine.specs.Effects.{EffectView, Moves, Faults, Calls, Ends, Effect}
use Rattle.typed_machine.specs.Frames.{Awaits, fits_in}
use Rattle.typed_machine.specs.Reaching.{Roots}
use Rattle.typed_machine.specs.Placing.{Answer, Placed, Refused, WordRun, Gaps, Legal, fresh_object, reply_to, allocated, free_words}
use Rattle.typed_machine.specs.Turns.{Turned, turned, begun, kernel_goes_on, interrupted, ended_by, comes_back, answered, replied, after_effect, instruction, interrupt_or, TurnOf}
use Rattle.typed_machine.specs.Typing.{StackFits, TypedAmong, scope_of}
use Rattle.typed_safety.specs.Laws.{ImageLaws, CallTyped, EffectTyped, AsksFor, AllocationTyped}
use Rattle.typed_safety.proofs.Instructions.{state-keeps}
use Rattle.typed_safety.proofs.Switching.{SomeTyped, KernelKept, switch-typed}
use Rattle.typed_safety.proofs.Replying.{aside_typed, SomeReplyTyped, call-replies}
use Rattle.typed_safety.proofs.Resuming.{replied-fits}
use Rattle.typed_safety.proofs.Values.{number-num}
use Rattle.typed_safety.proofs.Carrying.{EspRefersNot}
use Rattle.typed_safety.proofs.Growing.{last-shape, typed-grown, awaits-grown}
use Rattle.typed_safety.proofs.Gaps.{legal_word}

-- A turn leads to a state that is typed among the same objects, where its answer was legal and, if it took one, the object that comes
-- next is among them. Else an allocation has no answer.
abbrev pub TurnAmong : ImageParts → (ℕ → Bool) → List Answer → State → Option Turned → Type 0
TurnAmong image live answers s None = (answers ≡ []) × (shape : ObjectShape) × AsksFor image s shape
TurnAmong image live answers s (Some r) = r.legal ≡ true → (r.left ≢ answers → live (length s.store) ≡ true) → TypedAmong image live r.state

-- a list is none of those that begin with more
pub longer : {A : Type 0} (x : A) (xs : List A) → xs ≢ x ∷ xs
longer x xs e = let same : length xs ≡ length (x ∷ xs) = ap length e in omega (arith, same)

module _ (image : ImageParts) (rests : RunsOn image) (laws : ImageLaws image) (esp : EspRefersNot image) (live : ℕ → Bool) (answers : List Answer) where
  -- a state that was switched to, as a turn
  switched-turn : (s : State) (o : Option State) (e : Option Entry) → SomeTyped image live o → TurnAmong image live answers s (option_map (turned answers e) o)
  switched-turn s None e h = absurd h
  switched-turn s (Some t) e h = λ legal lives. h

  -- the kernel goes on in place of an application
  kernel_typed : (s : State) → TypedAmong image live s → (left : Stack) (n : ℕ) → StackFits (scope_of image live s) left → left ≢ RunningStack → s.current ≢ 0 → KernelKept 0 s.current left
      → SomeTyped image live (switched image 0 (Number n) left s)
  kernel_typed s t left n fits other away kept =
      let some = slice_get_within s.stacks s.current RunningStack t.one in
      let count = t.count in
      switch-typed image rests laws live s t left 0 n fits other (λ e. away (sym e)) (omega arith) kept

  -- an interrupt
  interrupted-typed : (s : State) → TypedAmong image live s → s.current ≢ 0 → (line : ℕ) → TurnAmong image live answers s (interrupted image answers line s)
  interrupted-typed s t away line =
      let u = aside_typed image live s (Granted line ∷ s.devices) s.turns s.ending t in
      switched-turn s _ _ (kernel_typed (record s { devices = Granted line ∷ s.devices }) u (InterruptedStack s.thread s.values) (131072 + line) u.thread (λ e. cc) away refl)

  -- the kernel's run ends, or an application does
  ended-typed : (s : State) → TypedAmong image live s → (ending : Ending) (kind : EntryKind) (value reply : ℕ)
      → TurnAmong image live answers s (if s.current == 0 then ended_by ending answers s else kernel_goes_on image answers kind value reply s)
  ended-typed s t ending kind value reply = go (s.current == 0) refl
    where
      go : (b : Bool) → (s.current == 0) ≡ b → TurnAmong image live answers s (if b then ended_by ending answers s else kernel_goes_on image answers kind value reply s)
      go true e = λ legal lives. aside_typed image live s s.devices s.turns (Some ending) t
      go false e = switched-turn s _ _ (kernel_typed s t EmptyStack reply tt (λ f. cc) (λ f. absurd (grind (arith, nat_tests))) refl)

  -- the caller of a typed state goes on with a reply of the type that it awaits
  replied-typed : {s : State} → TypedAmong image live s → (reply : Value) (next : ℕ) (u : Ty) → Awaits (scope_of image live s) u next s.values
      → fits_in (scope_of image live s) reply u ≡ true → TypedAmong image live (comes_back reply next s)
  replied-typed {s = s} t reply next u a fits = record {
    thread = replied-fits (scope_of image live s) laws.classes u reply next s.values a fits;
    others = t.others;
    one = t.one;
    only = t.only;
    kernel = t.kernel;
    count = t.count;
    statics = t.statics;
    store = t.store;
  }

  -- an allocation is answered
  answered-turn : (s : State) → TypedAmong image live s → (next k : ℕ) (shape : ObjectShape) → AllocationTyped image live s next shape → AsksFor image s shape
      → TurnAmong image live answers s (answered image next k s shape answers)
  answered-turn s t next k shape a asks = go answers
    where
      gaps : List WordRun
      gaps = Gaps image (Roots image next s) s

      words : ℕ
      words = need (shown image).shapes shape

      placed : (p : ℕ) → Legal gaps words (Placed p) ≡ true → live (length s.store) ≡ true
          → TypedAmong image live (comes_back (Ref (length s.store)) next (allocated (shown image).shapes shape (Placed p) s))
      placed p legal lives =
          let word = legal_word image (Roots image next s) s words p laws.heap legal in
          let u = typed-grown image live s shape p esp t a.is_shape word.0 word.1 in
          let fits = a.object live (shapes_in (s.store ++ fresh_object (shown image).shapes shape p ∷ [])) (length s.store) lives (last-shape s.store _) in
          replied-typed u (Ref (length s.store)) next a.type (awaits-grown image live s shape p a.type next s.values a.awaited) fits

      taken : (answer : Answer) → Legal gaps words answer ≡ true → live (length s.store) ≡ true
          → TypedAmong image live (comes_back (reply_to answer s) next (allocated (shown image).shapes shape answer s))
      taken (Placed p) legal lives = placed p legal lives
      taken Refused legal lives = replied-typed t Null next a.type a.awaited (a.null (scope_of image live s))

      go : (given : List Answer) → TurnAmong image live given s (answered image next k s shape given)
      go [] = (refl, shape, asks)
      go (answer ∷ left) = λ legal lives. taken answer legal (lives (longer answer left))

  -- what a reply comes to
  replied-turn : (s : State) → TypedAmong image live s → (next k : ℕ) (o : Option ReplyView) → Reply k s ≡ o
      → option_and_then (λ (i : Inst × ℕ). Effect image s i.0 i.1) (inst_at image s.thread.place) ≡ Some (Calls k)
      → SomeReplyTyped image live s next o → TurnAmong image live answers s (option_and_then (replied image answers next k s) o)
  replied-turn s t next k None is calls h = absurd h
  replied-turn s t next k (Some (Replies n r)) is calls h = λ legal lives. h
  replied-turn s t next k (Some (YieldsTo to)) is calls h = switched-turn s _ _ h
  replied-turn s t next k (Some (Allocates shape)) is calls h = answered-turn s t next k shape h (record { entry = k; calls = calls; asks = is })
  replied-turn s t next k (Some Collects) is calls h = λ legal lives. replied-typed t (Number (free_words image (Roots image next s) s)) next Num h (number-num (shown image) live _ _)

  -- a call of the Nucleus
  call-turn : (s : State) → TypedAmong image live s → (next k : ℕ) → CallTyped (scope_of image live s) s next k
      → option_and_then (λ (i : Inst × ℕ). Effect image s i.0 i.1) (inst_at image s.thread.place) ≡ Some (Calls k)
      → TurnAmong image live answers s (after_effect image answers next s (Calls k))
  call-turn s t next k c is = replied-turn s t next k (Reply k s) refl is (call-replies image rests laws live s t next k c)

  -- what an effect comes to
  effect_typed : (s : State) → TypedAmong image live s → (next : ℕ) (o : Option EffectView) → EffectTyped image live s next o
      → option_and_then (λ (i : Inst × ℕ). Effect image s i.0 i.1) (inst_at image s.thread.place) ≡ o
      → TurnAmong image live answers s (option_and_then (after_effect image answers next s) o)
  effect_typed s t next None h is = absurd h
  effect_typed s t next (Some (Moves m)) h is = λ legal lives. h
  effect_typed s t next (Some (Faults vector)) h is = ended-typed s t _ _ vector _
  effect_typed s t next (Some (Calls k)) h is = call-turn s t next k h is
  effect_typed s t next (Some Ends) h is = ended-typed s t _ _ 0 _

  -- an instruction
  instruction-turn : (s : State) → TypedAmong image live s → TurnAmong image live answers s (instruction image answers s)
  instruction-turn s t =
      let k = state-keeps image rests laws live s t in
      rw k.spelled (effect_typed s t _ (Effect image s k.placed.inst k.placed.len) k.typed (rw k.spelled refl))

  -- a turn
  pub turn-typed : (events : List Event) (s : State) → TypedAmong image live s → TurnAmong image live answers (begun events s) (TurnOf image events answers s)
  unfolding TurnOf
  turn-typed events s t = go (s.current == 0) refl
    where
      u : TypedAmong image live (begun events s)
      u = aside_typed image live s _ _ s.ending t

      granted : (o : Option ℕ) → s.current ≢ 0 → TurnAmong image live answers (begun events s) (interrupt_or image answers (begun events s) o)
      granted None away = instruction-turn (begun events s) u
      granted (Some line) away = interrupted-typed (begun events s) u away line

      go : (b : Bool) → (s.current == 0) ≡ b
          → TurnAmong image live answers (begun events s) (interrupt_or image answers (begun events s) (if b then None else grantable (begun events s).devices))
      go true e = instruction-turn (begun events s) u
      go false e = granted (grantable (begun events s).devices) (λ f. absurd (grind (arith, nat_tests)))
