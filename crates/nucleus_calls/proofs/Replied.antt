-- What each entry replies at once, on the Nucleus's parts as in the state.
use Rattle.std.specs.Prelude.{◌%◌, ◌^◌, unwrap_or}
use Rattle.std.specs.Option.{option_map, option_map_or}
use Rattle.std.proofs.Common.{◌≡◌, ◌≢◌, ◌<◌, ◌≤◌, ◌==◌, ◌&&◌, ◌||◌, not, nat_lt, nat_le, ℕ, zero, suc, Bool, true, false, if◌then◌else◌, List, [], ◌∷◌, ◌++◌, length, Option, Some, None, is_some, slice_get, slice_set, ◌⊎◌, inl, inr, refl, sym, ap, ◌∙◌, arith}
use Rattle.std.proofs.lemmas.Bool.Decides.{nat_tests}
use Rattle.std.proofs.lemmas.Bool.{cases_eq}
use Rattle.std.proofs.lemmas.Option.{slice_get_within}
use Rattle.ia32_code.specs.declared.instruction.Reg.TheVariants.{Eax}
use Rattle.stack_states.specs.declared.stack_state.StackState.{StackState}
use Rattle.stack_states.specs.declared.stack_state.StackState.TheVariants.{Empty}
use Rattle.stack_states.specs.StackTable.{OneRuns, current_of}
use Rattle.device_model.specs.declared.screen.TheConstants.{CELLS}
use Rattle.device_model.specs.LineBits.{any_below}
use Rattle.device_model.specs.History.{History, Wrote, Took, Drew, waiting}
use Rattle.device_model.specs.Devices.{DevicesView, StandsFor}
use Rattle.device_model.specs.ItemByItem.{is_served}
use Rattle.tal_flow.specs.declared.calls.Arguments.TheVariants.{OneNumber, TwoNumbers}
use Rattle.tal_flow.specs.Calls.{nucleus_arguments}
use Rattle.tal_image.specs.Image.{ImageParts}
use Rattle.typed_machine.specs.Values.{Value, Number}
use Rattle.typed_machine.specs.States.{State, Stack, EmptyStack, RunningStack, YieldedStack, InterruptedStack, places_of}
use Rattle.typed_machine.specs.Operands.{number_in}
use Rattle.typed_machine.specs.Replies.{ReplyView, Replies, YieldsTo, Reply, yield_to, state_number, get_stack_state, emptied, reset_stack, current_stack, vga_text_write, try_read_keyboard, count_items, start_timer, send_eoi}
use Rattle.typed_machine.specs.Typing.{TypedAmong}
use Rattle.typed_machine.specs.Words.{stack_pointer}
use Rattle.word_machine.specs.Standing.{HoldsValues, values_at, kept_values}
use Rattle.nucleus_calls.specs.Nucleus.{NucleusView, state_by, NucleusStands}
use Rattle.nucleus_calls.specs.Calling.{number_of, yield_refusal, RepliesAt, AsksOf}
use Rattle.nucleus_calls.proofs.Tables.{set-here, set-elsewhere, states_get, states_set, StackThere}
use Rattle.nucleus_calls.proofs.Restacked.{restacked}
use Rattle.nucleus_calls.proofs.Switched.{current-is, there-is}
use Rattle.nucleus_calls.proofs.Led.{with_parts, devices-stand}

-- ---- each entry's row, where the registers have the numbers that it asks for

pub yield_row : (n m : ℕ) (s : State) → AsksOf 3 n m s → Reply 3 s ≡ Some (yield_to n s)
unfolding Reply nucleus_arguments number_in
yield_row n m s asks = let eax : s.thread.regs Eax ≡ Number n = asks OneNumber refl in rw eax refl

pub state-row : (n m : ℕ) (s : State) → AsksOf 4 n m s → Reply 4 s ≡ Some (get_stack_state n s)
unfolding Reply nucleus_arguments number_in
state-row n m s asks = let eax : s.thread.regs Eax ≡ Number n = asks OneNumber refl in rw eax refl

pub reset-row : (n m : ℕ) (s : State) → AsksOf 5 n m s → Reply 5 s ≡ Some (reset_stack n s)
unfolding Reply nucleus_arguments number_in
reset-row n m s asks = let eax : s.thread.regs Eax ≡ Number n = asks OneNumber refl in rw eax refl

pub write-row : (n m : ℕ) (s : State) → AsksOf 6 n m s → Reply 6 s ≡ Some (vga_text_write n m s)
unfolding Reply nucleus_arguments number_in
write-row n m s asks = let both = asks TwoNumbers refl in rw (both.0, both.1) refl

pub read-row : (s : State) → Reply 7 s ≡ Some (try_read_keyboard s)
unfolding Reply
read-row s = refl

pub timer_row : (n m : ℕ) (s : State) → AsksOf 8 n m s → Reply 8 s ≡ Some (start_timer n s)
unfolding Reply nucleus_arguments number_in
timer_row n m s asks = let eax : s.thread.regs Eax ≡ Number n = asks OneNumber refl in rw eax refl

pub eoi_row : (s : State) → Reply 9 s ≡ Some (send_eoi s)
unfolding Reply
eoi_row s = refl

pub current-row : (s : State) → Reply 10 s ≡ Some (current_stack s)
unfolding Reply
current-row s = refl

-- ---- stacks

-- a reply that changes nothing
pub replies_alone : (image : ImageParts) (live : ℕ → Bool) (s : State) (v : NucleusView) (r : ℕ) (o : Option ReplyView) → NucleusStands image live s v
    → o ≡ Some (Replies r s) → RepliesAt image live s r o v
replies_alone image live s v r o stands is =
    record { state = s; replies = is; nucleus = stands; kept = record { current = refl; values = refl; store = refl; same_turn = record { turns = refl; ending = refl } } }

number-is : (places : List ℕ) (n : ℕ) (o : Option Stack) → number_of (option_map (state_by places n) o) ≡ state_number o
number-is places n None = refl
number-is places n (Some EmptyStack) = refl
number-is places n (Some RunningStack) = refl
number-is places n (Some (YieldedStack place values)) = refl
number-is places n (Some (InterruptedStack thread values)) = refl

-- the state of the table at a number is that of the stack there
pub state-at : (image : ImageParts) (live : ℕ → Bool) (s : State) (v : NucleusView) → NucleusStands image live s v → (n : ℕ)
    → slice_get v.stacks n ≡ option_map (state_by (places_of s) n) (slice_get s.stacks n)
state-at image live s v stands n = rw stands.stacks (states_get (places_of s) 0 s.stacks n n (omega arith))

pub state-replies : (image : ImageParts) (live : ℕ → Bool) (s : State) (v : NucleusView) → NucleusStands image live s v → (n : ℕ)
    → RepliesAt image live s (number_of (slice_get v.stacks n)) (Some (get_stack_state n s)) v
state-replies image live s v stands n =
    replies_alone image live s v _ _ stands
    (ap (λ (k : ℕ). Some (Replies k s)) (sym (ap number_of (state-at image live s v stands n) ∙ number-is (places_of s) n (slice_get s.stacks n))))

pub current-replies : (image : ImageParts) (live : ℕ → Bool) (s : State) (v : NucleusView) → TypedAmong image live s → NucleusStands image live s v → OneRuns v.stacks
    → RepliesAt image live s (current_of v.stacks) (Some (current_stack s)) v
current-replies image live s v typed stands one =
    replies_alone image live s v _ _ stands (ap (λ (k : ℕ). Some (Replies k s)) (sym (current-is typed stands one)))

there-same : (places : List ℕ) (n : ℕ) (o : Option Stack) → is_some (option_map (state_by places n) o) ≡ is_some o
there-same places n None = refl
there-same places n (Some stack) = refl

-- whether a yield is refused, on the table as in the state
pub yield_is : (image : ImageParts) (live : ℕ → Bool) (s : State) (v : NucleusView) → TypedAmong image live s → NucleusStands image live s v → OneRuns v.stacks
    → (n : ℕ) → yield_to n s ≡ option_map_or (λ r. Replies r s) (yield_refusal v.stacks n) (YieldsTo n)
yield_is image live s v typed stands one n =
    let there : is_some (slice_get v.stacks n) ≡ is_some (slice_get s.stacks n) =
    ap (λ (o : Option StackState). is_some o) (state-at image live s v stands n) ∙ there-same (places_of s) n (slice_get s.stacks n) in
    rw (there, current-is typed stands one) (go (not (is_some (slice_get s.stacks n)) || n == s.current) (nat_lt 0 s.current && nat_lt 0 n))
  where
    go : (x y : Bool) → (if x then Replies 1 s else if y then Replies 2 s else YieldsTo n)
        ≡ option_map_or (λ r. Replies r s) (if x then Some 1 else if y then Some 2 else None) (YieldsTo n)
    go true y = refl
    go false true = refl
    go false false = refl

pub yield_refused : (image : ImageParts) (live : ℕ → Bool) (s : State) (v : NucleusView) → TypedAmong image live s → NucleusStands image live s v → OneRuns v.stacks
    → (n r : ℕ) → yield_refusal v.stacks n ≡ Some r → RepliesAt image live s r (Some (yield_to n s)) v
yield_refused image live s v typed stands one n r refused =
    replies_alone image live s v _ _ stands (ap (λ (x : ReplyView). Some x) (yield_is image live s v typed stands one n ∙ rw refused refl))

-- a call that yields does so in the state
pub yields-row : (image : ImageParts) (live : ℕ → Bool) (s : State) (v : NucleusView) → TypedAmong image live s → NucleusStands image live s v → OneRuns v.stacks
    → (k n m : ℕ) → (k == 3 && not (is_some (yield_refusal v.stacks n))) ≡ true → AsksOf k n m s → Reply k s ≡ Some (YieldsTo n)
yields-row image live s v typed stands one k n m yields asks = go (k == 3) refl (yield_refusal v.stacks n) refl yields
  where
    go : (b : Bool) → (k == 3) ≡ b → (o : Option ℕ) → yield_refusal v.stacks n ≡ o → (b && not (is_some o)) ≡ true → Reply k s ≡ Some (YieldsTo n)
    go true e None f h =
        let is : k ≡ 3 = grind (arith, nat_tests) in
        rw is (yield_row n m s (rw is at asks) ∙ ap (λ (x : ReplyView). Some x) (yield_is image live s v typed stands one n ∙ rw f refl))
    go true e (Some r) f h = absurd (cc)
    go false e o f h = absurd (cc)

-- what holds of a stack's values where stack n, which does not run, is emptied
values-emptied : (s : State) (n : ℕ) → n < length s.stacks → (P : List Value → Type 0) (k : ℕ) → P [] → P (values_at s k)
    → P (values_at (record s { stacks = slice_set s.stacks n EmptyStack }) k)
unfolding values_at kept_values
values-emptied s n inside P k none was = go (k == s.current) (k == n) refl was
  where
    go : (c : Bool) (b : Bool) → (k == n) ≡ b → P (if c then s.values else option_map_or kept_values (slice_get s.stacks k) [])
        → P (if c then s.values else option_map_or kept_values (slice_get (slice_set s.stacks n EmptyStack) k) [])
    go true b e was = was
    go false true e was = let at : k ≡ n = grind (arith, nat_tests) in rw (at, set-here s.stacks n EmptyStack inside) none
    go false false e was = let other : k ≢ n = grind (arith, nat_tests) in rw (set-elsewhere s.stacks n k EmptyStack other) was

emptied-stands : (image : ImageParts) (live : ℕ → Bool) (s : State) (v : NucleusView) → NucleusStands image live s v → (n : ℕ) → n < length s.stacks
    → NucleusStands image live (record s { stacks = slice_set s.stacks n EmptyStack }) (with_parts v v.memory (slice_set v.stacks n Empty) v.devices)
emptied-stands image live s v h n inside = record {
  memory = restacked image live s (record s { stacks = slice_set s.stacks n EmptyStack }) v.memory h.memory refl refl
      (λ k there.
      values-emptied s n inside (λ xs. HoldsValues v.memory (places_of s) (stack_pointer k (length xs)) xs) k (λ j w e. absurd (cc)) (h.memory.stacks k there));
  stacks = rw h.stacks (states_set (places_of s) 0 s.stacks n n EmptyStack (omega arith));
  starts = h.starts;
  devices = h.devices;
  marks = h.marks;
}

-- a reset by an application is refused, and so is that of a stack which is not there or runs
pub reset-by-application : (image : ImageParts) (live : ℕ → Bool) (s : State) (v : NucleusView) → TypedAmong image live s → NucleusStands image live s v → OneRuns v.stacks
    → (n : ℕ) → 0 < current_of v.stacks → RepliesAt image live s 2 (Some (reset_stack n s)) v
reset-by-application image live s v typed stands one n application =
    let current = current-is typed stands one in
    let e : nat_lt 0 s.current ≡ true = grind (arith, nat_tests) in
    replies_alone image live s v _ _ stands (rw e refl)

reset-row-is : (s : State) (n : ℕ) → s.current ≡ 0 → reset_stack n s ≡ emptied n s (slice_get s.stacks n)
reset-row-is s n kernel = rw kernel refl

pub reset-of-none : (image : ImageParts) (live : ℕ → Bool) (s : State) (v : NucleusView) → TypedAmong image live s → NucleusStands image live s v → OneRuns v.stacks
    → (n : ℕ) → current_of v.stacks ≡ 0 → slice_get v.stacks n ≡ None → RepliesAt image live s 1 (Some (reset_stack n s)) v
reset-of-none image live s v typed stands one n kernel none =
    replies_alone image live s v _ _ stands (rw (reset-row-is s n (sym (current-is typed stands one) ∙ kernel)) (go (slice_get s.stacks n) (state-at image live s v stands n)))
  where
    go : (o : Option Stack) → slice_get v.stacks n ≡ option_map (state_by (places_of s) n) o → Some (emptied n s o) ≡ Some (Replies 1 s)
    go None e = refl
    go (Some stack) e = absurd (cc)

pub reset-of-running : (image : ImageParts) (live : ℕ → Bool) (s : State) (v : NucleusView) → TypedAmong image live s → NucleusStands image live s v → OneRuns v.stacks
    → (n : ℕ) → current_of v.stacks ≡ 0 → n ≡ current_of v.stacks → RepliesAt image live s 1 (Some (reset_stack n s)) v
reset-of-running image live s v typed stands one n kernel is =
    let current = current-is typed stands one in
    let runs : slice_get s.stacks n ≡ Some RunningStack = rw (is ∙ current) typed.one in
    replies_alone image live s v _ _ stands (rw (reset-row-is s n (sym current ∙ kernel), runs) refl)

pub reset-replies : (image : ImageParts) (live : ℕ → Bool) (s : State) (v : NucleusView) → TypedAmong image live s → NucleusStands image live s v → OneRuns v.stacks
    → (n : ℕ) → current_of v.stacks ≡ 0 → n ≢ current_of v.stacks → (was : StackState) → slice_get v.stacks n ≡ Some was
    → RepliesAt image live s 0 (Some (reset_stack n s)) (with_parts v v.memory (slice_set v.stacks n Empty) v.devices)
reset-replies image live s v typed stands one n kernel differs was h = record {
  state = record s { stacks = slice_set s.stacks n EmptyStack };
  replies = rw (reset-row-is s n (sym current ∙ kernel), found.here) (go found.stack found.here);
  nucleus = emptied-stands image live s v stands n (slice_get_within s.stacks n found.stack found.here);
  kept = record { current = refl; values = refl; store = refl; same_turn = record { turns = refl; ending = refl } };
}
  where
    current : current_of v.stacks ≡ s.current
    current = current-is typed stands one

    found : StackThere (places_of s) s.stacks n was
    found = there-is typed stands n was h

    go : (stack : Stack) → slice_get s.stacks n ≡ Some stack → Some (emptied n s (Some stack)) ≡ Some (Replies 0 (record s { stacks = slice_set s.stacks n EmptyStack }))
    go EmptyStack here = refl
    go RunningStack here = absurd (differs (typed.only n here ∙ sym current))
    go (YieldedStack place values) here = refl
    go (InterruptedStack thread values) here = refl

-- below a list's length something stands
pub read-within : {X : Type 0} (xs : List X) (n : ℕ) → n < length xs → (x : X) × (slice_get xs n ≡ Some x)
read-within [] n h = absurd (omega arith)
read-within (x ∷ xs) zero h = (x, refl)
read-within (x ∷ xs) (suc n) h = read-within xs n (omega arith)

-- ---- devices

-- what the keyboard's status tells
abbrev pub status_of : List ℕ → ℕ
status_of codes = if length codes == 0 then 0 else 1

-- where it tells that a code waits, the oldest is there
pub code-waits : (codes : List ℕ) → status_of codes ≢ 0 → slice_get codes 0 ≡ Some (unwrap_or (slice_get codes 0) 0)
code-waits [] h = absurd (h refl)
code-waits (code ∷ codes) h = refl

pub no-code : (codes : List ℕ) → status_of codes ≡ 0 → slice_get codes 0 ≡ None
no-code [] h = refl
no-code (code ∷ codes) h =
    let some : (length (code ∷ codes) == 0) ≡ false = grind (arith, nat_tests) in
    let one : status_of (code ∷ codes) ≡ 1 = rw some refl in
    absurd (omega (arith, one, h))

-- a test of the lines below a number
pub none-below : (test : ℕ → Bool) (n : ℕ) → ((line : ℕ) → line < n → test line ≡ true → ⊥) → any_below test n ≡ false
none-below test zero h = refl
none-below test (suc n) h = rw (none-below test n (λ line below. h line (omega arith))) (go (test n) refl)
  where
    go : (b : Bool) → test n ≡ b → test n ≡ false
    go true e = absurd (h n (omega arith) e)
    go false e = e

pub some-below : (test : ℕ → Bool) (n line : ℕ) → line < n → test line ≡ true → any_below test n ≡ true
some-below test zero line below e = absurd (omega arith)
some-below test (suc n) line below e = go (cases_eq line n) (λ inside. some-below test n line inside e)
  where
    either : (b c : Bool) → c ≡ true → (b || c) ≡ true
    either true c h = refl
    either false c h = h

    go : (line ≡ n) ⊎ (line ≡ n → ⊥) → (line < n → any_below test n ≡ true) → (any_below test n || test n) ≡ true
    go (inl same) lower = either (any_below test n) (test n) (rw (← same) e)
    go (inr other) lower = rw (lower (omega arith)) refl

-- a reply with which the devices change
pub replies_by : (image : ImageParts) (live : ℕ → Bool) (s : State) (v : NucleusView) (r : ℕ) (o : Option ReplyView) (history : History) (devices : DevicesView)
    → NucleusStands image live s v → StandsFor devices history → o ≡ Some (Replies r (record s { devices = history }))
    → RepliesAt image live s r o (with_parts v v.memory v.stacks devices)
replies_by image live s v r o history devices stands stand is = record {
  state = record s { devices = history };
  replies = is;
  nucleus = devices-stand image live s v history devices stands stand;
  kept = record { current = refl; values = refl; store = refl; same_turn = record { turns = refl; ending = refl } };
}

-- a cell of the screen is written, or there is none
pub write-replies : (image : ImageParts) (live : ℕ → Bool) (s : State) (v : NucleusView) (position value : ℕ) (devices : DevicesView) → NucleusStands image live s v
    → nat_lt position CELLS ≡ true → StandsFor devices (Drew position (value % 2 ^ 16) ∷ s.devices)
    → RepliesAt image live s 0 (Some (vga_text_write position value s)) (with_parts v v.memory v.stacks devices)
write-replies image live s v position value devices stands inside stand =
    replies_by image live s v 0 _ (Drew position (value % 2 ^ 16) ∷ s.devices) devices stands stand (rw inside refl)

pub write-refused : (image : ImageParts) (live : ℕ → Bool) (s : State) (v : NucleusView) (position value : ℕ) → NucleusStands image live s v
    → nat_lt position CELLS ≡ false → RepliesAt image live s 1 (Some (vga_text_write position value s)) v
write-refused image live s v position value stands outside = replies_alone image live s v _ _ stands (rw outside refl)

-- a code is taken, or none waits
pub read-replies : (image : ImageParts) (live : ℕ → Bool) (s : State) (v : NucleusView) (code : ℕ) (devices : DevicesView) → NucleusStands image live s v
    → slice_get (waiting s.devices) 0 ≡ Some code → StandsFor devices (Took ∷ s.devices)
    → RepliesAt image live s code (Some (try_read_keyboard s)) (with_parts v v.memory v.stacks devices)
read-replies image live s v code devices stands waits stand =
    replies_by image live s v code _ (Took ∷ s.devices) devices stands stand (rw waits refl)

pub read-none : (image : ImageParts) (live : ℕ → Bool) (s : State) (v : NucleusView) (devices : DevicesView) → NucleusStands image live s v
    → slice_get (waiting s.devices) 0 ≡ None → StandsFor devices s.devices → RepliesAt image live s 256 (Some (try_read_keyboard s)) (with_parts v v.memory v.stacks devices)
read-none image live s v devices stands none stand = replies_by image live s v 256 _ s.devices devices stands stand (rw none refl)

-- a count is set, or it is none
pub timer_replies : (image : ImageParts) (live : ℕ → Bool) (s : State) (v : NucleusView) (count : ℕ) (devices : DevicesView) → NucleusStands image live s v
    → 2 ≤ count → count ≤ 65536 → StandsFor devices (count_items count ++ s.devices)
    → RepliesAt image live s 0 (Some (start_timer count s)) (with_parts v v.memory v.stacks devices)
timer_replies image live s v count devices stands low high stand =
    let a : nat_le 2 count ≡ true = grind (arith, nat_tests) in
    let b : nat_le count 65536 ≡ true = grind (arith, nat_tests) in
    replies_by image live s v 0 _ (count_items count ++ s.devices) devices stands stand (rw (a, b) refl)

pub timer_refused : (image : ImageParts) (live : ℕ → Bool) (s : State) (v : NucleusView) (count : ℕ) → NucleusStands image live s v
    → (nat_le 2 count && nat_le count 65536) ≡ false → RepliesAt image live s 1 (Some (start_timer count s)) v
timer_refused image live s v count stands out = replies_alone image live s v _ _ stands (rw out refl)

-- the line in service of lowest number is so no more, or none is
pub eoi_replies : (image : ImageParts) (live : ℕ → Bool) (s : State) (v : NucleusView) (devices : DevicesView) → NucleusStands image live s v
    → any_below (is_served s.devices) 8 ≡ true → StandsFor devices (Wrote 0x20 0x20 ∷ s.devices)
    → RepliesAt image live s 0 (Some (send_eoi s)) (with_parts v v.memory v.stacks devices)
eoi_replies image live s v devices stands some stand =
    replies_by image live s v 0 _ (Wrote 0x20 0x20 ∷ s.devices) devices stands stand (rw some refl)

pub eoi_refused : (image : ImageParts) (live : ℕ → Bool) (s : State) (v : NucleusView) → NucleusStands image live s v → any_below (is_served s.devices) 8 ≡ false
    → RepliesAt image live s 1 (Some (send_eoi s)) v
eoi_refused image live s v stands none = replies_alone image live s v _ _ stands (rw none refl)
