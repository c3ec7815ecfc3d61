-- What a turn does to the store: it keeps each object's shape and place, or an allocation takes an answer.
use Rattle.std.proofs.Common.{◌≡◌, ◌⊎◌, inl, inr, ap, ◌==◌, ◌&&◌, ◌||◌, ◌%◌, ◌^◌, nat_lt, nat_le, not, ℕ, zero, suc, Bool, true, false, if◌then◌else◌, Option, Some, None, refl, List, [], ◌∷◌, slice_get}
use Rattle.std.specs.Option.{option_map, option_and_then, option_map_or}
use Rattle.ia32_code.specs.declared.instruction.Reg.{Reg}
use Rattle.ia32_code.specs.declared.instruction.Reg.TheVariants.{Eax, Ecx, Esp}
use Rattle.ia32_code.specs.declared.instruction.Operand.{Operand}
use Rattle.ia32_code.specs.declared.instruction.Operand.TheVariants.{R, M, I}
use Rattle.ia32_code.specs.declared.instruction.Inst.{Inst}
use Rattle.ia32_step.specs.declared.effect.Effect.{Effect as StepEffect}
use Rattle.ia32_step.specs.declared.effect.Effect.TheVariants as step
use Rattle.ia32_step.specs.Operands.{WordState, read_word}
use Rattle.ia32_step.specs.Conditions.{holds}
use Rattle.ia32_step.specs.Effects.{executed, effect_of}
use Rattle.device_model.specs.declared.events.Event.{Event}
use Rattle.device_model.specs.History.{Granted, Item, Wrote, Drew, waiting}
use Rattle.device_model.specs.declared.screen.TheConstants.{CELLS}
use Rattle.device_model.specs.LineBits.{any_below}
use Rattle.device_model.specs.ItemByItem.{is_served}
use Rattle.stack_states.specs.declared.journal_entry.Entry.{Entry}
use Rattle.stack_states.specs.declared.journal_entry.EntryKind.{EntryKind}
use Rattle.tal_types.specs.declared.types.FlagKind.{FlagKind}
use Rattle.tal_types.specs.declared.signatures.Sig.{Sig}
use Rattle.tal_types.specs.Contexts.{same}
use Rattle.tal_types.specs.Shown.{ShownImage}
use Rattle.tal_flow.specs.declared.calls.Arguments.{Arguments}
use Rattle.tal_flow.specs.declared.forms.Form.{Form}
use Rattle.tal_flow.specs.declared.forms.Form.TheVariants.{Refused, Compute, Move, Address, Compare, TestBits, PushOf, PopTo, DropSlots, CallTo, CallBy, Return, Jump, Branch, Nothing}
use Rattle.tal_flow.specs.Forms.{form_of}
use Rattle.tal_flow.specs.Calls.{nucleus_arguments, entry_number}
use Rattle.tal_flow.specs.Afterwards.{slots_in}
use Rattle.tal_flow.specs.Rules.{next_address}
use Rattle.tal_image.specs.Image.{ImageParts}
use Rattle.tal_image.specs.Shown.{shown}
use Rattle.typed_machine.specs.declared.ending.Ending.{Ending}
use Rattle.typed_machine.specs.Values.{Value, Number, Code, Ret, ObjectShape}
use Rattle.typed_machine.specs.Stores.{Store, shapes_in, places_in, set_value}
use Rattle.typed_machine.specs.States.{State, Stack, EmptyStack, RunningStack, YieldedStack, InterruptedStack, Known, with_register, with_values}
use Rattle.typed_machine.specs.Code.{inst_at, may_go}
use Rattle.typed_machine.specs.Words.{words_of}
use Rattle.typed_machine.specs.Operands.{Spot, AtStatic, AtSlot, AtValue, spot_of, write_spot, write_operand, operand_value, number_in, provided}
use Rattle.typed_machine.specs.Effects.{EffectView, Moves, Faults, Calls, Ends, has_above, is_known, is_number_in, goes_on, settled, fault_or, computed, computes, compares, tests, moves, addresses, pushes, is_full, pops, drops, calls_function, values_fit, entered, calls_entry, calls_to, calls_value, numbered_entry_or, returns_from, form_effect, Effect}
use Rattle.typed_machine.specs.Switches.{resumed, put_away, switched}
use Rattle.typed_machine.specs.Replies.{ReplyView, Replies, YieldsTo, Allocates, Collects, class_asked, array_asked, is_stack, is_application, happened, count_items, yield_to, get_stack_state, reset_stack, emptied, vga_text_write, code_taken, start_timer, by_number, by_numbers, Reply}
use Rattle.typed_machine.specs.Placing.{Answer}
use Rattle.typed_machine.specs.Turns.{Turned, turned, begun, line_granted, kernel_goes_on, ended_by, answered, replied, after_effect, instruction, interrupt_or, TurnOf}

-- the objects are as many as before, with their shapes and places
abbrev pub BlocksStay : Store → Store → Type 0
BlocksStay store after = (shapes_in after ≡ shapes_in store) × (places_in after ≡ places_in store)

-- ---- instructions

-- nothing of the store changes
same-blocks : (store : Store) → BlocksStay store store
same-blocks store = (refl, refl)

-- a value is set
blocks-set : (store : Store) (i j : ℕ) (w : Value) → BlocksStay store (set_value store i j w)
blocks-set [] i j w = (refl, refl)
blocks-set (o ∷ store) zero j w = (refl, refl)
blocks-set (o ∷ store) (suc i) j w = let h = blocks-set store i j w in (ap (λ xs. o.shape ∷ xs) h.0, ap (λ xs. o.place ∷ xs) h.1)

-- a state, if there is one
abbrev StateStays : State → Option State → Type 0
StateStays s None = Unit {0}
StateStays s (Some t) = BlocksStay s.store t.store

provided-stays : (s t : State) (b : Bool) → BlocksStay s.store t.store → StateStays s (provided b t)
provided-stays s t true h = h
provided-stays s t false h = tt

-- a write
spot-stays : (v : ShownImage) (s : State) (spot : Spot) (w : Value) → StateStays s (write_spot v s spot w)
unfolding write_spot
spot-stays v s (AtStatic j) w = provided-stays s _ _ (refl, refl)
spot-stays v s (AtSlot i) w = (refl, refl)
spot-stays v s (AtValue i j) w = provided-stays s _ _ (blocks-set s.store i j w)
spot-stays v s spot w = tt

write-stays : (v : ShownImage) (s : State) (x : Operand) (w : Value) → StateStays s (write_operand v s x w)
unfolding write_operand
write-stays v s (R r) w = provided-stays s _ _ (refl, refl)
write-stays v s (I n) w = tt
write-stays v s (M m) w = go (spot_of v.shapes s m)
  where
    go : (o : Option Spot) → StateStays s (option_and_then (λ spot. write_spot v s spot w) o)
    go None = tt
    go (Some spot) = spot-stays v s spot w

-- an effect, if there is one
abbrev EffectStays : State → Option EffectView → Type 0
EffectStays s (Some (Moves t)) = BlocksStay s.store t.store
EffectStays s o = Unit {0}

-- a test decides
tested-stays : (s : State) (b : Bool) (o : Option EffectView) → EffectStays s o → EffectStays s (if b then o else None)
tested-stays s true o h = h
tested-stays s false o h = tt

-- registers and flags are settled
settled-stays : (s t : State) (wide : Bool) (k : Option FlagKind) (m : WordState) → BlocksStay s.store t.store → BlocksStay s.store (settled wide k m t).store
settled-stays s t true k m h = h
settled-stays s t false k m h = h

computed-stays : (v : ShownImage) (s : State) (i : Inst) (len next : ℕ) (d : Operand) (wide : Bool) (k : Option FlagKind) (m : WordState)
    → EffectStays s (computed v s i len next d wide k m)
computed-stays v s i len next d wide k m = fault (effect_of i m len) (write_operand v s d (Number (read_word d (executed i m)))) (write-stays v s d _)
  where
    made : (o : Option State) → StateStays s o → EffectStays s (option_map (λ t. goes_on next (settled wide k (executed i m) t)) o)
    made None h = tt
    made (Some t) h = settled-stays s t wide k (executed i m) h

    fault : (e : StepEffect) (o : Option State) → StateStays s o → EffectStays s (fault_or e (option_map (λ t. goes_on next (settled wide k (executed i m) t)) o))
    fault (step.Fault n) o h = tt
    fault step.Next o h = made o h
    fault (step.Call a) o h = made o h
    fault step.Return o h = made o h

-- a push
pushes-stay : (s t : State) (next : ℕ) (w : Value) → BlocksStay s.store t.store → EffectStays s (Some (pushes next w t))
unfolding pushes
pushes-stay s t next w h = go (is_full t)
  where
    go : (b : Bool) → EffectStays s (Some (if b then Faults 12 else goes_on next (record t { values = w ∷ t.values })))
    go true = tt
    go false = h

-- a call of a function
function-stays : (v : ShownImage) (s : State) (next address : ℕ) → EffectStays s (calls_function v s next address)
function-stays v s next address = go (option_and_then v.sig (v.function_at address))
  where
    go : (o : Option Sig) → EffectStays s (option_and_then (λ sig. if values_fit v s sig then Some (pushes address (Ret next) (entered next s)) else None) o)
    go None = tt
    go (Some sig) = tested-stays s (values_fit v s sig) _ (pushes-stay s (entered next s) address (Ret next) (refl, refl))

-- a call of an entry
entry-stays : (s : State) (k : ℕ) (o : Option Arguments) (otherwise : Option EffectView) → EffectStays s otherwise → EffectStays s (option_map_or (calls_entry s k) o otherwise)
entry-stays s k None otherwise h = h
entry-stays s k (Some a) otherwise h = tested-stays s _ (Some (Calls k)) tt

called-stays : (s : State) (o : Option ℕ) (otherwise : Option EffectView) → EffectStays s otherwise → EffectStays s (numbered_entry_or s otherwise o)
called-stays s None otherwise h = h
called-stays s (Some k) otherwise h = entry-stays s k (slice_get nucleus_arguments k) otherwise h

value-stays : (v : ShownImage) (s : State) (next : ℕ) (o : Option Value) → EffectStays s (calls_value v s next o)
value-stays v s next (Some (Code a)) = function-stays v s next a
value-stays v s next o = tt

-- a pop
popped_stays : (s : State) (b : Bool) (o : Option EffectView) → EffectStays s o → EffectStays s (if b then None else o)
popped_stays s true o h = tt
popped_stays s false o h = h

pops-stay : (s : State) (next : ℕ) (r : Reg) (ws : List Value) → EffectStays s (pops next r ws s)
pops-stay s next r [] = tt
pops-stay s next r (Ret a ∷ ws) = tt
pops-stay s next r (w ∷ ws) = popped_stays s (same r Esp) (Some (goes_on next (with_register r w (with_values ws s)))) (refl, refl)

drops-stay : (s : State) (i : Inst) (next : ℕ) (o : Option ℕ) → EffectStays s (drops s i next o)
drops-stay s i next None = tt
drops-stay s i next (Some n) = tested-stays s (has_above n s.values) _ (same-blocks s.store)

-- a return
returns-stay : (s : State) (ws : List Value) → EffectStays s (returns_from ws s)
returns-stay s [] = tt
returns-stay s (Ret zero ∷ []) = tt
returns-stay s (Ret zero ∷ w ∷ ws) = tt
returns-stay s (Ret (suc a) ∷ ws) = (refl, refl)
returns-stay s (w ∷ ws) = tt

-- the same as a record, so that a test and its outcome are read off an effect
record EffectKeeps (s : State) (o : Option EffectView) : Type 0 where
  keeps : EffectStays s o

tested-keeps : (s : State) (b : Bool) (o : Option EffectView) → EffectKeeps s o → EffectKeeps s (if b then o else None)
tested-keeps s true o h = h
tested-keeps s false o h = record { keeps = tt }

flags-keep : (s : State) (o : Option Known) (f : Known → EffectView) → ((k : Known) → EffectKeeps s (Some (f k))) → EffectKeeps s (option_map f o)
flags-keep s None f h = record { keeps = tt }
flags-keep s (Some k) f h = h k

-- an instruction of each form
form_stays : (image : ImageParts) (s : State) (i : Inst) (len next : ℕ) (form : Form) → EffectKeeps s (form_effect image s i len next form)
unfolding form_effect computes compares tests moves addresses calls_to
form_stays image s i len next Refused = record { keeps = tt }
form_stays image s i len next (Compute sources d wide k) = tested-keeps s _ _ (record { keeps = computed-stays (shown image) s i len next d wide k _ })
form_stays image s i len next (Move d x) = record { keeps = go (operand_value (shown image) s x) }
  where
    moved : (o : Option State) → StateStays s o → EffectStays s (option_map (goes_on next) o)
    moved None h = tt
    moved (Some t) h = h

    go : (o : Option Value) → EffectStays s (option_map (goes_on next) (option_and_then (write_operand (shown image) s d) o))
    go None = tt
    go (Some w) = moved (write_operand (shown image) s d w) (write-stays (shown image) s d w)
form_stays image s i len next (Address r m) =
    tested-keeps s (not (same r Esp) && (is_number_in s m.base && is_number_in s m.index))
    (Some (goes_on next (with_register r (Number (read_word (R r) (executed i (words_of s 0)))) s))) (record { keeps = same-blocks s.store })
form_stays image s i len next (Compare d x) = flags-keep s _ _ (λ k. record { keeps = same-blocks s.store })
form_stays image s i len next (TestBits d x) = flags-keep s _ _ (λ k. record { keeps = same-blocks s.store })
form_stays image s i len next (PushOf x) = record { keeps = go (operand_value (shown image) s x) }
  where
    go : (o : Option Value) → EffectStays s (option_map (λ w. pushes next w s) o)
    go None = tt
    go (Some w) = pushes-stay s s next w (refl, refl)
form_stays image s i len next (PopTo r) = record { keeps = pops-stay s next r s.values }
form_stays image s i len next (DropSlots bytes) = record { keeps = drops-stay s i next (slots_in bytes) }
form_stays image s i len next (CallTo a) = record { keeps = called-stays s (entry_number a) (calls_function (shown image) s next a) (function-stays (shown image) s next a) }
form_stays image s i len next (CallBy x) = record { keeps = value-stays (shown image) s next (operand_value (shown image) s x) }
form_stays image s i len next Return = record { keeps = returns-stay s s.values }
form_stays image s i len next (Jump to) = tested-keeps s (may_go image s.thread.place to) (Some (goes_on to s)) (record { keeps = same-blocks s.store })
form_stays image s i len next (Branch c to) =
    tested-keeps s (is_known s.thread.known c && may_go image s.thread.place to) (Some (goes_on (if holds c s.thread.flags then to else next) s)) (record { keeps = same-blocks s.store })
form_stays image s i len next Nothing = record { keeps = (refl, refl) }

effect_stays : (image : ImageParts) (s : State) (i : Inst) (len : ℕ) → EffectStays s (Effect image s i len)
unfolding Effect
effect_stays image s i len = (form_stays image s i len (next_address s.thread.place len) (form_of (next_address s.thread.place len) i)).keeps

-- ---- calls

-- a switch
switched-stays : (image : ImageParts) (to : ℕ) (reply : Value) (left : Stack) (s : State) → StateStays s (switched image to reply left s)
unfolding switched
switched-stays image to reply left s = go (slice_get s.stacks to)
  where
    on : (stack : Stack) → StateStays s (option_map (put_away left to) (resumed image to reply stack s))
    on EmptyStack = (refl, refl)
    on (YieldedStack place values) = (refl, refl)
    on (InterruptedStack thread values) = (refl, refl)
    on RunningStack = tt

    go : (o : Option Stack) → StateStays s (option_and_then (λ stack. option_map (put_away left to) (resumed image to reply stack s)) o)
    go None = tt
    go (Some stack) = on stack

-- a reply at once, if there is one
abbrev ReplyStays : State → Option ReplyView → Type 0
ReplyStays s (Some (Replies n t)) = BlocksStay s.store t.store
ReplyStays s o = Unit {0}

-- the same as a record, so that a test and its outcomes are read off a reply
record ReplyKeeps (s : State) (r : ReplyView) : Type 0 where
  keeps : ReplyStays s (Some r)

-- one of two
chosen-keeps : (s : State) (b : Bool) (x y : ReplyView) → ReplyKeeps s x → ReplyKeeps s y → ReplyKeeps s (if b then x else y)
chosen-keeps s true x y h g = h
chosen-keeps s false x y h g = g

-- an entry that takes one number, or two
one-stays : (s : State) (reply : ℕ → State → ReplyView) → ((n : ℕ) → ReplyKeeps s (reply n s)) → ReplyStays s (by_number reply s)
one-stays s reply h = go (number_in (s.thread.regs Eax))
  where
    go : (o : Option ℕ) → ReplyStays s (option_map (λ n. reply n s) o)
    go None = tt
    go (Some n) = (h n).keeps

two-stay : (s : State) (reply : ℕ → ℕ → State → ReplyView) → ((n m : ℕ) → ReplyKeeps s (reply n m s)) → ReplyStays s (by_numbers reply s)
two-stay s reply h = go (number_in (s.thread.regs Eax)) (number_in (s.thread.regs Ecx))
  where
    second : (n : ℕ) (o : Option ℕ) → ReplyStays s (option_map (λ m. reply n m s) o)
    second n None = tt
    second n (Some m) = (h n m).keeps

    go : (o p : Option ℕ) → ReplyStays s (option_and_then (λ n. option_map (λ m. reply n m s) p) o)
    go None p = tt
    go (Some n) p = second n p

-- an object is asked for
asked-stays : (s : State) (o : Option ObjectShape) → ReplyStays s (option_map Allocates o)
asked-stays s None = tt
asked-stays s (Some shape) = tt

-- what a call asks of the devices is done or refused
done_keeps : (s : State) (b : Bool) (items : List Item) → ReplyKeeps s (if b then Replies 0 (happened items s) else Replies 1 s)
done_keeps s true items = record { keeps = same-blocks s.store }
done_keeps s false items = record { keeps = same-blocks s.store }

emptied-keeps : (s : State) (n : ℕ) (o : Option Stack) → ReplyKeeps s (emptied n s o)
emptied-keeps s n None = record { keeps = (refl, refl) }
emptied-keeps s n (Some RunningStack) = record { keeps = (refl, refl) }
emptied-keeps s n (Some EmptyStack) = record { keeps = (refl, refl) }
emptied-keeps s n (Some (YieldedStack place values)) = record { keeps = (refl, refl) }
emptied-keeps s n (Some (InterruptedStack thread values)) = record { keeps = (refl, refl) }

code-stays : (s : State) (o : Option ℕ) → ReplyStays s (Some (code_taken o s))
code-stays s None = (refl, refl)
code-stays s (Some code) = (refl, refl)

reply-stays : (k : ℕ) (s : State) → ReplyStays s (Reply k s)
unfolding Reply
reply-stays zero s = asked-stays s (class_asked (s.thread.regs Eax))
reply-stays (suc zero) s = asked-stays s (array_asked (s.thread.regs Eax) (s.thread.regs Ecx))
reply-stays (suc (suc zero)) s = tt
reply-stays (suc (suc (suc zero))) s = one-stays s yield_to (λ n.
    chosen-keeps s (not (is_stack n s) || n == s.current) (Replies 1 s) (if is_application s.current && is_application n then Replies 2 s else YieldsTo n) (record { keeps = same-blocks s.store })
    (chosen-keeps s (is_application s.current && is_application n) (Replies 2 s) (YieldsTo n) (record { keeps = same-blocks s.store }) (record { keeps = tt })))
reply-stays (suc (suc (suc (suc zero)))) s = one-stays s get_stack_state (λ n. record { keeps = same-blocks s.store })
reply-stays (suc (suc (suc (suc (suc zero))))) s = one-stays s reset_stack (λ n.
    chosen-keeps s (is_application s.current) (Replies 2 s) (emptied n s (slice_get s.stacks n)) (record { keeps = same-blocks s.store }) (emptied-keeps s n (slice_get s.stacks n)))
reply-stays (suc (suc (suc (suc (suc (suc zero)))))) s = two-stay s vga_text_write (λ n m. done_keeps s (nat_lt n CELLS) (Drew n (m % 2 ^ 16) ∷ []))
reply-stays (suc (suc (suc (suc (suc (suc (suc zero))))))) s = code-stays s (slice_get (waiting s.devices) 0)
reply-stays (suc (suc (suc (suc (suc (suc (suc (suc zero)))))))) s = one-stays s start_timer (λ n. done_keeps s (nat_le 2 n && nat_le n 65536) (count_items n))
reply-stays (suc (suc (suc (suc (suc (suc (suc (suc (suc zero))))))))) s = (done_keeps s (any_below (is_served s.devices) 8) (Wrote 0x20 0x20 ∷ [])).keeps
reply-stays (suc (suc (suc (suc (suc (suc (suc (suc (suc (suc zero)))))))))) s = same-blocks s.store
reply-stays (suc (suc (suc (suc (suc (suc (suc (suc (suc (suc (suc k))))))))))) s = tt

-- ---- turns

-- a turn that takes no answer
pub record Quiet (answers : List Answer) (s : State) (r : Turned) : Type 0 where
  pub left : r.left ≡ answers
  pub stays : BlocksStay s.store r.state.store

-- an allocation at the place of the state, whose call comes back to `next`, takes an answer
pub record Allocation (image : ImageParts) (answers : List Answer) (s : State) (r : Turned) : Type 0 where
  pub inst : Inst
  pub len : ℕ
  pub entry : ℕ
  pub shape : ObjectShape
  pub answer : Answer
  pub here : inst_at image s.thread.place ≡ Some (inst, len)
  pub calls : Effect image s inst len ≡ Some (Calls entry)
  pub asks : Reply entry s ≡ Some (Allocates shape)
  pub given : answers ≡ answer ∷ r.left
  pub is : answered image (next_address s.thread.place len) entry s shape answers ≡ Some r

-- each turn is one or the other
abbrev pub TurnCases : ImageParts → List Answer → State → Option Turned → Type 0
TurnCases image answers s None = Unit {0}
TurnCases image answers s (Some r) = Quiet answers s r ⊎ Allocation image answers s r

module _ (image : ImageParts) (answers : List Answer) (s : State) where
  -- a state that takes the turn's place
  state-quiet : (e : Option Entry) (o : Option State) → StateStays s o → TurnCases image answers s (option_map (turned answers e) o)
  state-quiet e None h = tt
  state-quiet e (Some t) h = inl (record { left = refl; stays = h })

  -- the run ends, or an application does
  leaving-quiet : (ending : Ending) (kind : EntryKind) (value reply : ℕ) (b : Bool)
      → TurnCases image answers s (if b then ended_by ending answers s else kernel_goes_on image answers kind value reply s)
  leaving-quiet ending kind value reply true = inl (record { left = refl; stays = (refl, refl) })
  leaving-quiet ending kind value reply false = state-quiet _ _ (switched-stays image 0 (Number reply) EmptyStack s)

  -- a call
  call-cases : (inst : Inst) (len k : ℕ) → inst_at image s.thread.place ≡ Some (inst, len) → Effect image s inst len ≡ Some (Calls k)
      → (o : Option ReplyView) → Reply k s ≡ o → ReplyStays s o → TurnCases image answers s (option_and_then (replied image answers (next_address s.thread.place len) k s) o)
  call-cases inst len k here calls None is h = tt
  call-cases inst len k here calls (Some (Replies n t)) is h = inl (record { left = refl; stays = h })
  call-cases inst len k here calls (Some (YieldsTo to)) is h = state-quiet _ _ (switched-stays image to _ _ s)
  call-cases inst len k here calls (Some Collects) is h = inl (record { left = refl; stays = (refl, refl) })
  call-cases inst len k here calls (Some (Allocates shape)) is h = go answers refl
    where
      go : (given : List Answer) → answers ≡ given → TurnCases image answers s (answered image (next_address s.thread.place len) k s shape given)
      go [] e = tt
      go (answer ∷ left) e = inr (record { inst = inst; len = len; entry = k; shape = shape; answer = answer; here = here; calls = calls; asks = is; given = e; is = rw e refl })

  -- an effect
  effect_cases : (inst : Inst) (len : ℕ) → inst_at image s.thread.place ≡ Some (inst, len) → (o : Option EffectView) → Effect image s inst len ≡ o → EffectStays s o
      → TurnCases image answers s (option_and_then (after_effect image answers (next_address s.thread.place len) s) o)
  effect_cases inst len here None is h = tt
  effect_cases inst len here (Some (Moves t)) is h = inl (record { left = refl; stays = h })
  effect_cases inst len here (Some (Faults vector)) is h = leaving-quiet _ _ _ _ (s.current == 0)
  effect_cases inst len here (Some (Calls k)) is h = call-cases inst len k here is (Reply k s) refl (reply-stays k s)
  effect_cases inst len here (Some Ends) is h = leaving-quiet _ _ _ _ (s.current == 0)

  -- an instruction
  instruction-cases : TurnCases image answers s (instruction image answers s)
  instruction-cases = go (inst_at image s.thread.place) refl
    where
      go : (o : Option (Inst × ℕ)) → inst_at image s.thread.place ≡ o
          → TurnCases image answers s
          (option_and_then (λ (i : Inst × ℕ). option_and_then (after_effect image answers (next_address s.thread.place i.1) s) (Effect image s i.0 i.1)) o)
      go None e = tt
      go (Some i) e = effect_cases i.0 i.1 e (Effect image s i.0 i.1) refl (effect_stays image s i.0 i.1)

-- a turn
pub turn-cases : (image : ImageParts) (events : List Event) (answers : List Answer) (s : State) → TurnCases image answers (begun events s) (TurnOf image events answers s)
unfolding TurnOf
turn-cases image events answers s = go (line_granted (begun events s))
  where
    go : (o : Option ℕ) → TurnCases image answers (begun events s) (interrupt_or image answers (begun events s) o)
    go None = instruction-cases image answers (begun events s)
    go (Some line) = state-quiet image answers (begun events s) _ _ (switched-stays image 0 _ _ (record (begun events s) { devices = Granted line ∷ (begun events s).devices }))
