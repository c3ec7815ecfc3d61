-- What an instruction leaves as it was that moves on.
use Rattle.std.proofs.Common.{◌≡◌, ℕ, zero, suc, Bool, true, false, not, if◌then◌else◌, List, [], ◌∷◌, Option, Some, None, slice_get, slice_set, refl, arith}
use Rattle.std.specs.Option.{option_map, option_and_then, option_map_or}
use Rattle.std.specs.List.{list_all}
use Rattle.ia32_code.specs.declared.instruction.Alu.{Alu}
use Rattle.ia32_code.specs.declared.instruction.Alu.TheVariants as alu
use Rattle.ia32_code.specs.declared.instruction.Count.TheVariants.{By, Cl}
use Rattle.ia32_code.specs.declared.instruction.Reg.{Reg}
use Rattle.ia32_code.specs.declared.instruction.Reg.TheVariants.{Eax, Ecx, Esp}
use Rattle.ia32_code.specs.declared.instruction.Cond.{Cond}
use Rattle.ia32_code.specs.declared.instruction.Mem.{Mem}
use Rattle.ia32_code.specs.declared.instruction.Operand.{Operand}
use Rattle.ia32_code.specs.declared.instruction.Operand.TheVariants.{R, M, I}
use Rattle.ia32_code.specs.declared.instruction.Inst.{Inst}
use Rattle.ia32_code.specs.declared.instruction.Inst.TheVariants as inst
use Rattle.ia32_step.specs.declared.effect.Effect.{Effect as StepEffect}
use Rattle.ia32_step.specs.declared.effect.Effect.TheVariants as step
use Rattle.ia32_step.specs.Operands.{WordState}
use Rattle.ia32_step.specs.Effects.{executed, effect_of}
use Rattle.tal_types.specs.declared.types.FlagKind.{FlagKind}
use Rattle.tal_types.specs.declared.signatures.Sig.{Sig}
use Rattle.tal_types.specs.Contexts.{same}
use Rattle.tal_types.specs.Shown.{ShownImage}
use Rattle.tal_flow.specs.declared.calls.Arguments.{Arguments}
use Rattle.tal_flow.specs.declared.forms.Form.{Form}
use Rattle.tal_flow.specs.declared.forms.Form.TheVariants.{Refused, Compute, Move, Address, Compare, TestBits, PushOf, PopTo, DropSlots, CallTo, CallBy, Return, Jump, Branch, Nothing}
use Rattle.tal_flow.specs.Forms.{form_of}
use Rattle.tal_flow.specs.Calls.{nucleus_arguments, entry_number}
use Rattle.tal_flow.specs.Afterwards.{slots_in}
use Rattle.tal_flow.specs.Rules.{next_address}
use Rattle.tal_image.specs.Image.{ImageParts}
use Rattle.tal_image.specs.Shown.{shown}
use Rattle.typed_machine.specs.Values.{Value, Ret, Code}
use Rattle.typed_machine.specs.Stores.{Store, places_in, set_value}
use Rattle.typed_machine.specs.States.{State, Thread, Known, places_of, with_register, with_values}
use Rattle.typed_machine.specs.Switches.{runs}
use Rattle.typed_machine.specs.Operands.{Spot, AtStatic, AtSlot, AtValue, spot_of, operand_value, is_number, word_among, may_hold, type_there, provided, write_spot, write_operand}
use Rattle.typed_machine.specs.Words.{words_of}
use Rattle.typed_machine.specs.Effects.{EffectView, Moves, Faults, Calls, Ends, goes_on, settled, fault_or, computes, sets_flags, compares, tests, moves, addresses, is_full, pushes, pops, drops, values_fit, has_arguments, entered, calls_entry, numbered_entry_or, calls_function, calls_to, calls_value, returns_from, jumps, branches, form_effect, Effect}

-- what the stacks do, where objects lie, what happened to the devices, the turns and the end are as before
pub record KeepsRest (s t : State) : Type 0 where
  pub stacks : t.stacks ≡ s.stacks
  pub places : places_of t ≡ places_of s
  pub devices : t.devices ≡ s.devices
  pub turns : t.turns ≡ s.turns
  pub ending : t.ending ≡ s.ending

-- so they are in the state, if there is one
abbrev StateKeeps : State → Option State → Type 0
StateKeeps s None = Unit {0}
StateKeeps s (Some t) = KeepsRest s t

-- so they are where an instruction moves on
abbrev pub EffectKeeps : State → Option EffectView → Type 0
EffectKeeps s None = Unit {0}
EffectKeeps s (Some (Moves t)) = KeepsRest s t
EffectKeeps s (Some (Faults vector)) = Unit {0}
EffectKeeps s (Some (Calls k)) = Unit {0}
EffectKeeps s (Some Ends) = Unit {0}

-- the state itself does, and so does a change of what runs and of the running stack's values
unchanged : (s : State) → KeepsRest s s
unchanged s = record { stacks = refl; places = refl; devices = refl; turns = refl; ending = refl }

runs-keeps : (s t : State) (thread : Thread) (values : List Value) → KeepsRest s t → KeepsRest s (runs thread values t)
runs-keeps s t thread values h = record { stacks = h.stacks; places = h.places; devices = h.devices; turns = h.turns; ending = h.ending }

-- ---- what is written

-- a store with another value has its objects where they were
places-set : (store : Store) (i j : ℕ) (w : Value) → places_in (set_value store i j w) ≡ places_in store
places-set [] i j w = refl
places-set (o ∷ os) zero j w = refl
places-set (o ∷ os) (suc i) j w = rw (places-set os i j w) refl

-- a state behind a test
provided-keeps : (s t : State) (b : Bool) → KeepsRest s t → StateKeeps s (provided b t)
provided-keeps s t true h = h
provided-keeps s t false h = tt

-- a value at a spot
spot-keeps : (v : ShownImage) (s : State) (spot : Spot) (w : Value) → StateKeeps s (write_spot v s spot w)
unfolding write_spot
spot-keeps v s (AtStatic j) w =
    provided-keeps s (record s { statics = slice_set s.statics j w }) (may_hold v s (slice_get v.statics j) w)
    (record { stacks = refl; places = refl; devices = refl; turns = refl; ending = refl })
spot-keeps v s (AtSlot i) w = runs-keeps s s _ _ (unchanged s)
spot-keeps v s (AtValue i j) w =
    provided-keeps s (record s { store = set_value s.store i j w }) (may_hold v s (type_there v s i j) w)
    (record { stacks = refl; places = places-set s.store i j w; devices = refl; turns = refl; ending = refl })
spot-keeps v s spot w = tt

-- a value at an operand
operand-keeps : (v : ShownImage) (s : State) (d : Operand) (w : Value) → StateKeeps s (write_operand v s d w)
unfolding write_operand
operand-keeps v s (R r) w =
    provided-keeps s (with_register r w s) (not (same r Esp)) (runs-keeps s s _ _ (unchanged s))
operand-keeps v s (M m) w = go (spot_of v.shapes s m)
  where
    go : (o : Option Spot) → StateKeeps s (option_and_then (λ spot. write_spot v s spot w) o)
    go None = tt
    go (Some spot) = spot-keeps v s spot w
operand-keeps v s (I n) w = tt

-- ---- forms

-- an effect behind a test
tested-keeps : (s : State) (b : Bool) (o : Option EffectView) → EffectKeeps s o → EffectKeeps s (if b then o else None)
tested-keeps s true o h = h
tested-keeps s false o h = tt

-- the thread and its values alone change, behind a test
thread_keeps : (s : State) (thread : Thread) (values : List Value) (b : Bool)
    → EffectKeeps s (if b then Some (Moves (record s { thread = thread; values = values })) else None)
thread_keeps s thread values true = runs-keeps s s thread values (unchanged s)
thread_keeps s thread values false = tt

-- registers and flags after an operation
settled-keeps : (s t : State) (wide : Bool) (k : Option FlagKind) (m : WordState) → KeepsRest s t → KeepsRest s (settled wide k m t)
settled-keeps s t true k m h = runs-keeps s t _ _ h
settled-keeps s t false k m h = runs-keeps s t _ _ h

-- a fault, or what the operation does
fault_keeps : (s : State) (e : StepEffect) (o : Option EffectView) → EffectKeeps s o → EffectKeeps s (fault_or e o)
fault_keeps s (step.Fault n) o h = tt
fault_keeps s step.Next o h = h
fault_keeps s (step.Call a) o h = h
fault_keeps s step.Return o h = h

-- an operation's result is written
result-keeps : (s : State) (next : ℕ) (wide : Bool) (k : Option FlagKind) (m : WordState) (o : Option State) → StateKeeps s o
    → EffectKeeps s (option_map (λ t. goes_on next (settled wide k m t)) o)
result-keeps s next wide k m None h = tt
result-keeps s next wide k m (Some t) h = runs-keeps s (settled wide k m t) _ _ (settled-keeps s t wide k m h)

computes-keep : (v : ShownImage) (s : State) (i : Inst) (len next : ℕ) (sources : List Operand) (d : Operand) (wide : Bool) (k : Option FlagKind)
    → EffectKeeps s (computes v s i len next sources d wide k)
unfolding computes
computes-keep v s i len next sources d wide k =
    tested-keeps s (list_all (is_number v s) sources) _ (fault_keeps s (effect_of i (words_of s (word_among v s (d ∷ sources))) len) _
    (result-keeps s next wide k (executed i (words_of s (word_among v s (d ∷ sources)))) _ (operand-keeps v s d _)))

-- a value is moved
moved-keeps : (s : State) (next : ℕ) (o : Option State) → StateKeeps s o → EffectKeeps s (option_map (goes_on next) o)
moved-keeps s next None h = tt
moved-keeps s next (Some t) h = runs-keeps s t _ _ h

moves-keep : (v : ShownImage) (s : State) (next : ℕ) (d x : Operand) → EffectKeeps s (moves v s next d x)
unfolding moves
moves-keep v s next d x = go (operand_value v s x)
  where
    go : (o : Option Value) → EffectKeeps s (option_map (goes_on next) (option_and_then (write_operand v s d) o))
    go None = tt
    go (Some w) = moved-keeps s next (write_operand v s d w) (operand-keeps v s d w)

-- flags are set
flags-keep : (v : ShownImage) (s : State) (i : Inst) (next : ℕ) (xs : List Operand) (o : Option Known) → EffectKeeps s (sets_flags v s i next xs o)
flags-keep v s i next xs None = tt
flags-keep v s i next xs (Some k) = runs-keeps s s _ _ (unchanged s)

compares-keep : (v : ShownImage) (s : State) (i : Inst) (next : ℕ) (d x : Operand) → EffectKeeps s (compares v s i next d x)
unfolding compares
compares-keep v s i next d x = flags-keep v s i next (d ∷ x ∷ []) _

tests-keep : (v : ShownImage) (s : State) (i : Inst) (next : ℕ) (d x : Operand) → EffectKeeps s (tests v s i next d x)
unfolding tests
tests-keep v s i next d x = flags-keep v s i next (d ∷ x ∷ []) _

-- an address is computed
addresses-keep : (s : State) (i : Inst) (next : ℕ) (r : Reg) (m : Mem) → EffectKeeps s (addresses s i next r m)
unfolding addresses
addresses-keep s i next r m = thread_keeps s _ _ _

-- a value is pushed
pushes-keep : (s t : State) (next : ℕ) (w : Value) → KeepsRest s t → EffectKeeps s (Some (pushes next w t))
unfolding pushes
pushes-keep s t next w h = go (is_full t)
  where
    go : (b : Bool) → EffectKeeps s (Some (if b then Faults 12 else goes_on next (with_values (w ∷ t.values) t)))
    go true = tt
    go false = runs-keeps s t _ _ h

pushed-keeps : (s : State) (next : ℕ) (o : Option Value) → EffectKeeps s (option_map (λ w. pushes next w s) o)
pushed-keeps s next None = tt
pushed-keeps s next (Some w) = pushes-keep s s next w (unchanged s)

-- a value is popped
popped_keeps : (s : State) (next : ℕ) (r : Reg) (w : Value) (vs : List Value) (b : Bool)
    → EffectKeeps s (if b then None else Some (goes_on next (with_register r w (with_values vs s))))
popped_keeps s next r w vs true = tt
popped_keeps s next r w vs false = runs-keeps s s _ _ (unchanged s)

pops-keep : (s : State) (next : ℕ) (r : Reg) (vs : List Value) → EffectKeeps s (pops next r vs s)
pops-keep s next r [] = tt
pops-keep s next r (Ret a ∷ vs) = tt
pops-keep s next r (w ∷ vs) = popped_keeps s next r w vs (same r Esp)

-- values are dropped
drops-keep : (s : State) (i : Inst) (next : ℕ) (o : Option ℕ) → EffectKeeps s (drops s i next o)
drops-keep s i next None = tt
drops-keep s i next (Some n) = thread_keeps s _ _ _

-- a function is called
called-keeps : (v : ShownImage) (s : State) (next address : ℕ) (o : Option Sig)
    → EffectKeeps s (option_and_then (λ sig. if values_fit v s sig then Some (pushes address (Ret next) (entered next s)) else None) o)
called-keeps v s next address None = tt
called-keeps v s next address (Some sig) =
    tested-keeps s (values_fit v s sig) _ (pushes-keep s (entered next s) address (Ret next) (runs-keeps s s _ _ (unchanged s)))

value-calls-keep : (v : ShownImage) (s : State) (next : ℕ) (o : Option Value) → EffectKeeps s (calls_value v s next o)
value-calls-keep v s next (Some (Code a)) = called-keeps v s next a _
value-calls-keep v s next o = tt

returns-keep : (s : State) (vs : List Value) → EffectKeeps s (returns_from vs s)
returns-keep s (Ret zero ∷ []) = tt
returns-keep s (Ret (suc a) ∷ vs) = runs-keeps s s _ _ (unchanged s)
returns-keep s vs = tt

jumps-keep : (image : ImageParts) (s : State) (to : ℕ) → EffectKeeps s (jumps image s to)
jumps-keep image s to = thread_keeps s _ _ _

branches-keep : (image : ImageParts) (s : State) (next : ℕ) (c : Cond) (to : ℕ) → EffectKeeps s (branches image s next c to)
branches-keep image s next c to = thread_keeps s _ _ _

-- ---- all instructions

-- an entry of the Nucleus is called, or else a function
calls-keep : (v : ShownImage) (s : State) (next address : ℕ) → EffectKeeps s (calls_to v s next address)
unfolding calls_to
calls-keep v s next address = numbered (entry_number address)
  where
    other : Option EffectView
    other = calls_function v s next address

    asked : (k : ℕ) (b : Bool) → EffectKeeps s (if b then Some (Calls k) else None)
    asked k true = tt
    asked k false = tt

    entry : (k : ℕ) (a : Option Arguments) → EffectKeeps s (option_map_or (calls_entry s k) a other)
    entry k None = called-keeps v s next address _
    entry k (Some x) = asked k (has_arguments x (s.thread.regs Eax) (s.thread.regs Ecx))

    numbered : (called : Option ℕ) → EffectKeeps s (numbered_entry_or s other called)
    numbered None = called-keeps v s next address _
    numbered (Some k) = entry k (slice_get nucleus_arguments k)

form_keeps : (image : ImageParts) (s : State) (i : Inst) (len next : ℕ) (form : Form) → EffectKeeps s (form_effect image s i len next form)
unfolding form_effect
form_keeps image s i len next Refused = tt
form_keeps image s i len next (Compute sources d wide k) = computes-keep (shown image) s i len next sources d wide k
form_keeps image s i len next (Move d x) = moves-keep (shown image) s next d x
form_keeps image s i len next (Address r m) = addresses-keep s i next r m
form_keeps image s i len next (Compare d x) = compares-keep (shown image) s i next d x
form_keeps image s i len next (TestBits d x) = tests-keep (shown image) s i next d x
form_keeps image s i len next (PushOf x) = pushed-keeps s next (operand_value (shown image) s x)
form_keeps image s i len next (PopTo r) = pops-keep s next r s.values
form_keeps image s i len next (DropSlots bytes) = drops-keep s i next (slots_in bytes)
form_keeps image s i len next (CallTo a) = calls-keep (shown image) s next a
form_keeps image s i len next (CallBy x) = value-calls-keep (shown image) s next (operand_value (shown image) s x)
form_keeps image s i len next Return = returns-keep s s.values
form_keeps image s i len next (Jump to) = jumps-keep image s to
form_keeps image s i len next (Branch c to) = branches-keep image s next c to
form_keeps image s i len next Nothing = runs-keeps s s _ _ (unchanged s)

-- what an instruction leaves as it was
pub effect_keeps : (image : ImageParts) (s : State) (i : Inst) (len : ℕ) → EffectKeeps s (Effect image s i len)
unfolding Effect
effect_keeps image s i len = form_keeps image s i len (next_address s.thread.place len) (form_of (next_address s.thread.place len) i)
