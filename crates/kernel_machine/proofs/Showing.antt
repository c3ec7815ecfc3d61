-- A machine that stands for a typed state shows that state's words.
use Rattle.std.specs.Prelude.{zero, suc, slice_index}
use Rattle.std.specs.Option.{option_map_or}
use Rattle.std.proofs.Common.{◌≡◌, ℕ, ◌+◌, ◌-◌, ◌*◌, ◌/◌, ◌<◌, ◌≤◌, ◌==◌, Bool, true, false, if◌then◌else◌, List, [], ◌∷◌, length, map, nat_lt, Some, slice_get, refl, sym, ◌∙◌, ap, ap₂, arith}
use Rattle.std.proofs.lemmas.Bool.Decides.{nat_tests}
use Rattle.ia32_step.specs.declared.cpu.Cpu.{Cpu}
use Rattle.object_layout.specs.Areas.{heap_start, statics_start}
use Rattle.device_model.specs.History.{History}
use Rattle.device_model.specs.Devices.{StandsFor}
use Rattle.object_layout.specs.declared.rows.FieldTy.{FieldTy}
use Rattle.stack_states.specs.declared.stack_state.StackState.{StackState}
use Rattle.tal_image.specs.Image.{ImageParts}
use Rattle.tal_image.specs.Conditions.{statics_fit}
use Rattle.tal_image.specs.Shown.{shown}
use Rattle.typed_machine.specs.Values.{Value, Word, all_objects}
use Rattle.typed_machine.specs.States.{State, Stack, EmptyStack, RunningStack, YieldedStack, InterruptedStack, places_of, most_values}
use Rattle.typed_machine.specs.Reaching.{live_in}
use Rattle.typed_machine.specs.Typing.{TypedAmong, Typed}
use Rattle.typed_machine.specs.Words.{upper_end, stack_pointer, esp_of}
use Rattle.typed_safety.specs.Laws.{RunsAreTyped}
use Rattle.word_machine.specs.Memory.{MemoryView, word_of, memory_word, heap_allows, is_mapped}
use Rattle.word_machine.specs.Standing.{kept_values, values_at, HoldsValues, CpuStands, MemoryStands}
use Rattle.nucleus_calls.specs.Nucleus.{state_by, states_by}
use Rattle.run_report.specs.Shown.{ShownStack, ShownWords, shown_stacks, shown_of}
use Rattle.kernel_machine.specs.Shown.{words_from, esp_by, stack_by, stacks_by}
use Rattle.kernel_machine.specs.Machine.{MachineView, shown_by, Stands, Lawful}
use Rattle.kernel_machine.specs.Laws.{MachinesShowTheirRuns}
use Rattle.kernel_machine.proofs.Cells.{screen_same}

-- ---- words one after another

-- a word that stands at an address
word-there : (m : MemoryView) (a w : ℕ) → word_of m a ≡ Some w → memory_word m a ≡ w
unfolding memory_word
word-there m a w e = rw e refl

-- each word of a list stands where it belongs
pub words-are : (m : MemoryView) (a n : ℕ) (ws : List ℕ) → length ws ≡ n → ((k : ℕ) → k < n → slice_get ws k ≡ word_of m (a + 4 * k)) → ws ≡ words_from m a n
unfolding words_from
words-are m a zero [] e each = refl
words-are m a zero (w ∷ ws) e each = absurd (cc)
words-are m a (suc n) [] e each = absurd (cc)
words-are m a (suc n) (w ∷ ws) e each =
    let first : Some w ≡ word_of m (a + 0) = each 0 (omega arith) in
    let none : a + 0 ≡ a = omega arith in
    let here : word_of m a ≡ Some w = sym (rw none at first) in
    ap₂ (λ (x : ℕ) xs. x ∷ xs) (sym (word-there m a w here)) (words-are m (a + 4) n ws (omega (arith, e))
    (λ k low. let next : a + 4 * suc k ≡ a + 4 + 4 * k = omega arith in rw next at (each (suc k) (omega (arith, low)))))

-- the words of values that stand from an address up
pub words-of-values : (m : MemoryView) (places : List ℕ) (a : ℕ) (values : List Value) → HoldsValues m places a values → words_from m a (length values) ≡ map (Word places) values
unfolding words_from
words-of-values m places a [] h = refl
words-of-values m places a (v ∷ vs) h =
    let none : a + 4 * 0 ≡ a = omega arith in
    let here : word_of m a ≡ Some (Word places v) = rw none at (h 0 v refl) in
    ap₂ (λ (x : ℕ) xs. x ∷ xs) (word-there m a (Word places v) here) (words-of-values m places (a + 4) vs
    (λ k w e. let next : a + 4 * suc k ≡ a + 4 + 4 * k = omega arith in rw next at (h (suc k) w e)))

-- ---- a stack

-- the values of the running stack
running-values : (image : ImageParts) (s : State) (n : ℕ) → TypedAmong image all_objects s → slice_get s.stacks n ≡ Some RunningStack → values_at s n ≡ s.values
unfolding values_at
running-values image s n typed here = go (n == s.current) refl
  where
    go : (b : Bool) → (n == s.current) ≡ b → (if b then s.values else option_map_or kept_values (slice_get s.stacks n) []) ≡ s.values
    go true e = refl
    go false e = absurd (let same = typed.only n here in grind (arith, nat_tests))

-- the values of another
other-values : (image : ImageParts) (s : State) (n : ℕ) (stack : Stack) → TypedAmong image all_objects s → slice_get s.stacks n ≡ Some stack → (stack ≡ RunningStack → ⊥)
    → values_at s n ≡ kept_values stack
unfolding values_at
other-values image s n stack typed here other = go (n == s.current) refl
  where
    go : (b : Bool) → (n == s.current) ≡ b → (if b then s.values else option_map_or kept_values (slice_get s.stacks n) []) ≡ kept_values stack
    go true e = absurd (other (let same : n ≡ s.current = grind (arith, nat_tests) in let current = typed.one in cc))
    go false e = rw here refl

-- ESP of a stack, and that it has room for the stack's words
record EspIs (s : State) (cpu : Cpu) (n : ℕ) (stack : Stack) : Type 0 where
  esp : esp_by cpu n (state_by (places_of s) n stack) ≡ stack_pointer n (length (values_at s n))
  few : length (values_at s n) ≤ most_values

esp_is : (image : ImageParts) (s : State) (cpu : Cpu) → TypedAmong image all_objects s → CpuStands s cpu → (n : ℕ) (stack : Stack) → slice_get s.stacks n ≡ Some stack → EspIs s cpu n stack
unfolding kept_values
esp_is image s cpu typed h n RunningStack here =
    let values = running-values image s n typed here in
    let current = typed.only n here in
    let top : slice_index cpu.regs 4 ≡ esp_of s = ap (λ rs. slice_index rs 4) h.regs in
    record { esp = rw (values, current) top; few = rw values typed.thread.room }
esp_is image s cpu typed h n EmptyStack here =
    let values = other-values image s n EmptyStack typed here (λ e. cc e) in
    record { esp = rw values (omega arith); few = rw values (omega arith) }
esp_is image s cpu typed h n (YieldedStack place kept) here =
    let values = other-values image s n (YieldedStack place kept) typed here (λ e. cc e) in
    record { esp = rw values refl; few = rw values (typed.others n (YieldedStack place kept) here).room }
esp_is image s cpu typed h n (InterruptedStack thread kept) here =
    let values = other-values image s n (InterruptedStack thread kept) typed here (λ e. cc e) in
    record { esp = rw values refl; few = rw values (typed.others n (InterruptedStack thread kept) here).room }

-- how many words lie from a stack's ESP up to its end
depth-is : (n depth : ℕ) → depth ≤ most_values → (upper_end n - stack_pointer n depth) / 4 ≡ depth
depth-is n depth few = omega (arith, few)

-- a place of a list is below its length
place-inside : (xs : List Stack) (n : ℕ) (x : Stack) → slice_get xs n ≡ Some x → n < length xs
place-inside [] n x e = absurd (cc)
place-inside (y ∷ ys) zero x e = omega arith
place-inside (y ∷ ys) (suc n) x e = let later = place-inside ys n x e in omega (arith, later)

-- a stack's words are those of its values
stack_shows : (image : ImageParts) (live : ℕ → Bool) (s : State) (cpu : Cpu) (m : MemoryView) → TypedAmong image all_objects s → CpuStands s cpu → MemoryStands image live s m → (n : ℕ) (stack : Stack)
    → slice_get s.stacks n ≡ Some stack
    → stack_by cpu m n (state_by (places_of s) n stack) ≡ record { state = state_by (places_of s) n stack; words = map (Word (places_of s)) (values_at s n) }
stack_shows image live s cpu m typed h memory n stack here =
    let at = esp_is image s cpu typed h n stack here in
    let inside : n < image.stacks = rw typed.count at (place-inside s.stacks n stack here) in
    let depth = depth-is n (length (values_at s n)) at.few in
    let words = words-of-values m (places_of s) (stack_pointer n (length (values_at s n))) (values_at s n) (memory.stacks n inside) in
    ap (λ ws. record { state = state_by (places_of s) n stack; words = ws })
    (ap₂ (λ a k. words_from m a ((upper_end n - k) / 4)) at.esp at.esp ∙ (ap (words_from m (stack_pointer n (length (values_at s n)))) depth ∙ words))

-- and so it is with all stacks from one on
stacks-show : (image : ImageParts) (live : ℕ → Bool) (s : State) (cpu : Cpu) (m : MemoryView) → TypedAmong image all_objects s → CpuStands s cpu → MemoryStands image live s m → (n : ℕ) (stacks : List Stack)
    → ((k : ℕ) (stack : Stack) → slice_get stacks k ≡ Some stack → slice_get s.stacks (n + k) ≡ Some stack)
    → stacks_by cpu m n (states_by (places_of s) n stacks) ≡ shown_stacks s n stacks
unfolding stacks_by states_by shown_stacks
stacks-show image live s cpu m typed h memory n [] there = refl
stacks-show image live s cpu m typed h memory n (stack ∷ stacks) there =
    let none : n + 0 ≡ n = omega arith in
    let here : slice_get s.stacks n ≡ Some stack = rw none at (there 0 stack refl) in
    ap₂ (λ (x : ShownStack) xs. x ∷ xs) (stack_shows image live s cpu m typed h memory n stack here)
    (stacks-show image live s cpu m typed h memory (n + 1) stacks
    (λ k x e. let next : n + suc k ≡ n + 1 + k = omega arith in rw next at (there (suc k) x e)))

-- ---- all that is shown

-- what is shown is its parts
shown-same : (a b : ShownWords) → a.regs ≡ b.regs → a.flags ≡ b.flags → a.place ≡ b.place → a.stacks ≡ b.stacks → a.statics ≡ b.statics → a.cells ≡ b.cells → a ≡ b
shown-same a b regs flags place stacks statics cells = λ i. record { regs = regs i; flags = flags i; place = place i; stacks = stacks i; statics = statics i; cells = cells i }

-- a machine shows the words of each typed state that it stands for
stands-shows : (machine : MachineView) (s : State) → Typed machine.image s → Stands machine s → shown_by machine ≡ shown_of s
unfolding shown_of
stands-shows machine s typed h =
    let all : (k : ℕ) (stack : Stack) → slice_get s.stacks k ≡ Some stack → slice_get s.stacks (0 + k) ≡ Some stack =
    λ k stack e. let none : 0 + k ≡ k = omega arith in rw none e in
    let memory = machine.nucleus.memory in
    let stacks = stacks-show machine.image (live_in machine.image s) s machine.cpu memory typed.among h.processor h.nucleus.memory 0 s.stacks all in
    let statics = words-of-values memory (places_of s) statics_start s.statics h.nucleus.memory.statics in
    shown-same (shown_by machine) (shown_of s) h.processor.regs h.processor.flags h.processor.place
    (ap (stacks_by machine.cpu memory 0) h.nucleus.stacks ∙ stacks)
    (ap (words_from memory statics_start) (sym typed.among.statics.count) ∙ statics)
    (screen_same machine.nucleus.devices s.devices h.nucleus.devices)

-- the law: the state that a run comes to is typed
pub follows-shows : RunsAreTyped → MachinesShowTheirRuns
follows-shows law machine entries w f =
    stands-shows machine f.run.state (law machine.image w machine.events machine.turns _ f.run f.legal.reached f.legal.legal).typed f.stands

-- ---- what is looked up of a machine

-- stack k of those from number n on
record IsBy (cpu : Cpu) (m : MemoryView) (n k : ℕ) (states : List StackState) (t : ShownStack) : Type 0 where
  state : StackState
  here : slice_get states k ≡ Some state
  is : t ≡ stack_by cpu m (n + k) state

stacks-read : (cpu : Cpu) (m : MemoryView) (n k : ℕ) (states : List StackState) (t : ShownStack) → slice_get (stacks_by cpu m n states) k ≡ Some t → IsBy cpu m n k states t
unfolding stacks_by
stacks-read cpu m n k [] t e = absurd (cc)
stacks-read cpu m n zero (x ∷ xs) t e = let none : n + 0 ≡ n = omega arith in record { state = x; here = refl; is = rw none cc }
stacks-read cpu m n (suc k) (x ∷ xs) t e =
    let r = stacks-read cpu m (n + 1) k xs t e in
    let next : n + 1 + k ≡ n + suc k = omega arith in
    record { state = r.state; here = r.here; is = rw next at r.is }

-- a stack that does this is shown so
pub stack_shown : (cpu : Cpu) (m : MemoryView) (k : ℕ) (states : List StackState) (state : StackState) (t : ShownStack) → slice_get states k ≡ Some state
    → slice_get (stacks_by cpu m 0 states) k ≡ Some t → t ≡ stack_by cpu m k state
stack_shown cpu m k states state t here e =
    let r = stacks-read cpu m 0 k states t e in
    let read = r.here in
    let same : r.state ≡ state = cc in
    let none : 0 + k ≡ k = omega arith in
    rw none at r.is ∙ ap (stack_by cpu m k) same

-- there are as many as the machine has
pub stacks-count : (cpu : Cpu) (m : MemoryView) (n : ℕ) (states : List StackState) → length (stacks_by cpu m n states) ≡ length states
unfolding stacks_by
stacks-count cpu m n [] = refl
stacks-count cpu m n (x ∷ xs) = ap suc (stacks-count cpu m (n + 1) xs)

-- a stack that is shown is one of the machine's
pub stack_inside : (cpu : Cpu) (m : MemoryView) (k : ℕ) (states : List StackState) → k < length (stacks_by cpu m 0 states) → k < length states
stack_inside cpu m k states low = rw stacks-count at low

-- the state of stack k of those from number n on
record IsStateBy (places : List ℕ) (n k : ℕ) (stacks : List Stack) (state : StackState) : Type 0 where
  stack : Stack
  here : slice_get stacks k ≡ Some stack
  is : state ≡ state_by places (n + k) stack

states_read : (places : List ℕ) (n k : ℕ) (stacks : List Stack) (state : StackState) → slice_get (states_by places n stacks) k ≡ Some state → IsStateBy places n k stacks state
unfolding states_by
states_read places n k [] state e = absurd (cc)
states_read places n zero (x ∷ xs) state e = let none : n + 0 ≡ n = omega arith in record { stack = x; here = refl; is = rw none cc }
states_read places n (suc k) (x ∷ xs) state e =
    let r = states_read places (n + 1) k xs state e in
    let next : n + 1 + k ≡ n + suc k = omega arith in
    record { stack = r.stack; here = r.here; is = rw next at r.is }

-- ESP of a stack tells its depth
pub record TellsDepth (cpu : Cpu) (k : ℕ) (state : StackState) : Type 0 where
  pub depth : ℕ
  pub esp : esp_by cpu k state ≡ stack_pointer k depth
  pub few : depth ≤ most_values

pub tells-depth : (machine : MachineView) (index : ℕ) → Lawful machine index → (k : ℕ) (state : StackState) → slice_get machine.nucleus.stacks k ≡ Some state
    → TellsDepth machine.cpu k state
tells-depth machine index h k state here =
    let r = states_read (places_of h.state) 0 k h.state.stacks state (rw h.stands.nucleus.stacks at here) in
    let at = esp_is machine.image h.state machine.cpu h.typed.among h.stands.processor k r.stack r.here in
    let none : 0 + k ≡ k = omega arith in
    let is : state ≡ state_by (places_of h.state) k r.stack = rw none at r.is in
    record { depth = length (values_at h.state k); esp = ap (esp_by machine.cpu k) is ∙ at.esp; few = at.few }

-- what an image shows of its statics, which are few
pub statics-shown : (image : ImageParts) (statics : List FieldTy) → statics ≡ (shown image).statics → length statics ≡ length image.statics
unfolding shown
statics-shown image statics e = ap length e

pub statics-few : (n : ℕ) → statics_fit n ≡ true → n ≤ 65536
statics-few n e = grind (arith, nat_tests, e)

-- a value of a list below its length
value-there : (vs : List Value) (k : ℕ) → k < length vs → (v : Value) × (slice_get vs k ≡ Some v)
value-there [] k low = absurd (omega (arith, low))
value-there (v ∷ vs) zero low = (v, refl)
value-there (v ∷ vs) (suc k) low = value-there vs k (omega (arith, low))

-- where a word stands below the heap, one is mapped
there-mapped : (m : MemoryView) (a w : ℕ) → a < heap_start → word_of m a ≡ Some w → is_mapped m a ≡ true
unfolding is_mapped heap_allows
there-mapped m a w low e = let below : nat_lt a heap_start ≡ true = grind (arith, nat_tests) in rw (e, below) refl

-- the words of a lawful machine's statics are there
pub statics-there : (machine : MachineView) (index : ℕ) → Lawful machine index → (k : ℕ) → k < length machine.image.statics
    → is_mapped machine.nucleus.memory (statics_start + 4 * k) ≡ true
statics-there machine index h k low =
    let v = value-there h.state.statics k (rw (← h.typed.among.statics.count) at low) in
    let short = h.stands.nucleus.memory.lie.short in
    let count = h.typed.among.statics.count in
    there-mapped machine.nucleus.memory _ _ (omega (arith, short, count, low)) (h.stands.nucleus.memory.statics k v.0 v.1)

-- the devices of a lawful machine stand for a history
pub history_there : (machine : MachineView) (index : ℕ) → Lawful machine index → (history : History) × StandsFor machine.nucleus.devices history
history_there machine index h = (h.state.devices, h.stands.nucleus.devices)
