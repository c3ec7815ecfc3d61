-- Operations on numbers and addresses: what they compute is never looked at.
use Rattle.std.proofs.Common.{◌≡◌, ◌∙◌, sym, ℕ, Bool, true, false, Option, Some, None, is_some, arith, refl, List, [], ◌∷◌}
use Rattle.std.specs.Option.{option_map, option_and_then, option_map_or}
use Rattle.std.specs.List.{list_all}
use Rattle.std.proofs.lemmas.Bool.{and_parts}
use Rattle.ia32_code.specs.declared.instruction.Reg.{Reg}
use Rattle.ia32_code.specs.declared.instruction.Reg.TheVariants.{Edx, Esp}
use Rattle.ia32_code.specs.declared.instruction.Cond.{Cond}
use Rattle.ia32_code.specs.declared.instruction.Mem.{Mem}
use Rattle.ia32_code.specs.declared.instruction.Operand.{Operand}
use Rattle.ia32_code.specs.declared.instruction.Operand.TheVariants.{R, M, I}
use Rattle.ia32_code.specs.declared.instruction.Inst.{Inst}
use Rattle.stack_states.specs.declared.flag_bits.FlagBits.{FlagBits}
use Rattle.ia32_step.specs.declared.effect.Effect.{Effect as StepEffect}
use Rattle.ia32_step.specs.declared.effect.Effect.TheVariants as step
use Rattle.ia32_step.specs.Operands.{WordState, read_word}
use Rattle.ia32_step.specs.Effects.{executed, effect_of}
use Rattle.tal_types.specs.declared.types.Ty.{Ty}
use Rattle.tal_types.specs.declared.types.Ty.TheVariants as ty
use Rattle.tal_types.specs.declared.types.FlagKind.{FlagKind}
use Rattle.tal_types.specs.Types.{sub}
use Rattle.tal_types.specs.Contexts.{LiveContext, same}
use Rattle.tal_flow.specs.declared.forms.Form.{Form}
use Rattle.tal_flow.specs.declared.forms.Form.TheVariants.{Compute, Address}
use Rattle.tal_flow.specs.declared.places.Place.{Place}
use Rattle.tal_flow.specs.Places.{place_type, takes, operand_place, spares_esp, is_esp, is_num, found, readable, storable, operand_type}
use Rattle.tal_flow.specs.Afterwards.{with_kind, store, write_high, give_kind, after_form}
use Rattle.tal_flow.specs.Edges.{allows}
use Rattle.tal_flow.specs.Rules.{operand_rule}
use Rattle.tal_image.specs.Shown.{shown}
use Rattle.typed_machine.specs.Values.{Value, Number, fits_among}
use Rattle.typed_machine.specs.States.{State, Thread, Known, with_flags}
use Rattle.typed_machine.specs.Operands.{number_in, is_number, word_among, write_operand}
use Rattle.typed_machine.specs.Words.{words_of}
use Rattle.typed_machine.specs.Effects.{EffectView, Moves, Faults, Calls, Ends, goes_on, known_by, known_after, is_known, with_high, settled, fault_or, computed, computes, is_number_in, addresses, form_effect}
use Rattle.typed_machine.specs.Frames.{Scope}
use Rattle.typed_machine.specs.Typing.{KindTold}
use Rattle.typed_safety.specs.Laws.{ImageLaws}
use Rattle.typed_safety.proofs.Scopes.{rows, resolved, type_of, value_of, place_of}
use Rattle.typed_safety.proofs.Values.{number-num}
use Rattle.typed_safety.proofs.Frames.{ValueFits}
use Rattle.typed_safety.proofs.Fitted.{StateFits, place-fits}
use Rattle.typed_safety.proofs.Reading.{operand-read}
use Rattle.typed_safety.proofs.Writing.{SomeFits, register-fits, operand-written, written-flags}
use Rattle.typed_safety.proofs.InstructionForms.{is_plain, WritesSource, FormTells}

-- what an instruction does is to move on to a state that fits what is known next, or a fault
abbrev pub Leads : Scope → Ty → LiveContext → ℕ → Option EffectView → Type 0
Leads l result c next None = ⊥
Leads l result c next (Some (Moves s)) = (s.thread.place ≡ next) × StateFits l result c s
Leads l result c next (Some (Faults vector)) = Unit {0}
Leads l result c next (Some (Calls k)) = ⊥
Leads l result c next (Some Ends) = ⊥

-- what an instruction of the form at the running place does, where no rule for its operands fails
abbrev pub FormLeads : Scope → Ty → LiveContext → State → Inst → ℕ → ℕ → Form → Type 0
FormLeads l result c s i len next form =
    operand_rule (shown l.image) c s.thread.place form ≡ None → Leads l result (after_form (shown l.image) c s.thread.place form) next (form_effect l.image s i len next form)

-- what a kind allows is known after an operation that gives the kind
known-allowed : (k : FlagKind) (a : Cond) → allows k a ≡ true → is_known (known_by k) a ≡ true
unfolding allows is_known known_by
known-allowed k a h = grind arith

-- a plain kind tells nothing
plain-told : (l : Scope) (t : Thread) (k : FlagKind) → is_plain k ≡ true → KindTold l t k
plain-told l t k h = grind arith

-- a value of a number's type is one
number-seen : (l : Scope) (o : Option Value) (t : Ty) → ValueFits l o t → is_num t ≡ true → is_some (option_and_then number_in o) ≡ true
unfolding fits_among is_num number_in
number-seen l None t h e = absurd h
number-seen l (Some w) t h e = grind arith

module _ (l : Scope) (result : Ty) where
  -- the flags and what is known of them change
  pub flags-fit : (c : LiveContext) (s : State) (k : FlagKind) (f : FlagBits) (known : Known) → StateFits l result c s → ((a : Cond) → allows k a ≡ true → is_known known a ≡ true)
      → KindTold l (record s.thread { flags = f; known = known }) k → StateFits l result (with_kind k c) (with_flags f known s)
  flags-fit c s k f known h conditions told = record {
    thread = record {
      regs = h.thread.regs;
      pairs = h.thread.pairs;
      heads = h.thread.heads;
      conditions = conditions;
      told = told;
      frames = h.thread.frames;
      room = h.thread.room;
    };
    table = h.table;
    statics = h.statics;
    store = h.store;
  }

  -- the upper word of a wide result
  high-fits : (c : LiveContext) (s : State) (wide : Bool) (m : WordState) → StateFits l result c s → StateFits l result (write_high wide c) (with_high wide m s)
  unfolding write_high
  high-fits c s true m h = register-fits l result c s Edx (Number (read_word (R Edx) m)) ty.Num h (number-num (shown l.image) l.live l.shapes _)
  high-fits c s false m h = h

  -- flags that are the same
  same-flags : (c : LiveContext) (s : State) (f : FlagBits) → f ≡ s.thread.flags → StateFits l result c s → StateFits l result c (with_flags f s.thread.known s)
  same-flags c s f e h = rw e h

  -- the upper word and the flags after an operation
  settled-fits : (c : LiveContext) (s : State) (wide : Bool) (k : Option FlagKind) (m : WordState) → StateFits l result c s → option_map_or is_plain k true ≡ true → (k ≡ None → m.flags ≡ s.thread.flags)
      → StateFits l result (give_kind k (write_high wide c)) (settled wide k m s)
  unfolding give_kind known_after
  settled-fits c s wide (Some k) m h plain same = flags-fit (write_high wide c) (with_high wide m s) k m.flags (known_by k) (high-fits c s wide m h) (known-allowed k)
      (plain-told l (record (with_high wide m s).thread { flags = m.flags; known = known_by k }) k plain)
  settled-fits c s true None m h plain same = same-flags (write_high true c) (with_high true m s) m.flags (same refl) (high-fits c s true m h)
  settled-fits c s false None m h plain same = same-flags (write_high false c) s m.flags (same refl) (high-fits c s false m h)

  -- what is written leads on
  pub written-leads : (c : LiveContext) (next : ℕ) (o : Option State) → SomeFits l result c o → Leads l result c next (option_map (goes_on next) o)
  written-leads c next None h = h
  written-leads c next (Some s) h = (refl, place-fits l result c s next h)

module _ (l : Scope) (result : Ty) (c : LiveContext) (s : State) (h : StateFits l result c s) (laws : ImageLaws l.image) where
  -- sources that the rules let pass are numbers
  sources_numbers : (xs : List Operand) → list_all (λ x. (resolved l c s x).spares_esp) xs ≡ true
      → list_all (λ x. found (resolved l c s x)) xs ≡ true → list_all (λ x. readable (resolved l c s x)) xs ≡ true
      → list_all (λ x. is_num (resolved l c s x).ty) xs ≡ true → list_all (is_number (shown l.image) s) xs ≡ true
  unfolding is_number
  sources_numbers [] a b d e = refl
  sources_numbers (x ∷ xs) a b d e =
      let spares = and_parts (spares_esp x) _ a in
      let finds = and_parts (found (resolved l c s x)) _ b in
      let reads = and_parts (readable (resolved l c s x)) _ d in
      let numbers = and_parts (is_num (type_of l c s x)) _ e in
      rw (number-seen l (value_of l s x) _ (operand-read l result c s h laws x spares.0 finds.0 reads.0) numbers.0)
      (sources_numbers xs spares.1 finds.1 reads.1 numbers.1)

  -- an operation that is no fault has written its result
  stored-leads : (next : ℕ) (d : Operand) (w : Value) (wide : Bool) (k : Option FlagKind) (m : WordState) → option_map_or is_plain k true ≡ true → (k ≡ None → m.flags ≡ s.thread.flags)
      → (o : Option State) → write_operand (shown l.image) s d w ≡ o → SomeFits l result (store (resolved l c s d) ty.Num c) o
      → Leads l result (give_kind k (write_high wide (store (resolved l c s d) ty.Num c))) next (option_map (λ t. goes_on next (settled wide k m t)) o)
  stored-leads next d w wide k m plain same None e f = f
  stored-leads next d w wide k m plain same (Some t) e f =
      (refl, place-fits l result _ (settled wide k m t) next (settled-fits l result _ t wide k m f plain (λ none. same none ∙ sym (written-flags (shown l.image) s t d w e))))

  -- a number may be stored where a number is read
  number-there : (m : Mem) → found (resolved l c s (M m)) ≡ true → is_num (type_of l c s (M m)) ≡ true
      → storable (rows l) ty.Num (resolved l c s (M m)) ≡ true
  unfolding found is_num operand_type storable operand_place sub
  number-there m a b = go (place_of l c m) a b
    where
      go : (p : Option Place) → is_some p ≡ true → is_num (option_map_or (place_type c) p ty.Junk) ≡ true → option_map_or (takes (rows l) ty.Num) p true ≡ true
      go p a b = grind arith

  -- an operation's result may be stored
  result-storable : (sources : List Operand) (d : Operand) → WritesSource sources d → list_all (λ x. found (resolved l c s x)) sources ≡ true
      → list_all (λ x. is_num (resolved l c s x).ty) sources ≡ true → storable (rows l) ty.Num (resolved l c s d) ≡ true
  unfolding storable operand_place
  result-storable sources (R r) writes a b = refl
  result-storable sources (I n) writes a b = refl
  result-storable [] (M m) writes a b = absurd (cc)
  result-storable (x ∷ xs) (M m) writes a b =
      let same : x ≡ M m = cc in
      let finds = and_parts (found (resolved l c s x)) _ a in
      let numbers = and_parts (is_num (type_of l c s x)) _ b in
      number-there m (rw same at finds.0) (rw same at numbers.0)

  -- an operation
  pub compute-leads : (i : Inst) (len next : ℕ) (sources : List Operand) (d : Operand) (wide : Bool) (k : Option FlagKind) → FormTells i (Compute sources d wide k)
      → FormLeads l result c s i len next (Compute sources d wide k)
  unfolding form_effect computes after_form operand_rule words_of
  compute-leads i len next sources d wide k tells e =
      rw (sources_numbers sources (grind arith) (grind arith) (grind arith) (grind arith)) (run (words_of s (word_among (shown l.image) s (d ∷ sources))) refl)
    where
      after : LiveContext
      after = give_kind k (write_high wide (store (resolved l c s d) ty.Num c))

      next_or : (m : WordState) → m.flags ≡ s.thread.flags → (f : StepEffect) → Leads l result after next
          (fault_or f (option_map (λ t. goes_on next (settled wide k (executed i m) t)) (write_operand (shown l.image) s d (Number (read_word d (executed i m))))))
      next_or m kept (step.Fault vector) = tt
      next_or m kept f =
          stored-leads next d (Number (read_word d (executed i m))) wide k (executed i m) tells.plain (λ none. tells.leaves none m ∙ kept)
          (write_operand (shown l.image) s d (Number (read_word d (executed i m)))) refl
          (operand-written l result c s h laws d (Number (read_word d (executed i m))) ty.Num (grind arith) (grind arith) (result-storable sources d tells.writes (grind arith) (grind arith)) (number-num (shown l.image) l.live l.shapes _))

      run : (m : WordState) → m.flags ≡ s.thread.flags → Leads l result after next (computed (shown l.image) s i len next d wide k m)
      run m kept = next_or m kept (effect_of i m len)

  -- ---- LEA

  -- a part of an address that the rules let pass is a number
  part-number : (q : Option Reg) → is_esp q ≡ false → option_map_or (λ r. is_num (c.regs r)) q true ≡ true → is_number_in s q ≡ true
  unfolding fits_among is_num number_in
  part-number None a b = refl
  part-number (Some r) a b = let fits = h.thread.regs r in grind arith

  -- LEA
  pub address-leads : (i : Inst) (len next : ℕ) (r : Reg) (m : Mem) → FormLeads l result c s i len next (Address r m)
  unfolding form_effect addresses after_form operand_rule
  address-leads i len next r m e =
      let other : same r Esp ≡ false = grind arith in
      rw (other, part-number m.base (grind arith) (grind arith), part-number m.index (grind arith) (grind arith))
      (refl, place-fits l result _ _ next (register-fits l result c s r (Number (read_word (R r) (executed i (words_of s 0)))) ty.Num h (number-num (shown l.image) l.live l.shapes _)))
