-- Operations on numbers, on words that stand for a state.
use Rattle.std.specs.Prelude.{◌==◌, slice_index, slice_set, if◌then◌else◌}
use Rattle.std.specs.Option.{option_map}
use Rattle.std.specs.List.{list_all}
use Rattle.std.proofs.Common.{◌≡◌, ◌≢◌, ℕ, Bool, true, false, ◌⊎◌, inl, inr, List, [], ◌∷◌, Option, Some, None, refl, sym, ap, subst, ◌∙◌, arith}
use Rattle.std.proofs.lemmas.Bool.{and_parts}
use Rattle.std.proofs.lemmas.Bool.Decides.{nat_tests}
use Rattle.ia32_code.specs.declared.instruction.Reg.{Reg}
use Rattle.ia32_code.specs.declared.instruction.Reg.TheVariants.{Eax, Ecx, Edx, Ebx, Esp, Ebp, Esi, Edi}
use Rattle.ia32_code.specs.declared.instruction.Operand.{Operand}
use Rattle.ia32_code.specs.declared.instruction.Operand.TheVariants.{R, M, I}
use Rattle.ia32_code.specs.declared.instruction.Inst.{Inst}
use Rattle.ia32_code.specs.OperandForms.{number}
use Rattle.ia32_step.specs.declared.cpu.Cpu.{Cpu}
use Rattle.ia32_step.specs.declared.effect.Effect.{Effect as StepEffect}
use Rattle.ia32_step.specs.declared.effect.Effect.TheVariants as step
use Rattle.stack_states.specs.declared.flag_bits.FlagBits.{FlagBits}
use Rattle.ia32_step.specs.Operands.{WordState, address_of, read_word, put_word}
use Rattle.ia32_step.specs.Effects.{executed, effect_of}
use Rattle.tal_types.specs.declared.types.FlagKind.{FlagKind}
use Rattle.tal_types.specs.Contexts.{same}
use Rattle.tal_types.specs.Shown.{ShownImage}
use Rattle.tal_flow.specs.Rules.{next_address}
use Rattle.tal_image.specs.Image.{ImageParts}
use Rattle.tal_image.specs.Shown.{shown}
use Rattle.typed_machine.specs.Values.{Value, Number, Word}
use Rattle.typed_machine.specs.States.{State, at_place, with_register}
use Rattle.typed_machine.specs.Operands.{word_among, is_number, write_operand}
use Rattle.typed_machine.specs.Effects.{Moves, Faults, goes_on, settled, fault_or, computed, computes}
use Rattle.typed_machine.specs.Words.{words_of}
use Rattle.word_machine.specs.Memory.{MemoryView, is_mapped, memory_word}
use Rattle.word_machine.proofs.Spelled.{MayUse, OneInMemory}
use Rattle.word_machine.proofs.Operating.{over, Agrees, AllAgree, Operates, Widens}
use Rattle.word_machine.proofs.Grounding.{words_over, thread_stands, Begins}
use Rattle.word_machine.proofs.OperandWords.{OperandThere, AllThere, all-reached, number-there}
use Rattle.word_machine.proofs.Putting.{PutFor, put-reached, put-stands}
use Rattle.word_machine.proofs.Leaving.{ran_on, StepOf, stays, thread_step}

-- ---- the one word in memory

-- each of these operands may be used
abbrev pub AllUsed : ImageParts → (ℕ → Bool) → State → List Operand → Type 0
AllUsed image live s [] = Unit {0}
AllUsed image live s (x ∷ xs) = MayUse image live s x × AllUsed image live s xs

module _ {image : ImageParts} {s : State} {m : MemoryView} where
  -- an operand agrees with the word of those among which it comes first
  pub agrees_first : (x : Operand) (xs : List Operand) → OperandThere image s m x
      → Agrees (memory_word m) (word_among (shown image) s (x ∷ xs)) (words_over s m).regs x
  unfolding word_among
  agrees_first (R r) xs h = tt
  agrees_first (M a) xs h = h.agrees
  agrees_first (I n) xs h = tt

  -- and with that of those among which it comes behind one that is not in memory
  pub agrees_second : (d x : Operand) (xs : List Operand) → OneInMemory d x → OperandThere image s m x
      → Agrees (memory_word m) (word_among (shown image) s (d ∷ x ∷ xs)) (words_over s m).regs x
  unfolding word_among
  agrees_second d (R r) xs one h = tt
  agrees_second d (I n) xs one h = tt
  agrees_second (R r) (M a) xs one h = h.agrees
  agrees_second (I n) (M a) xs one h = h.agrees
  agrees_second (M e) (M a) xs one h = absurd one

  -- a destination that is read too
  pub agrees_third : (d x : Operand) (xs : List Operand) → OneInMemory d x → OperandThere image s m x
      → Agrees (memory_word m) (word_among (shown image) s (d ∷ d ∷ x ∷ xs)) (words_over s m).regs x
  unfolding word_among
  agrees_third d (R r) xs one h = tt
  agrees_third d (I n) xs one h = tt
  agrees_third (R r) (M a) xs one h = h.agrees
  agrees_third (I n) (M a) xs one h = h.agrees
  agrees_third (M e) (M a) xs one h = absurd one

  -- an operand behind three registers
  pub agrees_fourth : (p q r : Reg) (x : Operand) → OperandThere image s m x
      → Agrees (memory_word m) (word_among (shown image) s (R p ∷ R q ∷ R r ∷ x ∷ [])) (words_over s m).regs x
  unfolding word_among
  agrees_fourth p q r (R o) h = tt
  agrees_fourth p q r (M a) h = h.agrees
  agrees_fourth p q r (I n) h = tt

-- ---- what was put is there

-- a register reads what was put there
pub register-read : (s : State) (w c : ℕ) (r : Reg) → slice_index (slice_set (words_of s w).regs (number r) c) (number r) ≡ c
unfolding words_of
register-read s w c Eax = refl
register-read s w c Ecx = refl
register-read s w c Edx = refl
register-read s w c Ebx = refl
register-read s w c Esp = refl
register-read s w c Ebp = refl
register-read s w c Esi = refl
register-read s w c Edi = refl

-- and so does any destination
put-read : (v : ShownImage) (s u : State) (w c : ℕ) (d : Operand) (x : Value) (flags : FlagBits) → write_operand v s d x ≡ Some u
    → read_word d (record (put_word d c (words_of s w)) { flags = flags }) ≡ c
unfolding write_operand words_of
put-read v s u w c (R r) x flags h = register-read s w c r
put-read v s u w c (M a) x flags h = go (address_of a (words_of s w).regs)
  where
    go : (k : ℕ) → (if k == k then c else w) ≡ c
    go k = let e : (k == k) ≡ true = grind (arith, nat_tests) in rw e refl
put-read v s u w c (I n) x flags h = absurd (cc)

module _ {image : ImageParts} {live : ℕ → Bool} {s : State} {cpu : Cpu} {m : MemoryView} {i : Inst} {len : ℕ} (b : Begins image live s cpu m i len) where
  -- operands that are numbers are there
  numbers-there : (xs : List Operand) → AllUsed image live s xs → list_all (is_number (shown image) s) xs ≡ true → AllThere image s m xs
  numbers-there [] spare h = tt
  numbers-there (x ∷ xs) spare h =
      let parts = and_parts (is_number (shown image) s x) (list_all (is_number (shown image) s) xs) h in
      (number-there b x spare.0 parts.0, numbers-there xs spare.1 parts.1)

  -- an operation that puts one word
  module _ (sources : List Operand) (d : Operand) (k : Option FlagKind) (o : Operates i sources d) (spares : MayUse image live s d) (spare : AllUsed image live s sources)
      (agree : AllThere image s m sources → AllAgree (memory_word m) (word_among (shown image) s (d ∷ sources)) (words_over s m).regs sources) where
    -- the words that it computes with, and what it makes of them
    before : WordState
    before = words_of s (word_among (shown image) s (d ∷ sources))

    next : ℕ
    next = next_address s.thread.place len

    -- where its destination is written
    written-step : (u : State) → AllThere image s m sources → write_operand (shown image) s d (Number (read_word d (executed i before))) ≡ Some u
        → StepOf image live s m i len (Some (goes_on next (settled false k (executed i before) u)))
    unfolding before next words_of Word next_address
    written-step u there written =
        let over_now = words_over s m in
        let agrees = agree there in
        let value : o.value over_now ≡ o.value before = o.value_alike (memory_word m) (word_among (shown image) s (d ∷ sources)) (words_of s 0) agrees in
        let flags : o.flags over_now ≡ o.flags before = o.flags_alike (memory_word m) (word_among (shown image) s (d ∷ sources)) (words_of s 0) agrees in
        let read : read_word d (executed i before) ≡ o.value before =
        ap (read_word d) (o.done_is before) ∙ put-read (shown image) s u (word_among (shown image) s (d ∷ sources)) (o.value before) d _ (o.flags before) written in
        let is : write_operand (shown image) s d (Number (o.value before)) ≡ Some u = rw read at written in
        let goes : effect_of i over_now len ≡ step.Next = o.effect_is over_now len in
        record {
          reaches = o.reaches over_now (is_mapped m) (put-reached b d _ u spares is) (all-reached image s m sources there);
          runs = o.runs;
          leaves = λ ran after r.
              let on = ran_on i len over_now m ran after goes r in
              let put : PutFor image live s u m after d (o.value before) =
              put-stands b d (Number (o.value before)) u after spares is
              (λ a. on.words a ∙ (ap (λ x. x.memory a) (o.done_is over_now) ∙ ap (λ n. (put_word d n over_now).memory a) value)) on.mapped on.formed in
              rw goes (
                at_place next (settled false k (executed i before) u),
                refl,
                record {
                  processor = record {
                    regs = on.regs ∙ (ap (λ x. x.regs) (o.done_is over_now) ∙ (ap (λ n. (put_word d n over_now).regs) value ∙ put.regs));
                    flags = on.flags ∙ (ap (λ x. x.flags) (o.done_is over_now) ∙ (flags ∙ sym (ap (λ x. x.flags) (o.done_is before))));
                    place = on.place ∙ o.next_is over_now len;
                  };
                  memory = thread_stands put.memory _;
                },
              );
        }

    -- where its operands are numbers
    pub operation-step : computes (shown image) s i len (next_address s.thread.place len) sources d false k ≢ None
        → StepOf image live s m i len (computes (shown image) s i len (next_address s.thread.place len) sources d false k)
    unfolding computes before next
    operation-step known = go (list_all (is_number (shown image) s) sources) refl known
      where
        put : (u : Option State) → AllThere image s m sources → write_operand (shown image) s d (Number (read_word d (executed i before))) ≡ u
            → option_map (λ t. goes_on next (settled false k (executed i before) t)) u ≢ None
            → StepOf image live s m i len (option_map (λ t. goes_on next (settled false k (executed i before) t)) u)
        put None there e h = absurd (h refl)
        put (Some u) there e h = written-step u there e

        go : (t : Bool) → list_all (is_number (shown image) s) sources ≡ t
            → (if t then computed (shown image) s i len next d false k before else None) ≢ None
            → StepOf image live s m i len (if t then computed (shown image) s i len next d false k before else None)
        go false e h = absurd (h refl)
        go true e h =
            subst (λ (x : StepEffect). StepOf image live s m i len
            (fault_or x (option_map (λ t. goes_on next (settled false k (executed i before) t)) (write_operand (shown image) s d (Number (read_word d (executed i before)))))))
            (sym (o.effect_is before len))
            (put (write_operand (shown image) s d (Number (read_word d (executed i before)))) (numbers-there sources spare e) refl (rw (o.effect_is before len) at h))

  -- an operation on EDX and EAX
  module _ (sources : List Operand) (k : Option FlagKind) (o : Widens i sources) (spare : AllUsed image live s sources)
      (agree : AllThere image s m sources → AllAgree (memory_word m) (word_among (shown image) s (R Eax ∷ sources)) (words_over s m).regs sources) where
    wide-before : WordState
    wide-before = words_of s (word_among (shown image) s (R Eax ∷ sources))

    -- the state where it goes on
    wide-after : State
    wide-after =
        at_place (next_address s.thread.place len) (settled true k (executed i wide-before) (with_register Eax (Number (read_word (R Eax) (executed i wide-before))) s))

    -- it goes on
    wide-goes : AllThere image s m sources → effect_of i wide-before len ≡ step.Next → StepOf image live s m i len (Some (Moves wide-after))
    unfolding wide-before wide-after words_of Word next_address same
    wide-goes there goes =
        let over_now = words_over s m in
        let agrees = agree there in
        let made : executed i over_now ≡ over (memory_word m) (executed i wide-before) = o.alike (memory_word m) (word_among (shown image) s (R Eax ∷ sources)) (words_of s 0) agrees in
        thread_step b wide-after.thread over_now refl
        (o.effect_alike (memory_word m) (word_among (shown image) s (R Eax ∷ sources)) (words_of s 0) len agrees ∙ goes)
        (ap (λ x. x.memory) made)
        (ap (λ x. x.regs) made ∙ o.others _ _ _ _ _ _ _ _ wide-before refl)
        (ap (λ x. x.flags) made) (o.next_is over_now len) (o.reaches over_now (is_mapped m) (all-reached image s m sources there)) o.runs

    -- or it is the divide error
    wide-faults : AllThere image s m sources → effect_of i wide-before len ≡ step.Fault 0 → StepOf image live s m i len (Some (Faults 0))
    unfolding wide-before words_of
    wide-faults there faults =
        let over_now = words_over s m in
        let is : effect_of i over_now len ≡ step.Fault 0 =
        o.effect_alike (memory_word m) (word_among (shown image) s (R Eax ∷ sources)) (words_of s 0) len (agree there) ∙ faults in
        record {
          reaches = o.reaches over_now (is_mapped m) (all-reached image s m sources there);
          runs = o.runs;
          leaves = λ ran after r. rw is (refl, stays b (step.Fault 0) ran after is refl r);
        }

    -- where its operands are numbers
    pub wide-step : computes (shown image) s i len (next_address s.thread.place len) sources (R Eax) true k ≢ None
        → StepOf image live s m i len (computes (shown image) s i len (next_address s.thread.place len) sources (R Eax) true k)
    unfolding computes wide-before wide-after write_operand same
    wide-step known = go (list_all (is_number (shown image) s) sources) refl known
      where
        at : AllThere image s m sources → (e : StepEffect) → effect_of i wide-before len ≡ e → (e ≡ step.Next) ⊎ (e ≡ step.Fault 0)
            → StepOf image live s m i len (fault_or e (Some (Moves wide-after)))
        at there step.Next is which = wide-goes there is
        at there (step.Fault n) is which =
            let zero : step.Fault n ≡ step.Fault 0 = elim which as (λ _. step.Fault n ≡ step.Fault 0) [ inl h ↦ absurd (cc) | inr h ↦ h ] in
            let same_vector : n ≡ 0 = cc in
            rw same_vector (wide-faults there (is ∙ zero))
        at there (step.Call a) is which = elim which as (λ _. StepOf image live s m i len (Some (Moves wide-after))) [ inl h ↦ absurd (cc) | inr h ↦ absurd (cc) ]
        at there step.Return is which = elim which as (λ _. StepOf image live s m i len (Some (Moves wide-after))) [ inl h ↦ absurd (cc) | inr h ↦ absurd (cc) ]

        go : (t : Bool) → list_all (is_number (shown image) s) sources ≡ t
            → (if t then computed (shown image) s i len (next_address s.thread.place len) (R Eax) true k wide-before else None) ≢ None
            → StepOf image live s m i len (if t then computed (shown image) s i len (next_address s.thread.place len) (R Eax) true k wide-before else None)
        go false e h = absurd (h refl)
        go true e h = at (numbers-there sources spare e) (effect_of i wide-before len) refl (o.effects wide-before len)
