-- Comparisons, on words that stand for a state: they set the flags alone.
use Rattle.std.specs.Prelude.{if◌then◌else◌}
use Rattle.std.proofs.Common.{◌≡◌, ◌≢◌, ℕ, ◌&&◌, Bool, true, false, List, [], ◌∷◌, Option, Some, None, refl, sym, ap, ap₂, ◌∙◌}
use Rattle.ia32_code.specs.declared.instruction.Alu.TheVariants as alu
use Rattle.ia32_code.specs.declared.instruction.Operand.{Operand}
use Rattle.ia32_code.specs.declared.instruction.Operand.TheVariants.{R, M, I}
use Rattle.ia32_code.specs.declared.instruction.Inst.{Inst}
use Rattle.ia32_code.specs.declared.instruction.Inst.TheVariants as inst
use Rattle.ia32_step.specs.declared.cpu.Cpu.{Cpu}
use Rattle.ia32_step.specs.Operands.{read_word}
use Rattle.ia32_step.specs.Effects.{executed}
use Rattle.tal_flow.specs.Rows.{same_register}
use Rattle.tal_flow.specs.Rules.{next_address}
use Rattle.tal_image.specs.Image.{ImageParts}
use Rattle.tal_image.specs.Shown.{shown}
use Rattle.typed_machine.specs.Values.{Value, Number}
use Rattle.typed_machine.specs.States.{State, Known, Equality, at_place, with_flags}
use Rattle.typed_machine.specs.Operands.{Spot, AtDisplay, spot_of, operand_value, word_among}
use Rattle.typed_machine.specs.Effects.{sets_flags, known_of, is_bare_zero, is_display, is_table, compares, known_of_test, tests}
use Rattle.typed_machine.specs.Words.{words_of}
use Rattle.word_machine.specs.Memory.{MemoryView, is_mapped, memory_word}
use Rattle.word_machine.proofs.Spelled.{MayUse, OneInMemory, PairIsPlain}
use Rattle.word_machine.proofs.Operating.{read-alike, SetsFlags}
use Rattle.word_machine.proofs.Grounding.{words_over, Begins}
use Rattle.word_machine.proofs.OperandWords.{OperandThere, value-there, spot-there}
use Rattle.word_machine.proofs.Computing.{agrees_first, agrees_second}
use Rattle.word_machine.proofs.Leaving.{StepOf, thread_step}

-- ---- what is known

-- nothing is known after TEST of a value with none, unless they are one register
nothing-known : (w : Value) → known_of_test (Some w) None false ≡ None
unfolding known_of_test
nothing-known (Number n) = refl
nothing-known w = refl

-- one register twice
alike-there : (image : ImageParts) (s : State) (m : MemoryView) (d x : Operand) → same_register d x ≡ true → OperandThere image s m x
alike-there image s m (R r) (R q) h = record { reached = tt; agrees = tt }
alike-there image s m d x h = absurd (cc)

module _ {image : ImageParts} {live : ℕ → Bool} {s : State} {cpu : Cpu} {m : MemoryView} {i : Inst} {len : ℕ} (b : Begins image live s cpu m i len) where
  -- an instruction that sets the flags by two operands that are there
  flags-step : (d x : Operand) → SetsFlags i d x → OneInMemory d x → OperandThere image s m d → OperandThere image s m x → (known : Option Known)
      → sets_flags (shown image) s i (next_address s.thread.place len) (d ∷ x ∷ []) known ≢ None
      → StepOf image live s m i len (sets_flags (shown image) s i (next_address s.thread.place len) (d ∷ x ∷ []) known)
  unfolding words_of next_address
  flags-step d x o one at_d at_x None h = absurd (h refl)
  flags-step d x o one at_d at_x (Some known) h =
      let over_now = words_over s m in
      let w = word_among (shown image) s (d ∷ x ∷ []) in
      let first : read_word d over_now ≡ read_word d (words_of s w) = read-alike (memory_word m) w (words_of s 0) d (agrees_first d (x ∷ []) at_d) in
      let second : read_word x over_now ≡ read_word x (words_of s w) = read-alike (memory_word m) w (words_of s 0) x (agrees_second d x [] one at_x) in
      let flags : (executed i over_now).flags ≡ (executed i (words_of s w)).flags =
      ap (λ k. k.flags) (o.done_is over_now) ∙ (ap₂ o.flags first second ∙ sym (ap (λ k. k.flags) (o.done_is (words_of s w)))) in
      thread_step b (at_place (next_address s.thread.place len) (with_flags (executed i (words_of s w)).flags known s)).thread over_now refl
      (o.effect_is over_now len) (ap (λ k. k.memory) (o.done_is over_now)) (ap (λ k. k.regs) (o.done_is over_now)) flags (o.next_is over_now len)
      (o.reaches over_now (is_mapped m) at_d.reached at_x.reached) o.runs

  -- a display that CMP names is there
  display-read : (d x : Operand) → i ≡ inst.Alu alu.Cmp d x → MayUse image live s d → is_display (shown image) s d ≡ true → OperandThere image s m d
  display-read (R r) x is spares h = absurd (cc)
  display-read (I n) x is spares h = absurd (cc)
  display-read (M a) x is spares h = go (spot_of (shown image).shapes s a) refl
    where
      go : (o : Option Spot) → spot_of (shown image).shapes s a ≡ o → OperandThere image s m (M a)
      go (Some (AtDisplay c d)) e =
          let word = b.laws.displays image b.grounds.well_typed live s b.grounds.typed b.placed b.here a x (b.is ∙ is) c d e in
          spot-there b a spares (AtDisplay c d) word.0 e word.1
      go o e = absurd (let none = rw e at h in cc)

  -- the operands of CMP are there, where something is known of them
  compared-there : (d x : Operand) → i ≡ inst.Alu alu.Cmp d x → PairIsPlain (MayUse image live s) d x → (o p : Option Value) → operand_value (shown image) s d ≡ o → operand_value (shown image) s x ≡ p
      → known_of o p (is_bare_zero x p) (is_display (shown image) s d) ≢ None → OperandThere image s m d × OperandThere image s m x
  compared-there d x is plain (Some w) (Some u) e f h = (value-there b d w plain.first e, value-there b x u plain.second f)
  compared-there d x is plain (Some w) None e f h = absurd (h refl)
  compared-there d x is plain None None e f h = go (is_display (shown image) s d) h
    where
      go : (t : Bool) → (if t && false then Some Equality else None) ≢ None → OperandThere image s m d × OperandThere image s m x
      go true g = absurd (g refl)
      go false g = absurd (g refl)
  compared-there d x is plain None (Some u) e f h = go (is_display (shown image) s d) refl h
    where
      go : (t : Bool) → is_display (shown image) s d ≡ t → (if t && is_table (Some u) then Some Equality else None) ≢ None → OperandThere image s m d × OperandThere image s m x
      go true k g = (display-read d x is plain.first k, value-there b x u plain.second f)
      go false k g = absurd (g refl)

  -- what sets flags knows something
  something_known : (xs : List Operand) (known : Option Known) → sets_flags (shown image) s i (next_address s.thread.place len) xs known ≢ None → known ≢ None
  something_known xs known h e = h (ap (sets_flags (shown image) s i (next_address s.thread.place len) xs) e)

  -- CMP
  pub compare-step : (d x : Operand) → i ≡ inst.Alu alu.Cmp d x → SetsFlags i d x → PairIsPlain (MayUse image live s) d x → compares (shown image) s i (next_address s.thread.place len) d x ≢ None
      → StepOf image live s m i len (compares (shown image) s i (next_address s.thread.place len) d x)
  unfolding compares
  compare-step d x is o plain h =
      let known = known_of (operand_value (shown image) s d) (operand_value (shown image) s x) (is_bare_zero x (operand_value (shown image) s x)) (is_display (shown image) s d) in
      let at = compared-there d x is plain (operand_value (shown image) s d) (operand_value (shown image) s x) refl refl (something_known (d ∷ x ∷ []) known h) in
      flags-step d x o plain.one at.0 at.1 known h

  -- the operands of TEST are there, where something is known of them
  tested-there : (d x : Operand) → PairIsPlain (MayUse image live s) d x → (o p : Option Value) → operand_value (shown image) s d ≡ o → operand_value (shown image) s x ≡ p
      → known_of_test o p (same_register d x) ≢ None → OperandThere image s m d × OperandThere image s m x
  unfolding known_of_test
  tested-there d x plain None p e f h = absurd (h refl)
  tested-there d x plain (Some w) (Some u) e f h = (value-there b d w plain.first e, value-there b x u plain.second f)
  tested-there d x plain (Some w) None e f h = (value-there b d w plain.first e, go (same_register d x) refl h)
    where
      go : (t : Bool) → same_register d x ≡ t → known_of_test (Some w) None t ≢ None → OperandThere image s m x
      go true k g = alike-there image s m d x k
      go false k g = absurd (g (nothing-known w))

  -- TEST
  pub test-step : (d x : Operand) → SetsFlags i d x → PairIsPlain (MayUse image live s) d x → tests (shown image) s i (next_address s.thread.place len) d x ≢ None
      → StepOf image live s m i len (tests (shown image) s i (next_address s.thread.place len) d x)
  unfolding tests
  test-step d x o plain h =
      let known = known_of_test (operand_value (shown image) s d) (operand_value (shown image) s x) (same_register d x) in
      let at = tested-there d x plain (operand_value (shown image) s d) (operand_value (shown image) s x) refl refl (something_known (d ∷ x ∷ []) known h) in
      flags-step d x o plain.one at.0 at.1 known h
