-- TEST: the flags tell of two numbers, or of a register that may hold null.
use Rattle.std.proofs.Common.{◌≡◌, ◌∙◌, sym, ap, subst, ◌&&◌, ℕ, Bool, true, false, if◌then◌else◌, Option, Some, None, is_some, unwrap_or, refl, arith, [], ◌∷◌}
use Rattle.std.specs.Option.{option_map}
use Rattle.std.proofs.lemmas.Bool.{and_parts}
use Rattle.ia32_code.specs.declared.instruction.Reg.{Reg}
use Rattle.ia32_code.specs.declared.instruction.Reg.TheVariants.{Esp}
use Rattle.ia32_code.specs.declared.instruction.Operand.{Operand}
use Rattle.ia32_code.specs.declared.instruction.Operand.TheVariants.{R, M, I}
use Rattle.ia32_code.specs.declared.instruction.Inst.{Inst}
use Rattle.ia32_code.specs.declared.instruction.Inst.TheVariants as inst
use Rattle.stack_states.specs.declared.flag_bits.FlagBits.{FlagBits}
use Rattle.ia32_step.specs.Operands.{read_word}
use Rattle.ia32_step.specs.Sums.{and_of}
use Rattle.ia32_step.specs.Effects.{executed}
use Rattle.tal_types.specs.declared.types.Ty.{Ty}
use Rattle.tal_types.specs.declared.types.FlagKind.{FlagKind}
use Rattle.tal_types.specs.declared.types.FlagKind.TheVariants as kind
use Rattle.tal_types.specs.Contexts.{LiveContext, same}
use Rattle.tal_types.specs.Shown.{ShownImage}
use Rattle.tal_flow.specs.declared.forms.Form.TheVariants.{TestBits}
use Rattle.tal_flow.specs.declared.rows.Family.{Family}
use Rattle.tal_flow.specs.declared.rows.Family.TheVariants.{Numbers}
use Rattle.tal_flow.specs.Places.{spares_esp}
use Rattle.tal_flow.specs.Rows.{family, has_null, null_kind, same_register, test_row, test_kind}
use Rattle.tal_flow.specs.Afterwards.{with_kind, after_form}
use Rattle.tal_flow.specs.Rules.{operand_rule}
use Rattle.tal_image.specs.Shown.{shown}
use Rattle.tal_checker.specs.Running.{RunsOn}
use Rattle.typed_machine.specs.Values.{Value, Number, Word}
use Rattle.typed_machine.specs.States.{State, Equality, places_of, with_flags}
use Rattle.typed_machine.specs.Operands.{word_among}
use Rattle.typed_machine.specs.Words.{words_of}
use Rattle.typed_machine.specs.Effects.{goes_on, is_known, may_be_null, known_of_test, tests, form_effect}
use Rattle.typed_machine.specs.Frames.{Scope, fits_in}
use Rattle.typed_machine.specs.Typing.{is_null}
use Rattle.typed_safety.specs.Laws.{ImageLaws}
use Rattle.typed_safety.proofs.Scopes.{resolved, type_of, value_of}
use Rattle.typed_safety.proofs.Fitted.{StateFits}
use Rattle.typed_safety.proofs.InstructionForms.{FormTells}
use Rattle.typed_safety.proofs.Operations.{FormLeads, Leads}
use Rattle.typed_safety.proofs.FlagWords.{register-word, zero-of_test}
use Rattle.typed_safety.proofs.Families.{number-family, null-family, null-other, FlagsTell, flags-lead, null-tells, IsFound, register-holds, family-value}

-- and is tested with itself
pub null-test : (w : Value) (u : Option Value) → may_be_null w ≡ true → known_of_test (Some w) u true ≡ Some Equality
unfolding known_of_test
null-test w u h = grind arith

-- the flags of TEST
abbrev pub tested : ShownImage → State → Operand → Operand → FlagBits
tested v s d x = (executed (inst.Test d x) (words_of s (word_among v s (d ∷ x ∷ [])))).flags

-- where no rule fails, TEST of the operands has a kind
test-kind-there : (l : Scope) (c : LiveContext) (s : State) (d x : Operand) → operand_rule (shown l.image) c s.thread.place (TestBits d x) ≡ None
    → is_some (test_kind (resolved l c s d) (resolved l c s x)) ≡ true
unfolding operand_rule
test-kind-there l c s d x e = grind arith

module _ (l : Scope) (result : Ty) (c : LiveContext) (s : State) (h : StateFits l result c s) (laws : ImageLaws l.image) (runs : RunsOn l.image) where
  -- two numbers
  numbers-tested : (d x : Operand) → IsFound l c s d → IsFound l c s x
      → family (type_of l c s d) ≡ Numbers → family (type_of l c s x) ≡ Numbers
      → FlagsTell l s (tested (shown l.image) s d x) (known_of_test (value_of l s d) (value_of l s x) (same_register d x)) kind.Num
  unfolding known_of_test is_known
  numbers-tested d x is_d is_x e g =
      let w = family-value l result c s h laws d is_d (λ n. cc) in
      let u = family-value l result c s h laws x is_x (λ n. cc) in
      let a = number-family l w.0 _ w.2 e in
      let b = number-family l u.0 _ u.2 g in
      let first : value_of l s d ≡ Some (Number a.0) = w.1 ∙ ap (λ v. Some v) a.1 in
      let second : value_of l s x ≡ Some (Number b.0) = u.1 ∙ ap (λ v. Some v) b.1 in
      rw (first, second) (λ c allowed. refl, tt)

  -- ZF after a test of a register with itself
  test-zero : (r : Reg) (w : Value) (t : Ty) → spares_esp (R r) ≡ true → s.thread.regs r ≡ w → fits_in l w t ≡ true → has_null (family t) ≡ true → (tested (shown l.image) s (R r) (R r)).zero ≡ is_null w
  unfolding spares_esp
  test-zero r w t spares holds f e =
      let other : same r Esp ≡ false = grind arith in
      let word : read_word (R r) (words_of s (word_among (shown l.image) s (R r ∷ R r ∷ []))) ≡ Word (places_of s) w =
      register-word s r (word_among (shown l.image) s (R r ∷ R r ∷ [])) other ∙ ap (Word (places_of s)) holds in
      ap (λ n. (and_of n n).flags.zero) word ∙ zero-of_test l s runs h.store w t f e

  -- a register with itself, which may hold null
  null-tested : (d x : Operand) → IsFound l c s d → has_null (family (type_of l c s d)) ≡ true → same_register d x ≡ true
      → FlagsTell l s (tested (shown l.image) s d x) (known_of_test (value_of l s d) (value_of l s x) (same_register d x)) (null_kind d)
  null-tested (R r) (R q) is_d null alike =
      let w = family-value l result c s h laws (R r) is_d (null-other _ null) in
      let is = laws.types.same_told r q alike in
      rw (w.1, alike, null-test w.0 (value_of l s (R q)) (null-family l w.0 _ w.2 null))
      (null-tells l s (tested (shown l.image) s (R r) (R q)) (R r) w.0 (shown l.image) w.1
      (λ p e. ap (λ y. (tested (shown l.image) s (R r) (R y)).zero) (sym is) ∙ test-zero r w.0 _ is_d.spares (register-holds l s r w.0 w.1) w.2 null))
  null-tested (R r) (M m) is_d null alike = absurd (grind arith)
  null-tested (R r) (I n) is_d null alike = absurd (grind arith)
  null-tested (M m) x is_d null alike = absurd (grind arith)
  null-tested (I n) x is_d null alike = absurd (grind arith)

  -- each row of TEST
  test-tells : (d x : Operand) (kk : FlagKind) → IsFound l c s d → IsFound l c s x → test_kind (resolved l c s d) (resolved l c s x) ≡ Some kk
      → FlagsTell l s (tested (shown l.image) s d x) (known_of_test (value_of l s d) (value_of l s x) (same_register d x)) kk
  test-tells d x kk is_d is_x e = go (family (type_of l c s d)) refl (family (type_of l c s x)) refl e
    where
      is : (k : FlagKind) → Some k ≡ Some kk → FlagsTell l s (tested (shown l.image) s d x) (known_of_test (value_of l s d) (value_of l s x) (same_register d x)) k
          → FlagsTell l s (tested (shown l.image) s d x) (known_of_test (value_of l s d) (value_of l s x) (same_register d x)) kk
      is k f t = let same : k ≡ kk = cc in
          subst (λ y. FlagsTell l s (tested (shown l.image) s d x) (known_of_test (value_of l s d) (value_of l s x) (same_register d x)) y) same t

      rest : (b : Bool) → (same_register d x && has_null (family (type_of l c s d))) ≡ b → (if b then Some (null_kind d) else None) ≡ Some kk
          → FlagsTell l s (tested (shown l.image) s d x) (known_of_test (value_of l s d) (value_of l s x) (same_register d x)) kk
      rest true f g = let parts = and_parts (same_register d x) _ f in is (null_kind d) g (null-tested d x is_d parts.1 parts.0)
      rest false f g = absurd (cc)

      go : (f : Family) → family (type_of l c s d) ≡ f → (g : Family) → family (type_of l c s x) ≡ g
          → test_row d f g (same_register d x) ≡ Some kk
          → FlagsTell l s (tested (shown l.image) s d x) (known_of_test (value_of l s d) (value_of l s x) (same_register d x)) kk
      go Numbers u Numbers v w = is kind.Num w (numbers-tested d x is_d is_x u v)
      go f u g v w = rest (same_register d x && has_null f) (ap (λ y. same_register d x && has_null y) u) w

  -- TEST
  pub test-leads : (i : Inst) (len next : ℕ) (d x : Operand) → FormTells i (TestBits d x) → FormLeads l result c s i len next (TestBits d x)
  unfolding form_effect tests after_form operand_rule
  test-leads i len next d x tells e =
      rw tells (go (test_kind (resolved l c s d) (resolved l c s x)) refl (test-kind-there l c s d x e))
    where
      go : (o : Option FlagKind) → test_kind (resolved l c s d) (resolved l c s x) ≡ o → is_some o ≡ true
          → Leads l result (with_kind (unwrap_or o kind.Lost) c) next
          (option_map (λ known. goes_on next (with_flags (tested (shown l.image) s d x) known s))
          (known_of_test (value_of l s d) (value_of l s x) (same_register d x)))
      go None f g = absurd (grind arith)
      go (Some kk) f g =
          flags-lead l result c s h next (tested (shown l.image) s d x) _ kk (test-tells d x kk (record { spares = grind arith; finds = grind arith }) (record { spares = grind arith; finds = grind arith }) f)
