-- CMP: the flags are those of the operands' words, and they tell what the new flag kind says.
use Rattle.std.proofs.Common.{◌≡◌, ◌⊎◌, inl, inr, ◌∙◌, sym, ap, subst, ◌==◌, ◌&&◌, ℕ, Bool, true, false, nat_lt, if◌then◌else◌, Option, Some, None, is_some, unwrap_or, refl, arith, [], ◌∷◌}
use Rattle.std.specs.Option.{option_map, option_and_then, option_map_or}
use Rattle.std.proofs.lemmas.Bool.{and_parts}
use Rattle.std.proofs.lemmas.Bool.Decides.{nat_tests}
use Rattle.ia32_code.specs.declared.instruction.Reg.{Reg}
use Rattle.ia32_code.specs.declared.instruction.Reg.TheVariants.{Esp}
use Rattle.ia32_code.specs.declared.instruction.Mem.{Mem}
use Rattle.ia32_code.specs.declared.instruction.Operand.{Operand}
use Rattle.ia32_code.specs.declared.instruction.Operand.TheVariants.{R, M, I}
use Rattle.ia32_code.specs.declared.instruction.Inst.{Inst}
use Rattle.ia32_step.specs.Operands.{read_word}
use Rattle.ia32_step.specs.Sums.{sub_of}
use Rattle.tal_types.specs.declared.types.Ty.{Ty}
use Rattle.tal_types.specs.declared.types.Ty.TheVariants as ty
use Rattle.tal_types.specs.declared.types.FlagKind.{FlagKind}
use Rattle.tal_types.specs.declared.types.FlagKind.TheVariants as kind
use Rattle.tal_types.specs.declared.views.Mark.{Mark}
use Rattle.tal_types.specs.Contexts.{LiveContext, same}
use Rattle.tal_flow.specs.declared.forms.Form.TheVariants.{Compare}
use Rattle.tal_flow.specs.declared.places.Place.{Place}
use Rattle.tal_flow.specs.declared.places.Place.TheVariants.{Length}
use Rattle.tal_flow.specs.declared.rows.Family.{Family}
use Rattle.tal_flow.specs.declared.rows.Family.TheVariants.{Numbers, Objects, Arrays}
use Rattle.tal_flow.specs.Places.{found, is_num, mark_type, spares_esp, operand_place, operand_type, immediate_type}
use Rattle.tal_flow.specs.Rows.{family, has_null, is_zero, marked_class, base_of_length, length_base, display_row, bound_kind, null_kind, compare_row, compare_kind}
use Rattle.tal_flow.specs.Afterwards.{with_kind, after_form}
use Rattle.tal_flow.specs.declared.trials.RuleName.TheVariants as rule
use Rattle.tal_flow.specs.Trials.{ask, first_failing}
use Rattle.tal_flow.specs.Rules.{operand_rule}
use Rattle.tal_image.specs.Shown.{shown}
use Rattle.tal_checker.specs.Running.{RunsOn}
use Rattle.typed_machine.specs.Values.{Value, Number, Word}
use Rattle.typed_machine.specs.States.{State, AllConditions, places_of, with_flags}
use Rattle.typed_machine.specs.Operands.{Spot, AtLength, marked_value, immediate_value, read_spot, operand_value, word_among, word_named}
use Rattle.typed_machine.specs.Words.{words_of}
use Rattle.typed_machine.specs.Effects.{goes_on, is_known, is_bare_zero, known_of_values, compares, form_effect}
use Rattle.typed_machine.specs.Frames.{Scope, fits_in}
use Rattle.typed_machine.specs.Typing.{BoundTold, is_null}
use Rattle.typed_safety.specs.Laws.{ImageLaws}
use Rattle.typed_safety.proofs.Scopes.{rows, resolved, type_of, value_of, place_of, spot_in}
use Rattle.typed_safety.proofs.Fitted.{StateFits}
use Rattle.typed_safety.proofs.Spots.{SpotFound, spot-found}
use Rattle.typed_safety.proofs.InstructionForms.{FormTells}
use Rattle.typed_safety.proofs.Operations.{FormLeads, Leads}
use Rattle.typed_safety.proofs.FlagWords.{register-word, memory-word, zero-of_null, carry-of_below}
use Rattle.typed_safety.proofs.Families.{number-family, object_family, null-family, null-known, objects_known, null-other, object_other, object_which, FlagsTell, compared, known_by_compare, MarksHold, flags-lead, equal-tells, null-tells, IsFound, register-holds, family-value}
use Rattle.typed_safety.proofs.Displays.{display-row}

-- where none of the three rules of CMP fails, each holds
pub three-hold : (a b k : Bool) → first_failing (ask rule.EspRole a ∷ ask rule.Place b ∷ ask rule.Comparison k ∷ []) ≡ None → (a ≡ true) × (b ≡ true) × (k ≡ true)
three-hold a b k e = (grind arith, grind arith, grind arith)

module _ (l : Scope) (result : Ty) (c : LiveContext) (s : State) (h : StateFits l result c s) (laws : ImageLaws l.image) (runs : RunsOn l.image) where
  -- CF after a comparison of a number with a length
  length-carry : (i : Reg) (m : Mem) (n k : ℕ) → spares_esp (R i) ≡ true → s.thread.regs i ≡ Number n → value_of l s (M m) ≡ Some (Number k)
      → (compared (shown l.image) s (R i) (M m)).carry ≡ nat_lt n k
  unfolding word_among words_of Word spares_esp
  length-carry i m n k spares e f =
      let other : same i Esp ≡ false = grind arith in
      let second : word_named (shown l.image) s (M m) ≡ k = memory-word (shown l.image) s m (Number k) f in
      let first : read_word (R i) (words_of s (word_named (shown l.image) s (M m))) ≡ n = register-word s i (word_named (shown l.image) s (M m)) other ∙ ap (Word (places_of s)) e in
      carry-of_below (read_word (R i) (words_of s (word_named (shown l.image) s (M m)))) (word_named (shown l.image) s (M m)) ∙ rw (first, second) refl

  -- a number and a length
  bound-tells : (i : Reg) (m : Mem) (a : Option Reg) (n k : ℕ) → spares_esp (R i) ≡ true → value_of l s (R i) ≡ Some (Number n) → value_of l s (M m) ≡ Some (Number k)
      → base_of_length (place_of l c m) m.base ≡ a → FlagsTell l s (compared (shown l.image) s (R i) (M m)) (Some AllConditions) (bound_kind (R i) a)
  unfolding is_known operand_value read_spot
  bound-tells i m None n k spares e f base = (λ x allowed. refl, tt)
  bound-tells i m (Some a) n k spares e f base = (
    λ x allowed. refl,
    go (place_of l c m) (spot_in l s m) (spot-found l result c s laws.classes h m) f base,
  )
    where
      holds : s.thread.regs i ≡ Number n
      holds = register-holds l s i (Number n) e

      go : (p : Option Place) (q : Option Spot) → SpotFound l c s m.base p q → option_and_then (read_spot (rows l) s) q ≡ Some (Number k) → base_of_length p m.base ≡ Some a
          → BoundTold l.shapes (s.thread.regs i) (s.thread.regs a) (compared (shown l.image) s (R i) (M m)).carry
      go (Some Length) (Some (AtLength o)) x y z =
          let register : Some x.register ≡ Some a = sym x.is_base ∙ z in
          let same_register : x.register ≡ a = cc in
          let size : Some (Number x.size) ≡ Some (Number k) = rw (← h.store.shapes, x.is_long) at y in
          let same_size : x.size ≡ k = cc in
          record {
            number = n;
            array = o;
            kind = x.kind;
            size = k;
            is_number = holds;
            is_array = ap s.thread.regs (sym same_register) ∙ x.holds;
            is_long = rw same_size at x.is_long;
            tells = length-carry i m n k spares holds f;
          }
      go (Some Length) q x y z = absurd (grind arith)
      go p q x y z = absurd (grind arith)

  -- two numbers
  numbers-tell : (d x : Operand) (n k : ℕ) → spares_esp d ≡ true → value_of l s d ≡ Some (Number n) → value_of l s x ≡ Some (Number k)
      → FlagsTell l s (compared (shown l.image) s d x) (Some AllConditions) (bound_kind d (length_base x (operand_place (shown l.image) c x)))
  unfolding operand_place is_known
  numbers-tell (R i) (M m) n k spares e f = bound-tells i m _ n k spares e f refl
  numbers-tell (R i) (R q) n k spares e f = (λ a allowed. refl, tt)
  numbers-tell (R i) (I q) n k spares e f = (λ a allowed. refl, tt)
  numbers-tell (M m) x n k spares e f = (λ a allowed. refl, tt)
  numbers-tell (I q) x n k spares e f = (λ a allowed. refl, tt)

  -- no mark makes a number
  mark-number : (n : ℕ) (mark : Mark) → is_num (mark_type (shown l.image) n mark) ≡ true → ⊥
  unfolding is_num
  mark-number n mark e = grind arith

  -- an immediate that is a number has no mark
  number-unmarked : (n : ℕ) → is_num (immediate_type (shown l.image) s.thread.place n) ≡ true → immediate_value (shown l.image) s.thread.place n ≡ Number n
  unfolding immediate_type immediate_value
  number-unmarked n e = go ((shown l.image).mark_at s.thread.place) e
    where
      go : (o : Option Mark) → is_num (option_map_or (mark_type (shown l.image) n) o ty.Num) ≡ true → option_map_or (marked_value n) o (Number n) ≡ Number n
      go None e = refl
      go (Some mark) e = absurd (mark-number n mark e)

  -- a bare 0 is the number 0
  zero-value : (x : Operand) → is_zero x (type_of l c s x) ≡ true → (x ≡ I 0) × (value_of l s x ≡ Some (Number 0))
  unfolding operand_type operand_value
  zero-value (R r) e = absurd (grind arith)
  zero-value (M m) e = absurd (grind arith)
  zero-value (I n) e =
      let parts = and_parts (n == 0) _ e in
      let is : n ≡ 0 = let x = parts.0 in grind (arith, nat_tests) in
      (ap I is, ap (λ v. Some v) (number-unmarked n parts.1 ∙ ap Number is))

  -- ZF after a comparison of a register with 0
  null-zero : (r : Reg) (w : Value) (t : Ty) → spares_esp (R r) ≡ true → s.thread.regs r ≡ w → fits_in l w t ≡ true → has_null (family t) ≡ true → (compared (shown l.image) s (R r) (I 0)).zero ≡ is_null w
  unfolding words_of spares_esp
  null-zero r w t spares holds f e =
      let other : same r Esp ≡ false = grind arith in
      let first : read_word (R r) (words_of s (word_among (shown l.image) s (R r ∷ I 0 ∷ []))) ≡ Word (places_of s) w = register-word s r (word_among (shown l.image) s (R r ∷ I 0 ∷ [])) other ∙ ap (Word (places_of s)) holds in
      ap (λ n. (sub_of n 0).flags.zero) first ∙ zero-of_null l s runs h.store w t f e

  -- a value beside null, and null
  null-row : (d x : Operand) → IsFound l c s d → has_null (family (type_of l c s d)) ≡ true
      → is_zero x (type_of l c s x) ≡ true
      → FlagsTell l s (compared (shown l.image) s d x) (known_by_compare l s d x) (null_kind d)
  null-row d x is_d null zero =
      let z = zero-value x zero in
      let w = family-value l result c s h laws d is_d (null-other _ null) in
      let bare : is_bare_zero x (Some (Number 0)) ≡ true = rw z.0 refl in
      rw (w.1, z.1, null-known w.0 (Number 0) _ (null-family l w.0 _ w.2 null) bare)
      (null-tells l s (compared (shown l.image) s d x) d w.0 (shown l.image) w.1
      (λ r is.
      let holds = register-holds l s r w.0 (ap (operand_value (shown l.image) s) (sym is) ∙ w.1) in
      ap (λ y. (compared (shown l.image) s y x).zero) is
      ∙ (ap (λ y. (compared (shown l.image) s (R r) y).zero) z.0 ∙ null-zero r w.0 _ (subst (λ y. spares_esp y ≡ true) is is_d.spares) holds w.2 null)))

  -- two references
  objects_row : (d x : Operand) → IsFound l c s d → IsFound l c s x
      → (f : Family) → (f ≡ Objects) ⊎ (f ≡ Arrays) → family (type_of l c s d) ≡ f → family (type_of l c s x) ≡ f
      → FlagsTell l s (compared (shown l.image) s d x) (known_by_compare l s d x) kind.Eq
  objects_row d x is_d is_x f which e g =
      let w = family-value l result c s h laws d is_d (object_other _ _ which e) in
      let u = family-value l result c s h laws x is_x (object_other _ _ which g) in
      rw (w.1, u.1, objects_known w.0 u.0 _ (object_family l w.0 _ w.2 (object_which _ _ which e)) (object_family l u.0 _ u.2 (object_which _ _ which g)))
      (equal-tells l s (compared (shown l.image) s d x))

  -- two numbers
  numbers-row : (d x : Operand) → IsFound l c s d → IsFound l c s x
      → family (type_of l c s d) ≡ Numbers → family (type_of l c s x) ≡ Numbers
      → FlagsTell l s (compared (shown l.image) s d x) (known_by_compare l s d x)
      (bound_kind d (length_base x (operand_place (shown l.image) c x)))
  unfolding known_of_values
  numbers-row d x is_d is_x e g =
      let w = family-value l result c s h laws d is_d (λ n. cc) in
      let u = family-value l result c s h laws x is_x (λ n. cc) in
      let a = number-family l w.0 _ w.2 e in
      let b = number-family l u.0 _ u.2 g in
      let first : value_of l s d ≡ Some (Number a.0) = w.1 ∙ ap (λ v. Some v) a.1 in
      let second : value_of l s x ≡ Some (Number b.0) = u.1 ∙ ap (λ v. Some v) b.1 in
      rw (first, second) (numbers-tell d x a.0 b.0 is_d.spares first second)

  -- each row of CMP
  compare-tells : (d x : Operand) (kk : FlagKind) → IsFound l c s d → IsFound l c s x → MarksHold l s x
      → compare_kind (rows l) c (resolved l c s d) (resolved l c s x) ≡ Some kk
      → FlagsTell l s (compared (shown l.image) s d x) (known_by_compare l s d x) kk
  compare-tells d x kk is_d is_x marks e = go (family (type_of l c s d)) refl (family (type_of l c s x)) refl e
    where
      zero : Bool
      zero = is_zero x (type_of l c s x)

      class : Option ℕ
      class = marked_class x (type_of l c s x)

      is : (k : FlagKind) → Some k ≡ Some kk → FlagsTell l s (compared (shown l.image) s d x) (known_by_compare l s d x) k → FlagsTell l s (compared (shown l.image) s d x) (known_by_compare l s d x) kk
      is k f t = let same : k ≡ kk = cc in subst (λ y. FlagsTell l s (compared (shown l.image) s d x) (known_by_compare l s d x) y) same t

      rest : (b : Bool) → (has_null (family (type_of l c s d)) && zero) ≡ b
          → (if b then Some (null_kind d) else display_row (rows l) c (operand_place (shown l.image) c d) class) ≡ Some kk
          → FlagsTell l s (compared (shown l.image) s d x) (known_by_compare l s d x) kk
      rest true f g = let parts = and_parts (has_null (family (type_of l c s d))) zero f in is (null_kind d) g (null-row d x is_d parts.0 parts.1)
      rest false f g = display-row l result c s h laws d x kk marks g

      go : (f : Family) → family (type_of l c s d) ≡ f → (g : Family) → family (type_of l c s x) ≡ g
          → compare_row (rows l) c d f g (operand_place (shown l.image) c d) (length_base x (operand_place (shown l.image) c x)) zero class ≡ Some kk
          → FlagsTell l s (compared (shown l.image) s d x) (known_by_compare l s d x) kk
      go Numbers u Numbers v w = is (bound_kind d (length_base x (operand_place (shown l.image) c x))) w (numbers-row d x is_d is_x u v)
      go Objects u Objects v w = is kind.Eq w (objects_row d x is_d is_x Objects (inl refl) u v)
      go Arrays u Arrays v w = is kind.Eq w (objects_row d x is_d is_x Arrays (inr refl) u v)
      go f u g v w = rest (has_null f && zero) (ap (λ y. has_null y && zero) u) w

  -- CMP
  pub compare-leads : (i : Inst) (len next : ℕ) (d x : Operand) → FormTells i (Compare d x) → MarksHold l s x → FormLeads l result c s i len next (Compare d x)
  unfolding form_effect compares after_form operand_rule
  compare-leads i len next d x tells marks e =
      rw tells (go (compare_kind (rows l) c (resolved l c s d) (resolved l c s x)) refl parts.2)
    where
      parts : (spares_esp d && spares_esp x ≡ true) × (found (resolved l c s d) && found (resolved l c s x) ≡ true)
          × (is_some (compare_kind (rows l) c (resolved l c s d) (resolved l c s x)) ≡ true)
      parts = three-hold _ _ _ e

      spared : (spares_esp d ≡ true) × (spares_esp x ≡ true)
      spared = and_parts (spares_esp d) (spares_esp x) parts.0

      there : (found (resolved l c s d) ≡ true) × (found (resolved l c s x) ≡ true)
      there = and_parts (found (resolved l c s d)) (found (resolved l c s x)) parts.1

      go : (o : Option FlagKind) → compare_kind (rows l) c (resolved l c s d) (resolved l c s x) ≡ o → is_some o ≡ true
          → Leads l result (with_kind (unwrap_or o kind.Lost) c) next
          (option_map (λ known. goes_on next (with_flags (compared (shown l.image) s d x) known s)) (known_by_compare l s d x))
      go None f g = absurd (grind arith)
      go (Some kk) f g =
          flags-lead l result c s h next (compared (shown l.image) s d x) (known_by_compare l s d x) kk
          (compare-tells d x kk (record { spares = spared.0; finds = there.0 }) (record { spares = spared.1; finds = there.1 }) marks f)
