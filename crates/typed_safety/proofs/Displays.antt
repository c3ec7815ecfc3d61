-- Comparisons of a class's display with a class: what they tell of an object whose table it is.
use Rattle.std.proofs.Common.{◌≡◌, ◌∙◌, sym, ap, subst, ◌≤◌, ◌<◌, ℕ, Bool, true, false, if◌then◌else◌, Option, Some, None, refl, arith, length}
use Rattle.std.specs.Option.{option_map_or}
use Rattle.std.proofs.lemmas.Bool.Decides.{nat_tests}
use Rattle.ia32_code.specs.declared.instruction.Reg.{Reg}
use Rattle.ia32_code.specs.declared.instruction.Mem.{Mem}
use Rattle.ia32_code.specs.declared.instruction.Operand.{Operand}
use Rattle.ia32_code.specs.declared.instruction.Operand.TheVariants.{R, M, I}
use Rattle.ia32_step.specs.Sums.{sub_of}
use Rattle.object_layout.specs.Areas.{table_address}
use Rattle.object_layout.specs.Classes.{Below, Depth}
use Rattle.tal_types.specs.declared.types.Ty.{Ty}
use Rattle.tal_types.specs.declared.types.Ty.TheVariants as ty
use Rattle.tal_types.specs.declared.types.FlagKind.{FlagKind}
use Rattle.tal_types.specs.declared.types.FlagKind.TheVariants as kind
use Rattle.tal_types.specs.declared.views.Mark.{Mark}
use Rattle.tal_types.specs.Contexts.{LiveContext}
use Rattle.tal_flow.specs.declared.places.Place.{Place}
use Rattle.tal_flow.specs.declared.places.Place.TheVariants.{Display}
use Rattle.tal_flow.specs.Places.{mark_type, operand_place, operand_type, immediate_type}
use Rattle.tal_flow.specs.Rows.{table_class, marked_class, has_depth, first_head, class_test, display_row}
use Rattle.tal_flow.specs.Edges.{allows}
use Rattle.tal_image.specs.Shown.{shown}
use Rattle.typed_machine.specs.Values.{Tab, Word}
use Rattle.typed_machine.specs.States.{State, Equality, places_of}
use Rattle.typed_machine.specs.Operands.{Spot, AtDisplay, marked_value, immediate_value, read_spot, spot_word, operand_value, word_among, word_named}
use Rattle.typed_machine.specs.Words.{words_of}
use Rattle.typed_machine.specs.Effects.{is_known}
use Rattle.typed_machine.specs.Frames.{Scope}
use Rattle.typed_machine.specs.Typing.{ClassTold, IsHead}
use Rattle.typed_safety.specs.Laws.{ImageLaws}
use Rattle.typed_safety.proofs.Scopes.{rows, type_of, value_of, place_of, spot_in}
use Rattle.typed_safety.proofs.Fitted.{StateFits}
use Rattle.typed_safety.proofs.Spots.{SpotFound, spot-found}
use Rattle.typed_safety.proofs.FlagWords.{display-there, zero-of_display}
use Rattle.typed_safety.proofs.Families.{FlagsTell, compared, known_by_compare, MarksHold, first_head-some}

module _ (l : Scope) (result : Ty) (c : LiveContext) (s : State) (h : StateFits l result c s) (laws : ImageLaws l.image) where
  -- an immediate with the type of a table is marked with the class
  mark-table : (n e : ℕ) (mark : Mark) → table_class (mark_type (shown l.image) n mark) ≡ Some e → marked_value n mark ≡ Tab e
  unfolding marked_value
  mark-table n e mark h = grind (arith, nat_tests)

  -- what an operand that names a class is: the table, whose address is the number
  record NamesTable (x : Operand) (e : ℕ) : Type 0 where
    number : ℕ
    is_number : x ≡ I number
    value : value_of l s x ≡ Some (Tab e)
    word : number ≡ table_address e

  -- an operand that names a class
  names-table : (x : Operand) (e : ℕ) → MarksHold l s x → marked_class x (type_of l c s x) ≡ Some e → NamesTable x e
  unfolding operand_type operand_value immediate_type immediate_value Word
  names-table (R r) e marks h = absurd (cc)
  names-table (M m) e marks h = absurd (cc)
  names-table (I n) e marks h = go ((shown l.image).mark_at s.thread.place) refl h
    where
      go : (o : Option Mark) → (shown l.image).mark_at s.thread.place ≡ o → table_class (option_map_or (mark_type (shown l.image) n) o ty.Num) ≡ Some e → NamesTable (I n) e
      go None f g = absurd (cc)
      go (Some mark) f g =
          let is = mark-table n e mark g in
          record { number = n; is_number = refl; value = rw f (ap (λ v. Some v) is); word = sym (marks n mark refl f) ∙ ap (Word (places_of s)) is }

  -- ZF after a comparison of a display with a class of its depth
  display-zero : (m : Mem) (cl k e n : ℕ) → spot_in l s m ≡ Some (AtDisplay cl k) → k ≤ 7 → cl < length (rows l).classes → has_depth (rows l) e k ≡ true
      → n ≡ table_address e → (compared (shown l.image) s (M m) (I n)).zero ≡ Below (rows l) cl e
  unfolding words_of word_among spot_word
  display-zero m cl k e n spot few there deep is =
      let depth : Depth (rows l) e ≡ k = grind (arith, nat_tests) in
      let also : e < length (rows l).classes = grind (arith, nat_tests) in
      let read = display-there (rows l) laws.classes cl k there few in
      let named : word_named (shown l.image) s (M m) ≡ read.0 = rw (spot, read.1) refl in
      ap (λ w. (sub_of w n).flags.zero) named
      ∙ (ap (λ w. (sub_of read.0 w).flags.zero) is ∙ zero-of_display (rows l) laws.classes cl e read.0 there also (rw depth read.1) read.2)

  -- a display with a class of its depth
  display-tells : (m : Mem) (t : Reg) (cl k e n : ℕ) → spot_in l s m ≡ Some (AtDisplay cl k) → k ≤ 7 → s.thread.regs t ≡ Tab cl
      → cl < length (rows l).classes → has_depth (rows l) e k ≡ true → n ≡ table_address e
      → FlagsTell l s (compared (shown l.image) s (M m) (I n)) (Some Equality) (class_test c t e)
  unfolding allows is_known
  display-tells m t cl k e n spot few holds there deep is = go (first_head c t) refl
    where
      told : (r : Reg) → IsHead l.shapes (s.thread.regs t) (s.thread.regs r) → ClassTold (rows l) l.shapes (s.thread.regs r) e (compared (shown l.image) s (M m) (I n)).zero
      told r head =
          let table : Tab cl ≡ Tab head.class = sym holds ∙ head.is_table in
          let class : cl ≡ head.class = cc in
          record {
            object = head.object;
            class = head.class;
            is_object = head.is_object;
            is_of = head.is_of;
            tells = display-zero m cl k e n spot few there deep is ∙ ap (λ d. Below (rows l) d e) class;
          }

      go : (o : Option Reg) → first_head c t ≡ o → FlagsTell l s (compared (shown l.image) s (M m) (I n)) (Some Equality) (option_map_or (λ r. kind.IsA r e) o kind.Eq)
      go None f = (λ a allowed. grind arith, tt)
      go (Some r) f = (λ a allowed. grind arith, told r (h.thread.heads t r (first_head-some c t r f)))

  -- a display against an operand that names a class
  display-known : (m : Mem) (x : Operand) (cl k e : ℕ) → spot_in l s m ≡ Some (AtDisplay cl k) → value_of l s x ≡ Some (Tab e)
      → known_by_compare l s (M m) x ≡ Some Equality
  unfolding operand_value read_spot
  display-known m x cl k e spot value = rw (spot, value) refl

  -- a display and a class
  pub display-row : (d x : Operand) (kk : FlagKind) → MarksHold l s x
      → display_row (rows l) c (operand_place (shown l.image) c d) (marked_class x (type_of l c s x)) ≡ Some kk
      → FlagsTell l s (compared (shown l.image) s d x) (known_by_compare l s d x) kk
  unfolding operand_place
  display-row (R r) x kk marks e = absurd (cc)
  display-row (I n) x kk marks e = absurd (cc)
  display-row (M m) x kk marks e =
      go (place_of l c m) (spot_in l s m) refl (spot-found l result c s laws.classes h m)
      (marked_class x (type_of l c s x)) refl e
    where
      tells : (t : Reg) (k cl e : ℕ) → spot_in l s m ≡ Some (AtDisplay cl k) → k ≤ 7 → s.thread.regs t ≡ Tab cl
          → cl < length (rows l).classes → NamesTable x e → (b : Bool) → has_depth (rows l) e k ≡ b → (if b then Some (class_test c t e) else None) ≡ Some kk
          → FlagsTell l s (compared (shown l.image) s (M m) x) (known_by_compare l s (M m) x) kk
      tells t k cl e spot few holds there names false deep is = absurd (cc)
      tells t k cl e spot few holds there names true deep is =
          let kind : class_test c t e ≡ kk = cc in
          rw (display-known m x cl k e spot names.value)
          (subst (λ y. FlagsTell l s (compared (shown l.image) s (M m) y) (Some Equality) kk) (sym names.is_number)
          (subst (λ y. FlagsTell l s (compared (shown l.image) s (M m) (I names.number)) (Some Equality) y) kind
          (display-tells m t cl k e names.number spot few holds there deep names.word)))

      go : (p : Option Place) (q : Option Spot) → spot_in l s m ≡ q → SpotFound l c s m.base p q
          → (o : Option ℕ) → marked_class x (type_of l c s x) ≡ o → display_row (rows l) c p o ≡ Some kk
          → FlagsTell l s (compared (shown l.image) s (M m) x) (known_by_compare l s (M m) x) kk
      go (Some (Display t k)) (Some (AtDisplay cl j)) spot f (Some e) named is =
          tells t k cl e (rw f.0 spot) f.1 f.2 f.3 (names-table x e marks named) (has_depth (rows l) e k) refl is
      go (Some (Display t k)) (Some (AtDisplay cl j)) spot f None named is = absurd (cc)
      go (Some (Display t k)) q spot f o named is = absurd (grind arith)
      go p q spot f o named is = absurd (grind arith)
