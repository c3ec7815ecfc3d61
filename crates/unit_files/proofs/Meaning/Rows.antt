-- What the rows of a unit file stand for.
use Rattle.std.proofs.Common.{◌≡◌, ℕ, zero, suc, Bool, true, false, List, ◌++◌, refl, sym, ap, subst, ◌∙◌, arith}
use Rattle.std.specs.Prelude.{◌==◌}
use Rattle.std.proofs.lemmas.Bool.Decides.{nat_tests}
use Rattle.object_layout.specs.declared.rows.ClassRow.{ClassRow}
use Rattle.object_layout.specs.declared.rows.KindRow.{KindRow}
use Rattle.file_fields.specs.declared.fault.ImageFault.TheVariants.{Bad}
use Rattle.file_fields.specs.Grammar.{Grammar, done, checked, then_with, number_bytes, fields_text}
use Rattle.file_fields.specs.Laws.{NumberMeanings}
use Rattle.file_fields.specs.Parts.{FieldsOf, Means, Checked}
use Rattle.file_fields.specs.Composed.{means_as, put_part, put_last, take_part, take_last, supposing}
use Rattle.tal_image.specs.declared.parts.FunctionPart.{FunctionPart}
use Rattle.tal_image.specs.declared.parts.ArrayPart.{ArrayPart}
use Rattle.tal_image.specs.declared.parts.Tables.{Tables}
use Rattle.tal_image.specs.Conditions.{part_length_fits, part_numbers}
use Rattle.tal_image.specs.Formed.{IsSig, IsClass, IsFieldType}
use Rattle.tal_image.specs.Rows.{RowMeanings, IsFunctionWhere, IsArrayWhere}
use Rattle.unit_files.specs.Unit.{UnitSig, UnitFun, UnitEntry, UnitClass, UnitKind, UnitStatic, UnitArray, ext_number, mention_bytes, unit_sig_bytes, unit_function_bytes, unit_class_bytes, unit_kind_bytes, unit_static_bytes, unit_array_bytes, entry_bytes}
use Rattle.unit_files.specs.Conditions.{mention_fits, ext_fits, stack_fits, entry_function_fits}
use Rattle.unit_files.specs.Fields.{Mention, mention_fields, unit_sig_fields, unit_function_fields, entry_fields, unit_class_fields, unit_kind_fields, unit_static_fields, unit_array_fields}
use Rattle.unit_files.specs.Formed.{IsMention, IsUnitSig, IsUnitFun, IsUnitEntry, IsUnitClass, IsUnitKind, IsUnitStatic, IsUnitArray}

-- a mention, and what comes behind the number of its name
abbrev mention : ℕ → Bool → Mention
mention name ext = record { name = name; ext = ext }

abbrev after_name : ℕ → Grammar Mention
after_name name = then_with (checked ext_fits 29) (λ e. done (mention name (e == 1)))

-- an extern row's number, and back
ext_back : (ext : Bool) → (ext_number ext == 1) ≡ ext
ext_back true = refl
ext_back false = refl

ext_checked : (ext : Bool) → Checked ext_fits (ext_number ext)
ext_checked true = (grind (arith, nat_tests), refl)
ext_checked false = (grind (arith, nat_tests), refl)

ext_is : (n : ℕ) → ext_fits n ≡ true → ext_number (n == 1) ≡ n
ext_is zero h = refl
ext_is (suc zero) h = refl
ext_is (suc (suc n)) h = let no : ⊥ = grind (arith, nat_tests) in absurd no

module _ (rows : RowMeanings) (numbers : NumberMeanings) where
  -- what stands before a row
  mention_means : (names : ℕ) → Means (mention_fields names) (λ m. IsMention names m.name) (λ m. mention_bytes m.name m.ext)
  unfolding mention_fields
  mention_means names = record {
    whole = λ m h.
        subst (λ (z : Bool). FieldsOf (mention_fields names) (mention m.name z) (mention_bytes m.name m.ext)) (ext_back m.ext)
        (put_part (numbers.one (mention_fits names) (λ at. Bad at 29)) after_name m.name (mention m.name (ext_number m.ext == 1)) (number_bytes (ext_number m.ext)) (h.word, h.condition_29)
        (put_last (numbers.one ext_fits (λ at. Bad at 29)) (λ e. mention m.name (e == 1)) (ext_number m.ext) (ext_checked m.ext)));
    back = λ fs m p.
        supposing (take_part (numbers.one (mention_fits names) (λ at. Bad at 29)) after_name fs m p) (λ name.
        supposing (take_last (numbers.one ext_fits (λ at. Bad at 29)) (λ e. mention name.value (e == 1)) name.rest m name.more) (λ ext.
        subst (λ (z : Mention). IsMention names z.name × (fields_text fs ≡ mention_bytes z.name z.ext)) ext.same
        (record { word = name.is.0; condition_29 = name.is.1 }, name.bytes _ (ext.bytes ∙ ap number_bytes (sym (ext_is ext.value ext.is.1))))));
  }

  -- a named row: what stands before it, and a row that may look at whether it is extern
  module _ {A B : Type 0} (names : ℕ) {g : Bool → Grammar A} {Is : Bool → A → Type 0} {text : A → List ℕ} (means : (ext : Bool) → Means (g ext) (Is ext) text)
      (make : ℕ → Bool → A → B) (name : B → ℕ) (ext : B → Bool) (part : B → A) where
    -- the parts of a row are those of which it is made
    record AreParts : Type 0 where
      made : (b : B) → make (name b) (ext b) (part b) ≡ b
      has_name : (n : ℕ) (e : Bool) (x : A) → name (make n e x) ≡ n
      has_ext : (n : ℕ) (e : Bool) (x : A) → ext (make n e x) ≡ e
      has_part : (n : ℕ) (e : Bool) (x : A) → part (make n e x) ≡ x

    named_means : AreParts → Means (then_with (mention_fields names) (λ m. then_with (g m.ext) (λ x. done (make m.name m.ext x))))
        (λ b. IsMention names (name b) × Is (ext b) (part b)) (λ b. mention_bytes (name b) (ext b) ++ text (part b))
    named_means parts = record {
      whole = λ b h.
          let m : Mention = record { name = name b; ext = ext b } in
          let fields = put_part (mention_means names) (λ m. then_with (g m.ext) (λ x. done (make m.name m.ext x))) m (make (name b) (ext b) (part b)) _ h.0
          (put_last (means (ext b)) (make (name b) (ext b)) (part b) h.1) in
          rw (parts.made b) at fields;
      back = λ fs b p.
          supposing (take_part (mention_means names) (λ m. then_with (g m.ext) (λ x. done (make m.name m.ext x))) fs b p) (λ m.
          supposing (take_last (means m.value.ext) (make m.value.name m.value.ext) m.rest b m.more) (λ x.
          let n = m.value.name in
          let e = m.value.ext in
          subst (λ (z : B). (IsMention names (name z) × Is (ext z) (part z)) × (fields_text fs ≡ mention_bytes (name z) (ext z) ++ text (part z))) x.same
          (rw (parts.has_name n e x.value, parts.has_ext n e x.value, parts.has_part n e x.value) ((m.is, x.is), m.bytes _ x.bytes))));
    }

  -- a signature
  pub unit_sig_means : (names : ℕ) (t : Tables) → Means (unit_sig_fields names t) (IsUnitSig names t) unit_sig_bytes
  unfolding unit_sig_fields
  unit_sig_means names t =
      means_as (λ s h. record { mention = h.0; sig = h.1 }) (λ s h. (h.mention, h.sig))
      (named_means names {Is = λ e. IsSig t} (λ e. rows.sig t) (λ n e x. (let r : UnitSig = record { name = n; ext = e; sig = x } in r)) (λ s. s.name) (λ s. s.ext) (λ s. s.sig)
      (record { made = λ b. refl; has_name = λ n e x. refl; has_ext = λ n e x. refl; has_part = λ n e x. refl }))

  -- a function
  pub unit_function_means : (names : ℕ) (t : Tables) (later left : ℕ) → Means (unit_function_fields names t later left) (IsUnitFun names t later left) unit_function_bytes
  unfolding unit_function_fields
  unit_function_means names t later left =
      means_as (λ f h. record { mention = h.0; length_word = h.1.0.0; condition_13 = h.1.0.1; sig_word = h.1.1.0; condition_14 = h.1.1.1 })
      (λ f h. (h.mention, ((h.length_word, h.condition_13), (h.sig_word, h.condition_14))))
      (named_means names {Is = λ e. IsFunctionWhere t (part_length_fits e later left)} (λ e. rows.function t (part_length_fits e later left))
      (λ n e x. (let r : UnitFun = record { name = n; ext = e; length = x.length; sig = x.sig } in r)) (λ f. f.name) (λ f. f.ext) (λ f. (let r : FunctionPart = record { length = f.length; sig = f.sig } in r))
      (record { made = λ b. refl; has_name = λ n e x. refl; has_ext = λ n e x. refl; has_part = λ n e x. refl }))

  -- an entry
  pub entry_means : (functions : ℕ) → Means (entry_fields functions) (IsUnitEntry functions) entry_bytes
  unfolding entry_fields
  entry_means functions = record {
    whole = λ e h.
        put_part (numbers.one stack_fits (λ at. Bad at 15)) _ e.stack e _ (h.stack_word, h.stack_15)
        (put_last (numbers.one (entry_function_fits functions) (λ at. Bad at 15)) _ e.function (h.function_word, h.function_15));
    back = λ fs e p.
        supposing (take_part (numbers.one stack_fits (λ at. Bad at 15)) _ fs e p) (λ stack.
        supposing (take_last (numbers.one (entry_function_fits functions) (λ at. Bad at 15)) _ stack.rest e stack.more) (λ function.
        subst (λ (z : UnitEntry). IsUnitEntry functions z × (fields_text fs ≡ entry_bytes z)) function.same
        (record { stack_word = stack.is.0; stack_15 = stack.is.1; function_word = function.is.0; function_15 = function.is.1 }, stack.bytes _ function.bytes)));
  }

  -- a class
  pub unit_class_means : (names : ℕ) (t : Tables) (functions : List FunctionPart) (classes : List ClassRow)
      → Means (unit_class_fields names t functions classes) (IsUnitClass names t functions classes) unit_class_bytes
  unfolding unit_class_fields
  unit_class_means names t functions classes =
      means_as (λ c h. record { mention = h.0; row = h.1 }) (λ c h. (h.mention, h.row))
      (named_means names {Is = λ e. IsClass t functions classes} (λ e. rows.class t functions classes) (λ n e x. (let r : UnitClass = record { name = n; ext = e; row = x } in r)) (λ c. c.name) (λ c. c.ext) (λ c. c.row)
      (record { made = λ b. refl; has_name = λ n e x. refl; has_ext = λ n e x. refl; has_part = λ n e x. refl }))

  -- an array kind
  pub unit_kind_means : (names : ℕ) (t : Tables) → Means (unit_kind_fields names t) (IsUnitKind names t) unit_kind_bytes
  unfolding unit_kind_fields
  unit_kind_means names t =
      means_as (λ k h. record { mention = h.0; element = h.1 }) (λ k h. (h.mention, h.element))
      (named_means names {Is = λ e. IsFieldType t} (λ e. rows.field_type t) (λ n e x. (let r : UnitKind = record { name = n; ext = e; element = x } in r)) (λ k. k.name) (λ k. k.ext) (λ k. k.element)
      (record { made = λ b. refl; has_name = λ n e x. refl; has_ext = λ n e x. refl; has_part = λ n e x. refl }))

  -- a static
  pub unit_static_means : (names : ℕ) (t : Tables) → Means (unit_static_fields names t) (IsUnitStatic names t) unit_static_bytes
  unfolding unit_static_fields
  unit_static_means names t =
      means_as (λ s h. record { mention = h.0; ty = h.1 }) (λ s h. (h.mention, h.ty))
      (named_means names {Is = λ e. IsFieldType t} (λ e. rows.field_type t) (λ n e x. (let r : UnitStatic = record { name = n; ext = e; ty = x } in r)) (λ s. s.name) (λ s. s.ext) (λ s. s.ty)
      (record { made = λ b. refl; has_name = λ n e x. refl; has_ext = λ n e x. refl; has_part = λ n e x. refl }))

  -- a data array
  pub unit_array_means : (names : ℕ) (t : Tables) (kinds : List KindRow) (used : ℕ) → Means (unit_array_fields names t kinds used) (IsUnitArray names t kinds used) unit_array_bytes
  unfolding unit_array_fields
  unit_array_means names t kinds used =
      means_as (λ a h. record { mention = h.0; kind_word = h.1.0.0; condition_21 = h.1.0.1; length_word = h.1.1.0; condition_22 = h.1.1.1; count = h.1.2.0; words = h.1.2.1 })
      (λ a h. (h.mention, ((h.kind_word, h.condition_21), (h.length_word, h.condition_22), (h.count, h.words))))
      (named_means names {Is = λ e. IsArrayWhere t (part_numbers e kinds) used} (λ e. rows.array t (part_numbers e kinds) used)
      (λ n e x. (let r : UnitArray = record { row = record { name = n; ext = e; kind = x.kind; length = x.size }; numbers = x.numbers } in r)) (λ a. a.row.name) (λ a. a.row.ext)
      (λ a. (let r : ArrayPart = record { kind = a.row.kind; size = a.row.length; numbers = a.numbers } in r))
      (record { made = λ b. refl; has_name = λ n e x. refl; has_ext = λ n e x. refl; has_part = λ n e x. refl }))
