-- What the tables keep with a row more.
use Rattle.std.proofs.Common.{◌≡◌, ◌<◌, ◌≤◌, ◌+◌, ◌||◌, ◌==◌, nat_eq, nat_lt, ℕ, ℤ, zero, suc, Bool, true, false, List, [], ◌∷◌, ◌++◌, length, map, replicate, get_or, Option, Some, None, Result, Ok, Err, slice_get, slice_index_or, option_map, bytes_eq, refl, sym, ap, ◌∙◌, subst, arith, length-append, append_assoc, if◌then◌else◌}
use Rattle.std.proofs.lemmas.Bool.{and_parts}
use Rattle.std.proofs.lemmas.Bool.Decides.{nat_tests}
use Rattle.std.proofs.lemmas.List.{map-append, length-map, length-replicate}
use Rattle.std.proofs.lemmas.Option.{none-some, same_Some}
use Rattle.std.proofs.lemmas.Slice.Eq.{bytes_eq-Decides}
use Rattle.std.specs.List.{list_any, flat_map, IsDistinct}
use Rattle.std.specs.Option.{option_to_list}
use Rattle.std.proofs.lemmas.Map.Keys.{IsDistinct-push}
use Rattle.std.proofs.lemmas.Cmp.{nat_eq_equiv}
use Rattle.std.specs.Option.{option_map_or, unwrap_or}
use Rattle.ia32_code.specs.declared.instruction.Reg.{Reg}
use Rattle.ia32_code.specs.declared.instruction.Reg.TheVariants as reg
use Rattle.ia32_code.specs.OperandForms.{number}
use Rattle.asm_faults.specs.declared.AsmFault.{AsmFault}
use Rattle.object_layout.specs.declared.rows.ClassRow.{ClassRow}
use Rattle.object_layout.specs.declared.rows.FieldTy.{FieldTy}
use Rattle.object_layout.specs.declared.rows.KindRow.{KindRow}
use Rattle.tal_types.specs.declared.signatures.Sig.{Sig}
use Rattle.tal_types.specs.declared.types.Ty.{Ty}
use Rattle.tal_types.specs.declared.types.Ty.TheVariants as ty
use Rattle.tal_types.specs.Types.{of_field}
use Rattle.file_fields.specs.Parts.{Each}
use Rattle.tal_image.specs.declared.parts.FunctionPart.{FunctionPart}
use Rattle.tal_image.specs.declared.parts.Tables.{Tables}
use Rattle.tal_image.specs.Image.{type_tag}
use Rattle.tal_image.specs.Conditions.{heap_fits, stacks_fit, part_numbers, numbers_given}
use Rattle.tal_image.specs.Formed.{IsWord, IsType, IsFieldType, IsSig}
use Rattle.unit_files.specs.declared.parts.UnitSig.{UnitSig}
use Rattle.unit_files.specs.declared.parts.UnitFun.{UnitFun}
use Rattle.unit_files.specs.declared.parts.UnitEntry.{UnitEntry}
use Rattle.unit_files.specs.declared.parts.UnitClass.{UnitClass}
use Rattle.unit_files.specs.declared.parts.UnitKind.{UnitKind}
use Rattle.unit_files.specs.declared.parts.UnitStatic.{UnitStatic}
use Rattle.unit_files.specs.declared.parts.UnitArray.{UnitArray}
use Rattle.unit_files.specs.Formed.{IsMention, IsUnitSig, IsUnitEntry, IsUnitKind, IsUnitStatic}
use Rattle.tal_syntax.specs.declared.form.Form.{Form}
use Rattle.tal_syntax.specs.declared.form.Form.TheVariants as form
use Rattle.tal_syntax.specs.declared.form.RegType.{RegType}
use Rattle.tal_syntax.specs.declared.form.TypeText.{TypeText}
use Rattle.tal_syntax.specs.declared.form.TypeText.TheVariants as type
use Rattle.tal_syntax.specs.declared.module.TextLine.{TextLine}
use Rattle.tal_names.specs.declared.names.ClassNames.{ClassNames}
use Rattle.tal_names.specs.Declarations.{Names, no_names, declare, with_named_kind, with_named_class, with_named_function, class_of, named_parent, is_number_type}
use Rattle.tal_names.specs.NameSets.{is_named, number_of_name}
use Rattle.tal_names.specs.LookUps.{type_of}
use Rattle.tal_names.specs.Mentions.{names_row, form_names, reg_type_names, type_names}
use Rattle.tal_operands.specs.Addresses.{word}
use Rattle.tal_rows.specs.declared.lines.DataLine.{DataLine}
use Rattle.tal_rows.specs.declared.lines.EntryLine.{EntryLine}
use Rattle.tal_rows.specs.Lines.{is_twice, natural, field_type, type_in, numbers_fit, parent_row_fits, sig_line, kind_line, static_line, data_line, function_line, class_line, entry_line}
use Rattle.tal_classes.specs.Members.{ClassSoFar, field_count, field_line, method_line, with_field, with_method, then_made as then_taken, take_member, take_members, class_goes_on, class_row}
use Rattle.tal_classes.specs.Formed.{TypesKnown, AreDeclared, AreFirst, FitsBelow, AreClasses}
use Rattle.tal_tables.specs.Rows.{ModuleTablesView, no_tables, heap_line, stacks_line, has_entry, array_numbers, name_number, make, and_sig, and_kind, and_static, and_array, and_class, and_function, and_entry, take_row}
use Rattle.tal_tables.specs.Formed.{StartsWith, DeclaredBefore, AreMentioned, MakesRow, arrays_take, holds_numbers, OwnLength, IsFunctionRow, IsArrayRow, KindsDeclared, TablesKeep}
use Rattle.tal_tables.proofs.Limits.{sig_room, kind_room, static_room, data_room, function_room, class_room, stack_room}
use Rattle.tal_tables.proofs.Declared.{is_new, is_declared, name_below, number_below, same_early, class_parent}
use Rattle.tal_tables.proofs.LineSteps.{made, then_made, made_of, heap_steps, stacks_steps, sig_steps, kind_steps, static_steps, data_steps, function_steps, root_steps, below_steps, entry_steps}

-- ---- lists

each-push : {A : Type 0} (P : A → Type 0) (xs : List A) (x : A) → Each P xs → P x → Each P (xs ++ x ∷ [])
each-push P [] x h p = (p, tt)
each-push P (y ∷ xs) x h p = (h.0, each-push P xs x h.1 p)

or_left : (b c : Bool) → b ≡ true → (b || c) ≡ true
or_left b c h = ap (λ x. x || c) h

or_right : (b c : Bool) → c ≡ true → (b || c) ≡ true
or_right true c h = refl
or_right false c h = h

named_first : (n : List ℕ) (ns : List (List ℕ)) → is_named (n ∷ ns) n ≡ true
named_first n ns = or_left (bytes_eq n n) (is_named ns n) ((bytes_eq-Decides n n).1 refl)

-- a front that is named anew
front_new : (xs all : List (List ℕ)) (n : List ℕ) → StartsWith all (if is_named xs n then xs else xs ++ n ∷ []) → is_named xs n ≡ false → StartsWith all (xs ++ n ∷ [])
front_new xs all n front new = subst (λ b. StartsWith all (if b then xs else xs ++ n ∷ [])) new front

mention : (names : List (List ℕ)) (n : List ℕ) → length names ≤ 65536 → is_named names n ≡ true → IsMention (length names) (name_number names n)
mention names n few h = let lt = name_below names n h in record { word = omega (arith, lt, few); condition_29 = grind (arith, nat_tests, lt) }

-- ---- types

same_type : (found : Ty) (held : FieldTy) → field_type found ≡ Some held → of_field held ≡ found
unfolding field_type of_field
same_type ty.Num held e = ap of_field (sym (same_Some _ _ e))
same_type (ty.Ref c) held e = ap of_field (sym (same_Some _ _ e))
same_type (ty.ArrRef k) held e = ap of_field (sym (same_Some _ _ e))
same_type (ty.Fun s) held e = ap of_field (sym (same_Some _ _ e))
same_type (ty.Obj c) held e = absurd (none-some _ e)
same_type (ty.Arr k) held e = absurd (none-some _ e)
same_type (ty.Code s) held e = absurd (none-some _ e)
same_type (ty.Tab c) held e = absurd (none-some _ e)
same_type (ty.Desc k) held e = absurd (none-some _ e)
same_type ty.Junk held e = absurd (none-some _ e)

-- what a field, a static or an element holds is a type of the tables
field_known : (m : Names) (t : Tables) (text : TypeText) (found : Ty) (held : FieldTy) → TypesKnown m t → type_of m text ≡ Some found → field_type found ≡ Some held → IsFieldType t held
field_known m t text found held known is field = subst (IsType t) (sym (same_type found held field)) (known text found is)

or_junk : (m : Names) (t : Tables) (text : TypeText) (o : Option Ty) → TypesKnown m t → type_of m text ≡ o → IsType t (unwrap_or o ty.Junk)
unfolding type_of
or_junk m t text None known is = known type.Junk ty.Junk refl
or_junk m t text (Some found) known is = known text found is

-- so is what a register holds
reg_known : (m : Names) (t : Tables) (rows : List RegType) (r : Reg) → TypesKnown m t → IsType t (type_in m rows r)
unfolding type_in type_of
reg_known m t [] r known = known type.Junk ty.Junk refl
reg_known m t (x ∷ rows) r known = go (number x.reg == number r) (reg_known m t rows r known)
  where
    go : (b : Bool) → IsType t (type_in m rows r) → IsType t (if b then unwrap_or (type_of m x.ty) ty.Junk else type_in m rows r)
    go true rest = or_junk m t x.ty (type_of m x.ty) known refl
    go false rest = rest

tagged : (of : ℕ → Ty) (found : Ty) (o : Option ℕ) → ((c : ℕ) → (type_tag (of c) == 0) ≡ false) → option_map of o ≡ Some found → (type_tag found == 0) ≡ false
tagged of found None each e = absurd (none-some _ e)
tagged of found (Some c) each e = ap (λ x. type_tag x == 0) (sym (same_Some _ _ e)) ∙ each c

-- a type is the number's exactly where it is written so
number_type : (m : Names) (text : TypeText) (found : Ty) → type_of m text ≡ Some found → (type_tag found == 0) ≡ is_number_type text
unfolding type_of is_number_type type_tag
number_type m type.Num found e = ap (λ x. type_tag x == 0) (sym (same_Some _ _ e))
number_type m type.Junk found e = ap (λ x. type_tag x == 0) (sym (same_Some _ _ e))
number_type m (type.Ref n) found e = tagged ty.Ref found (number_of_name m.classes n) (λ c. refl) e
number_type m (type.Obj n) found e = tagged ty.Obj found (number_of_name m.classes n) (λ c. refl) e
number_type m (type.ArrRef n) found e = tagged ty.ArrRef found (number_of_name m.kinds n) (λ c. refl) e
number_type m (type.Arr n) found e = tagged ty.Arr found (number_of_name m.kinds n) (λ c. refl) e
number_type m (type.Fun n) found e = tagged ty.Fun found (number_of_name m.sigs n) (λ c. refl) e
number_type m (type.Code n) found e = tagged ty.Code found (number_of_name m.sigs n) (λ c. refl) e
number_type m (type.Tab n) found e = tagged ty.Tab found (number_of_name m.classes n) (λ c. refl) e
number_type m (type.Desc n) found e = tagged ty.Desc found (number_of_name m.kinds n) (λ c. refl) e

-- ---- signatures

sig_kept : (m first : Names) (names : List (List ℕ)) (u : ModuleTablesView) (ext : Bool) (n : List ℕ) (ps : List RegType) (result : TypeText) (s : Sig)
    → TablesKeep m first (length names) u → is_named names n ≡ true → sig_line m n ps result (length u.sigs) ≡ Ok s
    → TablesKeep m (record first { sigs = first.sigs ++ n ∷ [] }) (length names) (and_sig u (name_number names n) ext s)
sig_kept m first names u ext n ps result s k named h =
    let new : UnitSig = record { name = name_number names n; ext = ext; sig = s } in
    let st = sig_steps m n ps result (length u.sigs) s h in
    let room = sig_room m n ps result (length u.sigs) s h in
    record {
      counted = let c = k.counted in record {
        limits = record { sigs = omega (arith, room, length-append u.sigs (new ∷ [])); functions = c.limits.functions; classes = c.limits.classes; kinds = c.limits.kinds; statics = c.limits.statics; arrays = c.limits.arrays; words = c.limits.words };
        heap_words = c.heap_words;
        stacks = c.stacks;
        sigs = omega (arith, c.sigs, length-append u.sigs (new ∷ []), length-append first.sigs (n ∷ []));
        functions = c.functions;
        classes = c.classes;
        kinds = c.kinds;
        statics = c.statics;
        arrays = c.arrays;
        function_sigs = c.function_sigs;
        number_kinds = c.number_kinds;
        parents = c.parents;
        entries_below = c.entries_below;
        entries_apart = c.entries_apart;
        words = c.words;
      };
      rows = λ t fit. let r = k.rows t fit in record {
        sigs = each-push (IsUnitSig (length names) t) u.sigs new r.sigs (record {
          mention = mention names n fit.few_names named;
          sig = subst (IsSig t) st.3 (record {
            seven = refl;
            params = (reg_known m t ps reg.Eax fit.types, (reg_known m t ps reg.Ecx fit.types, (reg_known m t ps reg.Edx fit.types, (reg_known m t ps reg.Ebx fit.types, (reg_known m t ps reg.Ebp fit.types, (reg_known m t ps reg.Esi fit.types, (reg_known m t ps reg.Edi fit.types, tt)))))));
            result = fit.types result st.0 st.1;
          });
        });
        functions = r.functions;
        entries = r.entries;
        classes = r.classes;
        kinds = r.kinds;
        statics = r.statics;
        arrays = r.arrays;
      };
    }

-- ---- array kinds

kind_kept : (m first : Names) (names : List (List ℕ)) (u : ModuleTablesView) (ext : Bool) (n : List ℕ) (text : TypeText) (held : FieldTy)
    → TablesKeep m first (length names) u → is_named names n ≡ true → kind_line m n text (length u.kinds) ≡ Ok held
    → TablesKeep m (record first { kinds = first.kinds ++ n ∷ []; number_kinds = first.number_kinds ++ is_number_type text ∷ [] }) (length names) (and_kind u (name_number names n) ext held)
kind_kept m first names u ext n text held k named h =
    let new : UnitKind = record { name = name_number names n; ext = ext; element = held } in
    let st = kind_steps m n text (length u.kinds) held h in
    let room = kind_room m n text (length u.kinds) held h in
    let numeric : holds_numbers new ≡ is_number_type text = ap (λ x. type_tag x == 0) (same_type st.0 held st.3) ∙ number_type m text st.0 st.1 in
    record {
      counted = let c = k.counted in record {
        limits = record { sigs = c.limits.sigs; functions = c.limits.functions; classes = c.limits.classes; kinds = omega (arith, room, length-append u.kinds (new ∷ [])); statics = c.limits.statics; arrays = c.limits.arrays; words = c.limits.words };
        heap_words = c.heap_words;
        stacks = c.stacks;
        sigs = c.sigs;
        functions = c.functions;
        classes = c.classes;
        kinds = omega (arith, c.kinds, length-append u.kinds (new ∷ []), length-append first.kinds (n ∷ []));
        statics = c.statics;
        arrays = c.arrays;
        function_sigs = c.function_sigs;
        number_kinds = map-append holds_numbers u.kinds (new ∷ []) ∙ ap (λ xs. xs ++ holds_numbers new ∷ []) c.number_kinds ∙ ap (λ b. first.number_kinds ++ b ∷ []) numeric;
        parents = c.parents;
        entries_below = c.entries_below;
        entries_apart = c.entries_apart;
        words = c.words;
      };
      rows = λ t fit. let r = k.rows t fit in record {
        sigs = r.sigs;
        functions = r.functions;
        entries = r.entries;
        classes = r.classes;
        kinds = each-push (IsUnitKind (length names) t) u.kinds new r.kinds (record { mention = mention names n fit.few_names named; element = field_known m t text st.0 held fit.types st.1 st.3 });
        statics = r.statics;
        arrays = r.arrays;
      };
    }

-- ---- statics

static_kept : (m first : Names) (names : List (List ℕ)) (u : ModuleTablesView) (ext : Bool) (n : List ℕ) (text : TypeText) (held : FieldTy)
    → TablesKeep m first (length names) u → is_named names n ≡ true → static_line m n text (length u.statics) u.words ≡ Ok held
    → TablesKeep m (record first { statics = first.statics ++ n ∷ [] }) (length names) (and_static u (name_number names n) ext held)
static_kept m first names u ext n text held k named h =
    let new : UnitStatic = record { name = name_number names n; ext = ext; ty = held } in
    let st = static_steps m n text (length u.statics) u.words held h in
    let room = static_room m n text (length u.statics) u.words held h in
    record {
      counted = let c = k.counted in record {
        limits = record { sigs = c.limits.sigs; functions = c.limits.functions; classes = c.limits.classes; kinds = c.limits.kinds; statics = omega (arith, c.limits.statics, length-append u.statics (new ∷ [])); arrays = omega (arith, c.limits.arrays); words = omega (arith, room) };
        heap_words = c.heap_words;
        stacks = c.stacks;
        sigs = c.sigs;
        functions = c.functions;
        classes = c.classes;
        kinds = c.kinds;
        statics = omega (arith, c.statics, length-append u.statics (new ∷ []), length-append first.statics (n ∷ []));
        arrays = c.arrays;
        function_sigs = c.function_sigs;
        number_kinds = c.number_kinds;
        parents = c.parents;
        entries_below = c.entries_below;
        entries_apart = c.entries_apart;
        words = omega (arith, c.words, length-append u.statics (new ∷ []));
      };
      rows = λ t fit. let r = k.rows t fit in record {
        sigs = r.sigs;
        functions = r.functions;
        entries = r.entries;
        classes = r.classes;
        kinds = r.kinds;
        statics = each-push (IsUnitStatic (length names) t) u.statics new r.statics (record { mention = mention names n fit.few_names named; ty = field_known m t text st.0 held fit.types st.1 st.3 });
        arrays = r.arrays;
      };
    }

-- ---- data arrays

words_with : (arrays : List UnitArray) (a : UnitArray) → arrays_take (arrays ++ a ∷ []) ≡ arrays_take arrays + (2 + a.row.length)
unfolding arrays_take
words_with [] a = omega arith
words_with (x ∷ arrays) a = let rest = words_with arrays a in omega (arith, rest)

kind_at : (kinds : List KindRow) (k : ℕ) → option_map_or (λ (row : KindRow). type_tag (of_field row.element) == 0) (slice_get kinds k) false ≡ get_or (map (λ (row : KindRow). type_tag (of_field row.element) == 0) kinds) k false
kind_at [] k = refl
kind_at (x ∷ kinds) zero = refl
kind_at (x ∷ kinds) (suc k) = kind_at kinds k

given_where : (m : Names) (kinds : List KindRow) (k n : ℕ) (b : Bool) → KindsDeclared m kinds → slice_index_or m.number_kinds k false ≡ b → numbers_given kinds k n ≡ (if b then n else 0)
unfolding numbers_given
given_where m kinds k n b declared is = ap (λ c. if c then n else 0) (kind_at kinds k ∙ ap (λ xs. get_or xs k false) declared ∙ is)

zeroes_long : (b : Bool) (n : ℕ) → length {A = ℕ} (if b then replicate n 0 else []) ≡ (if b then n else 0)
zeroes_long true n = length-replicate n 0
zeroes_long false n = refl

numbers_long : (m : Names) (kinds : List KindRow) (ext : Bool) (k n : ℕ) (ns : Option (List ℤ)) → KindsDeclared m kinds → numbers_fit m k n ns ≡ true → length (array_numbers m ext k n ns) ≡ part_numbers ext kinds k n
unfolding array_numbers part_numbers numbers_fit
numbers_long m kinds true k n ns declared fits = refl
numbers_long m kinds false k n None declared fits = zeroes_long (slice_index_or m.number_kinds k false) n ∙ sym (given_where m kinds k n (slice_index_or m.number_kinds k false) declared refl)
numbers_long m kinds false k n (Some ns) declared fits =
    let a = and_parts (slice_index_or m.number_kinds k false) (length ns == n) fits in
    let long : length ns ≡ n = let b = a.1 in grind (arith, nat_tests, b) in
    length-map ns word ∙ long ∙ sym (given_where m kinds k n true declared a.0)

each_word : (ns : List ℤ) → Each IsWord (map word ns)
each_word [] = tt
each_word (n ∷ ns) = (omega arith, each_word ns)

each_zero : (n : ℕ) → Each IsWord (replicate n 0)
each_zero zero = tt
each_zero (suc n) = (omega arith, each_zero n)

numbers_words : (m : Names) (ext : Bool) (k n : ℕ) (ns : Option (List ℤ)) → Each IsWord (array_numbers m ext k n ns)
unfolding array_numbers
numbers_words m true k n ns = tt
numbers_words m false k n (Some ns) = each_word ns
numbers_words m false k n None = go (slice_index_or m.number_kinds k false)
  where
    go : (b : Bool) → Each IsWord (if b then replicate n 0 else [])
    go true = each_zero n
    go false = tt

array_kept : (m first : Names) (names : List (List ℕ)) (u : ModuleTablesView) (ext : Bool) (n kind : List ℕ) (size : ℤ) (ns : Option (List ℤ)) (l : DataLine)
    → TablesKeep m first (length names) u → is_named names n ≡ true → data_line m n kind size ns (length u.arrays) u.words ≡ Ok l
    → TablesKeep m (record first { arrays = first.arrays ++ n ∷ [] }) (length names) (and_array u (name_number names n) ext l (array_numbers m ext l.kind l.length ns))
array_kept m first names u ext n kind size ns l k named h =
    let new : UnitArray = record { row = record { name = name_number names n; ext = ext; kind = l.kind; length = l.length }; numbers = array_numbers m ext l.kind l.length ns } in
    let st = data_steps m n kind size ns (length u.arrays) u.words l h in
    let room = data_room m n kind size ns (length u.arrays) u.words l h in
    let there = number_below m.kinds kind l.kind st.0 in
    record {
      counted = let c = k.counted in record {
        limits = record { sigs = c.limits.sigs; functions = c.limits.functions; classes = c.limits.classes; kinds = c.limits.kinds; statics = omega (arith, c.limits.statics); arrays = omega (arith, c.limits.arrays, length-append u.arrays (new ∷ [])); words = room };
        heap_words = c.heap_words;
        stacks = c.stacks;
        sigs = c.sigs;
        functions = c.functions;
        classes = c.classes;
        kinds = c.kinds;
        statics = c.statics;
        arrays = omega (arith, c.arrays, length-append u.arrays (new ∷ []), length-append first.arrays (n ∷ []));
        function_sigs = c.function_sigs;
        number_kinds = c.number_kinds;
        parents = c.parents;
        entries_below = c.entries_below;
        entries_apart = c.entries_apart;
        words = omega (arith, c.words, words_with u.arrays new);
      };
      rows = λ t fit. let r = k.rows t fit in record {
        sigs = r.sigs;
        functions = r.functions;
        entries = r.entries;
        classes = r.classes;
        kinds = r.kinds;
        statics = r.statics;
        arrays = λ kinds declared. each-push (IsArrayRow (length names) t kinds) u.arrays new (r.arrays kinds declared) (record {
          mention = mention names n fit.few_names named;
          kind_word = omega (arith, there, fit.kinds, fit.few_kinds);
          condition_21 = let below : l.kind < t.kinds = omega (arith, there, fit.kinds) in grind (arith, nat_tests, below);
          count = numbers_long m kinds ext l.kind l.length ns declared st.2;
          words = numbers_words m ext l.kind l.length ns;
        });
      };
    }

-- ---- functions

pub function_kept : (m first : Names) (names : List (List ℕ)) (u : ModuleTablesView) (ext : Bool) (n s : List ℕ) (has_code : Bool) (size sig : ℕ)
    → TablesKeep m first (length names) u → is_named names n ≡ true → function_line m n s has_code (length u.functions) ≡ Ok sig → OwnLength ext size
    → TablesKeep m (record first { functions = first.functions ++ n ∷ []; function_sigs = first.function_sigs ++ s ∷ [] }) (length names) (and_function u (name_number names n) ext size sig)
function_kept m first names u ext n s has_code size sig k named h own =
    let new : UnitFun = record { name = name_number names n; ext = ext; length = size; sig = sig } in
    let st = function_steps m n s has_code (length u.functions) sig h in
    let room = function_room m n s has_code (length u.functions) sig h in
    let there = number_below m.sigs s sig st.0 in
    record {
      counted = let c = k.counted in record {
        limits = record { sigs = c.limits.sigs; functions = omega (arith, room, length-append u.functions (new ∷ [])); classes = c.limits.classes; kinds = c.limits.kinds; statics = c.limits.statics; arrays = c.limits.arrays; words = c.limits.words };
        heap_words = c.heap_words;
        stacks = c.stacks;
        sigs = c.sigs;
        functions = omega (arith, c.functions, length-append u.functions (new ∷ []), length-append first.functions (n ∷ []));
        classes = c.classes;
        kinds = c.kinds;
        statics = c.statics;
        arrays = c.arrays;
        function_sigs = map-append (λ (f : UnitFun). Some f.sig) u.functions (new ∷ []) ∙ ap (λ xs. xs ++ Some sig ∷ []) c.function_sigs ∙ ap (λ o. map (number_of_name m.sigs) first.function_sigs ++ o ∷ []) (sym st.0) ∙ sym (map-append (number_of_name m.sigs) first.function_sigs (s ∷ []));
        number_kinds = c.number_kinds;
        parents = c.parents;
        entries_below = c.entries_below;
        entries_apart = c.entries_apart;
        words = c.words;
      };
      rows = λ t fit. let r = k.rows t fit in record {
        sigs = r.sigs;
        functions = each-push (IsFunctionRow (length names) t) u.functions new r.functions (record {
          mention = mention names n fit.few_names named;
          own = own;
          sig_word = omega (arith, there, fit.sigs, fit.few_sigs);
          condition_14 = let below : sig < t.sigs = omega (arith, there, fit.sigs) in grind (arith, nat_tests, below);
        });
        entries = r.entries;
        classes = r.classes;
        kinds = r.kinds;
        statics = r.statics;
        arrays = r.arrays;
      };
    }

-- ---- entries

or_parts : (b c : Bool) → (b || c) ≡ false → (b ≡ false) × (c ≡ false)
or_parts true c h = absurd (cc)
or_parts false c h = (refl, h)

not_among : (entries : List UnitEntry) (s : ℕ) → list_any (λ (e : UnitEntry). e.stack == s) entries ≡ false → list_any (nat_eq s) (map (λ (e : UnitEntry). e.stack) entries) ≡ false
not_among [] s none = refl
not_among (e ∷ entries) s none =
    let a = or_parts (e.stack == s) (list_any (λ (x : UnitEntry). x.stack == s) entries) none in
    let other : nat_eq s e.stack ≡ false = let b = a.0 in grind (arith, nat_tests, b) in
    ap (λ b. b || list_any (nat_eq s) (map (λ (x : UnitEntry). x.stack) entries)) other ∙ not_among entries s a.1

-- a stack that no entry has is apart from theirs
apart-push : (entries : List UnitEntry) (s : ℕ) → list_any (λ (e : UnitEntry). e.stack == s) entries ≡ false → IsDistinct nat_eq (map (λ (e : UnitEntry). e.stack) entries)
    → IsDistinct nat_eq (map (λ (e : UnitEntry). e.stack) entries ++ s ∷ [])
apart-push entries s none h = IsDistinct-push nat_eq_equiv (map (λ (e : UnitEntry). e.stack) entries) s h (not_among entries s none)

no_entry : (entries : List UnitEntry) (stack : ℤ) (s : ℕ) → has_entry entries stack ≡ false → natural stack ≡ Some s → list_any (λ (e : UnitEntry). e.stack == s) entries ≡ false
unfolding has_entry
no_entry entries stack s none is = sym (ap (λ (o : Option ℕ). option_map_or (λ x. list_any (λ (e : UnitEntry). e.stack == x) entries) o false) is) ∙ none

entry_kept : (m first : Names) (names : ℕ) (u : ModuleTablesView) (stack : ℤ) (f : List ℕ) (l : EntryLine)
    → TablesKeep m first names u → entry_line m stack f (has_entry u.entries stack) ≡ Ok l → TablesKeep m first names (and_entry u l)
entry_kept m first names u stack f l k h =
    let new : UnitEntry = record { stack = l.stack; function = l.function } in
    let st = entry_steps m stack f (has_entry u.entries stack) l h in
    let room = stack_room m stack f (has_entry u.entries stack) l h in
    let there = number_below m.functions f l.function st.0 in
    record {
      counted = let c = k.counted in record {
        limits = record { sigs = c.limits.sigs; functions = c.limits.functions; classes = c.limits.classes; kinds = c.limits.kinds; statics = c.limits.statics; arrays = c.limits.arrays; words = c.limits.words };
        heap_words = c.heap_words;
        stacks = c.stacks;
        sigs = c.sigs;
        functions = c.functions;
        classes = c.classes;
        kinds = c.kinds;
        statics = c.statics;
        arrays = c.arrays;
        function_sigs = c.function_sigs;
        number_kinds = c.number_kinds;
        parents = c.parents;
        entries_below = each-push (λ (e : UnitEntry). e.stack ≤ 63) u.entries new c.entries_below room;
        entries_apart = subst (IsDistinct nat_eq) (sym (map-append (λ (e : UnitEntry). e.stack) u.entries (new ∷ []))) (apart-push u.entries l.stack (no_entry u.entries stack l.stack st.1 st.2) c.entries_apart);
        words = c.words;
      };
      rows = λ t fit. let r = k.rows t fit in record {
        sigs = r.sigs;
        functions = r.functions;
        entries = each-push (IsUnitEntry (length m.functions)) u.entries new r.entries (record {
          stack_word = omega (arith, room);
          stack_15 = grind (arith, nat_tests, room);
          function_word = omega (arith, there, fit.few_functions);
          function_15 = grind (arith, nat_tests, there);
        });
        classes = r.classes;
        kinds = r.kinds;
        statics = r.statics;
        arrays = r.arrays;
      };
    }

-- ---- classes

-- what a class whose lines are taken is below
abbrev class_below : Result ClassRow AsmFault → Option ℕ → Option ℕ
class_below (Ok row) p = row.parent
class_below (Err f) p = p

taken_below : {A : Type 0} (of : A → ClassSoFar) (r : Result A ℕ) (c d : ClassSoFar) → ((x : A) → (of x).parent ≡ c.parent) → Some (then_taken of r) ≡ Some (Ok d) → d.parent ≡ c.parent
taken_below of (Ok x) c d each h = sym (ap below h) ∙ each x
  where
    below : Option (Result ClassSoFar ℕ) → Option ℕ
    below (Some (Ok y)) = y.parent
    below _ = c.parent
taken_below of (Err code) c d each h = absurd (subst is_fault h tt)
  where
    is_fault : Option (Result ClassSoFar ℕ) → Type 0
    is_fault (Some (Ok y)) = ⊥
    is_fault _ = Unit {0}

member_below : (m : Names) (c d : ClassSoFar) (f : Form) → take_member m c f ≡ Some (Ok d) → d.parent ≡ c.parent
unfolding take_member
member_below m c d (form.Field n text) h = taken_below (with_field c n) (field_line m c n text) c d (λ x. refl) h
member_below m c d (form.Method n s f) h = taken_below (with_method c n) (method_line m c n s f) c d (λ x. refl) h
member_below m c d f h = absurd (none-some _ h)

-- the row of a class is below the same class
row_below : (m : Names) (c : ClassSoFar) (ls : List TextLine) (row : ClassRow) → take_members m c ls ≡ Ok row → row.parent ≡ c.parent
unfolding take_members
row_below m c [] row h = sym (ap (λ r. class_below r c.parent) h)
row_below m c (l ∷ ls) row h = go (λ d g. row_below m d ls row g) (take_member m c l.form) refl h
  where
    go : ((d : ClassSoFar) → take_members m d ls ≡ Ok row → row.parent ≡ d.parent) → (o : Option (Result ClassSoFar ℕ)) → take_member m c l.form ≡ o → class_goes_on (λ taken. take_members m taken ls) c l.number o ≡ Ok row → row.parent ≡ c.parent
    go more None is g = sym (ap (λ r. class_below r c.parent) g)
    go more (Some (Err code)) is g = absurd (cc)
    go more (Some (Ok d)) is g = more d g ∙ member_below m c d l.form is

earlier_row : (m : Names) (rows p : ℕ) → parent_row_fits m rows p ≡ true → p < rows
unfolding parent_row_fits
earlier_row m rows p h = let a = (and_parts (nat_lt p rows) _ h).0 in grind (arith, nat_tests, a)

-- the class above a class's first line, as the names and as the trials have it, fits
parent_steps : (m first : Names) (u : ModuleTablesView) (n : List ℕ) (p : Option (List ℕ)) (above : Option ℕ) → length u.classes ≡ length first.classes → StartsWith m.classes first.classes
    → class_line m n p (length u.classes) ≡ Ok above → (named_parent first p ≡ above) × FitsBelow m u.classes above
unfolding named_parent
parent_steps m first u n None above long front h =
    let st = root_steps m n (length u.classes) above h in
    (sym st.1, subst (FitsBelow m u.classes) (sym st.1) tt)
parent_steps m first u n (Some a) above long front h =
    let st = below_steps m n a (length u.classes) above h in
    let lt : st.0 < length first.classes = omega (arith, long, earlier_row m (length u.classes) st.0 st.3) in
    (same_early first.classes front.0 a st.0 (sym (ap (λ xs. number_of_name xs a) front.1) ∙ st.1) lt ∙ sym st.4, subst (FitsBelow m u.classes) (sym st.4) st.3)

-- the classes before one are the first that the module declares
first_rows : (m first : Names) (u : ModuleTablesView) → StartsWith m.members first.members → map (λ (c : UnitClass). c.row.parent) u.classes ≡ map (λ (k : ClassNames). k.parent) first.members → AreFirst m u.classes
first_rows m first u front same = (
  map (λ (k : ClassNames). k.parent) front.0,
  ap (map (λ (k : ClassNames). k.parent)) front.1 ∙ map-append (λ (k : ClassNames). k.parent) first.members front.0 ∙ ap (λ xs. xs ++ map (λ (k : ClassNames). k.parent) front.0) (sym same),
)

-- the law of classes, as it stands below
abbrev pub KeepsClasses : Type 0
KeepsClasses = (m : Names) (t : Tables) (functions : List FunctionPart) (names : ℕ) (rows : List UnitClass) (parent : Option ℕ) (behind : List TextLine) (name : ℕ) (ext : Bool) (row : ClassRow)
    → TypesKnown m t → AreDeclared m functions → AreFirst m rows → AreClasses names t functions rows → length rows < 1024 → FitsBelow m rows parent → IsMention names name
    → class_row m rows parent behind ≡ Ok row → (row.parent ≡ parent) × AreClasses names t functions (rows ++ record { name = name; ext = ext; row = row } ∷ [])

class_kept : (m first : Names) (names : List (List ℕ)) (u : ModuleTablesView) (ext : Bool) (n : List ℕ) (p : Option (List ℕ)) (behind : List TextLine) (above : Option ℕ) (row : ClassRow)
    → KeepsClasses → TablesKeep m first (length names) u → is_named names n ≡ true → StartsWith m.classes first.classes → StartsWith m.members first.members
    → class_line m n p (length u.classes) ≡ Ok above → class_row m u.classes above behind ≡ Ok row
    → TablesKeep m (record first { classes = first.classes ++ n ∷ []; members = first.members ++ class_of first.members (named_parent first p) behind ∷ [] }) (length names) (and_class u (name_number names n) ext row)
unfolding class_row
class_kept m first names u ext n p behind above row law k named front members h made =
    let new : UnitClass = record { name = name_number names n; ext = ext; row = row } in
    let room = class_room m n p (length u.classes) above h in
    let st = parent_steps m first u n p above k.counted.classes front h in
    let up : row.parent ≡ (class_of first.members (named_parent first p) behind).parent = row_below m _ behind row made ∙ sym st.0 ∙ sym (class_parent first.members (named_parent first p) behind) in
    record {
      counted = let c = k.counted in record {
        limits = record { sigs = c.limits.sigs; functions = c.limits.functions; classes = omega (arith, room, length-append u.classes (new ∷ [])); kinds = c.limits.kinds; statics = c.limits.statics; arrays = c.limits.arrays; words = c.limits.words };
        heap_words = c.heap_words;
        stacks = c.stacks;
        sigs = c.sigs;
        functions = c.functions;
        classes = omega (arith, c.classes, length-append u.classes (new ∷ []), length-append first.classes (n ∷ []));
        kinds = c.kinds;
        statics = c.statics;
        arrays = c.arrays;
        function_sigs = c.function_sigs;
        number_kinds = c.number_kinds;
        parents = map-append (λ (x : UnitClass). x.row.parent) u.classes (new ∷ []) ∙ ap (λ xs. xs ++ row.parent ∷ []) c.parents ∙ ap (λ o. map (λ (x : ClassNames). x.parent) first.members ++ o ∷ []) up ∙ sym (map-append (λ (x : ClassNames). x.parent) first.members (class_of first.members (named_parent first p) behind ∷ []));
        entries_below = c.entries_below;
        entries_apart = c.entries_apart;
        words = c.words;
      };
      rows = λ t fit. let r = k.rows t fit in record {
        sigs = r.sigs;
        functions = r.functions;
        entries = r.entries;
        classes = λ functions declared. (law m t functions (length names) u.classes above behind (name_number names n) ext row fit.types declared (first_rows m first u members k.counted.parents) (r.classes functions declared) room st.1
            (mention names n fit.few_names named) made).1;
        kinds = r.kinds;
        statics = r.statics;
        arrays = r.arrays;
      };
    }

-- ---- the heap and the stacks

heap_kept : (m first : Names) (names : ℕ) (u : ModuleTablesView) (words : ℕ) → TablesKeep m first names u → heap_fits words ≡ true → TablesKeep m first names (record u { heap_words = words })
heap_kept m first names u words k h =
    record {
      counted = let c = k.counted in record {
        limits = record { sigs = c.limits.sigs; functions = c.limits.functions; classes = c.limits.classes; kinds = c.limits.kinds; statics = c.limits.statics; arrays = c.limits.arrays; words = c.limits.words };
        heap_words = or_right (words == 0) (heap_fits words) h;
        stacks = c.stacks;
        sigs = c.sigs;
        functions = c.functions;
        classes = c.classes;
        kinds = c.kinds;
        statics = c.statics;
        arrays = c.arrays;
        function_sigs = c.function_sigs;
        number_kinds = c.number_kinds;
        parents = c.parents;
        entries_below = c.entries_below;
        entries_apart = c.entries_apart;
        words = c.words;
      };
      rows = λ t fit. let r = k.rows t fit in record {
        sigs = r.sigs;
        functions = r.functions;
        entries = r.entries;
        classes = r.classes;
        kinds = r.kinds;
        statics = r.statics;
        arrays = r.arrays;
      };
    }

stacks_kept : (m first : Names) (names : ℕ) (u : ModuleTablesView) (stacks : ℕ) → TablesKeep m first names u → stacks_fit stacks ≡ true → TablesKeep m first names (record u { stacks = stacks })
stacks_kept m first names u stacks k h =
    record {
      counted = let c = k.counted in record {
        limits = record { sigs = c.limits.sigs; functions = c.limits.functions; classes = c.limits.classes; kinds = c.limits.kinds; statics = c.limits.statics; arrays = c.limits.arrays; words = c.limits.words };
        heap_words = c.heap_words;
        stacks = or_right (stacks == 0) (stacks_fit stacks) h;
        sigs = c.sigs;
        functions = c.functions;
        classes = c.classes;
        kinds = c.kinds;
        statics = c.statics;
        arrays = c.arrays;
        function_sigs = c.function_sigs;
        number_kinds = c.number_kinds;
        parents = c.parents;
        entries_below = c.entries_below;
        entries_apart = c.entries_apart;
        words = c.words;
      };
      rows = λ t fit. let r = k.rows t fit in record {
        sigs = r.sigs;
        functions = r.functions;
        entries = r.entries;
        classes = r.classes;
        kinds = r.kinds;
        statics = r.statics;
        arrays = r.arrays;
      };
    }

-- ---- a line

row_of_sigs : (m : Names) (n : List ℕ) → is_named m.sigs n ≡ true → names_row m n ≡ true
unfolding names_row
row_of_sigs m n h = or_left (is_named m.sigs n) (is_named m.classes n || (is_named m.kinds n || (is_named m.statics n || (is_named m.arrays n || is_named m.functions n)))) h

row_of_classes : (m : Names) (n : List ℕ) → is_named m.classes n ≡ true → names_row m n ≡ true
unfolding names_row
row_of_classes m n h = or_right (is_named m.sigs n) (is_named m.classes n || (is_named m.kinds n || (is_named m.statics n || (is_named m.arrays n || is_named m.functions n)))) (or_left (is_named m.classes n) (is_named m.kinds n || (is_named m.statics n || (is_named m.arrays n || is_named m.functions n))) h)

row_of_kinds : (m : Names) (n : List ℕ) → is_named m.kinds n ≡ true → names_row m n ≡ true
unfolding names_row
row_of_kinds m n h = or_right (is_named m.sigs n) (is_named m.classes n || (is_named m.kinds n || (is_named m.statics n || (is_named m.arrays n || is_named m.functions n)))) (or_right (is_named m.classes n) (is_named m.kinds n || (is_named m.statics n || (is_named m.arrays n || is_named m.functions n))) (or_left (is_named m.kinds n) (is_named m.statics n || (is_named m.arrays n || is_named m.functions n)) h))

row_of_statics : (m : Names) (n : List ℕ) → is_named m.statics n ≡ true → names_row m n ≡ true
unfolding names_row
row_of_statics m n h = or_right (is_named m.sigs n) (is_named m.classes n || (is_named m.kinds n || (is_named m.statics n || (is_named m.arrays n || is_named m.functions n)))) (or_right (is_named m.classes n) (is_named m.kinds n || (is_named m.statics n || (is_named m.arrays n || is_named m.functions n))) (or_right (is_named m.kinds n) (is_named m.statics n || (is_named m.arrays n || is_named m.functions n)) (or_left (is_named m.statics n) (is_named m.arrays n || is_named m.functions n) h)))

row_of_arrays : (m : Names) (n : List ℕ) → is_named m.arrays n ≡ true → names_row m n ≡ true
unfolding names_row
row_of_arrays m n h = or_right (is_named m.sigs n) (is_named m.classes n || (is_named m.kinds n || (is_named m.statics n || (is_named m.arrays n || is_named m.functions n)))) (or_right (is_named m.classes n) (is_named m.kinds n || (is_named m.statics n || (is_named m.arrays n || is_named m.functions n))) (or_right (is_named m.kinds n) (is_named m.statics n || (is_named m.arrays n || is_named m.functions n)) (or_right (is_named m.statics n) (is_named m.arrays n || is_named m.functions n) (or_left (is_named m.arrays n) (is_named m.functions n) h))))

row_of_functions : (m : Names) (n : List ℕ) → is_named m.functions n ≡ true → names_row m n ≡ true
unfolding names_row
row_of_functions m n h = or_right (is_named m.sigs n) (is_named m.classes n || (is_named m.kinds n || (is_named m.statics n || (is_named m.arrays n || is_named m.functions n)))) (or_right (is_named m.classes n) (is_named m.kinds n || (is_named m.statics n || (is_named m.arrays n || is_named m.functions n))) (or_right (is_named m.kinds n) (is_named m.statics n || (is_named m.arrays n || is_named m.functions n)) (or_right (is_named m.statics n) (is_named m.arrays n || is_named m.functions n) (or_right (is_named m.arrays n) (is_named m.functions n) (h)))))

-- what is new with a line that declares a name of a table
abbrev IsFresh : List (List ℕ) → List (List ℕ) → List (List ℕ) → List ℕ → Type 0
IsFresh first all names n = (is_named first n ≡ false) × (is_named names n ≡ true)

fresh : (m : Names) (first all : List (List ℕ)) (names : List (List ℕ)) (f : Form) (n : List ℕ) (rows : ℕ) → StartsWith all (if is_named first n then first else first ++ n ∷ []) → rows ≡ length first
    → is_twice all n rows ≡ false → AreMentioned m names f → (is_named all n ≡ true → names_row m n ≡ true) → is_named (form_names f) n ≡ true → IsFresh first all names n
fresh m first all names f n rows front long once mentioned row named =
    let new = is_new first all n rows front long once in
    (new, mentioned n (row (is_declared first all n (front_new first all n front new))) named)

-- a line mentions the name that it declares first
mentions_sig : (ext : Bool) (n : List ℕ) (ps : List RegType) (r : TypeText) → is_named (form_names (form.Sig ext n ps r)) n ≡ true
unfolding form_names
mentions_sig ext n ps r = named_first n (flat_map reg_type_names ps ++ type_names r)

mentions_kind : (ext : Bool) (n : List ℕ) (t : TypeText) → is_named (form_names (form.Kind ext n t)) n ≡ true
unfolding form_names
mentions_kind ext n t = named_first n (type_names t)

mentions_static : (ext : Bool) (n : List ℕ) (t : TypeText) → is_named (form_names (form.Static ext n t)) n ≡ true
unfolding form_names
mentions_static ext n t = named_first n (type_names t)

mentions_data : (ext : Bool) (n k : List ℕ) (size : ℤ) (ns : Option (List ℤ)) → is_named (form_names (form.DataArray ext n k size ns)) n ≡ true
unfolding form_names
mentions_data ext n k size ns = named_first n (k ∷ [])

mentions_class : (ext : Bool) (n : List ℕ) (p : Option (List ℕ)) → is_named (form_names (form.Class ext n p)) n ≡ true
unfolding form_names
mentions_class ext n p = named_first n (option_to_list p)

mentions_func : (ext : Bool) (n s : List ℕ) → is_named (form_names (form.Func ext n s)) n ≡ true
unfolding form_names
mentions_func ext n s = named_first n (s ∷ [])

-- a table that grows with another one begins with what it held
kinds_front : (m first : Names) (n : List ℕ) (x : Bool) (b : Bool) → StartsWith m.kinds (if b then first else record first { kinds = first.kinds ++ n ∷ []; number_kinds = first.number_kinds ++ x ∷ [] }).kinds
    → StartsWith m.kinds (if b then first.kinds else first.kinds ++ n ∷ [])
kinds_front m first n x true h = h
kinds_front m first n x false h = h

classes_front : (m first : Names) (n : List ℕ) (x : ClassNames) (b : Bool) → StartsWith m.classes (if b then first else record first { classes = first.classes ++ n ∷ []; members = first.members ++ x ∷ [] }).classes
    → StartsWith m.classes (if b then first.classes else first.classes ++ n ∷ [])
classes_front m first n x true h = h
classes_front m first n x false h = h

functions_front : (m first : Names) (n s : List ℕ) (b : Bool) → StartsWith m.functions (if b then first else record first { functions = first.functions ++ n ∷ []; function_sigs = first.function_sigs ++ s ∷ [] }).functions
    → StartsWith m.functions (if b then first.functions else first.functions ++ n ∷ [])
functions_front m first n s true h = h
functions_front m first n s false h = h

shorter : {A : Type 0} (all xs ys : List A) → StartsWith all (xs ++ ys) → StartsWith all xs
shorter all xs ys h = (ys ++ h.0, h.1 ∙ append_assoc xs ys h.0)

-- with a function
pub function_declared : (m first : Names) (names : List (List ℕ)) (u : ModuleTablesView) (ext : Bool) (n s : List ℕ) (behind : List TextLine) (has_code : Bool) (size sig : ℕ)
    → DeclaredBefore (declare first (form.Func ext n s) behind) m → AreMentioned m names (form.Func ext n s) → TablesKeep m first (length names) u → function_line m n s has_code (length u.functions) ≡ Ok sig → OwnLength ext size
    → TablesKeep m (declare first (form.Func ext n s) behind) (length names) (and_function u (name_number names n) ext size sig)
unfolding declare with_named_function
function_declared m first names u ext n s behind has_code size sig begins mentioned k h own =
    let st = function_steps m n s has_code (length u.functions) sig h in
    let new = fresh m first.functions m.functions names (form.Func ext n s) n (length u.functions) (functions_front m first n s (is_named first.functions n) begins.functions) k.counted.functions st.1 mentioned (row_of_functions m n) (mentions_func ext n s) in
    subst (λ b. TablesKeep m (if b then first else record first { functions = first.functions ++ n ∷ []; function_sigs = first.function_sigs ++ s ∷ [] }) (length names) (and_function u (name_number names n) ext size sig))
    (sym new.0) (function_kept m first names u ext n s has_code size sig k new.1 h own)

class_members : (m first : Names) (n : List ℕ) (x : ClassNames) (b : Bool) → b ≡ false → StartsWith m.members (if b then first else record first { classes = first.classes ++ n ∷ []; members = first.members ++ x ∷ [] }).members → StartsWith m.members first.members
class_members m first n x true new h = absurd (cc)
class_members m first n x false new h = shorter m.members first.members (x ∷ []) h

-- a class is not declared twice
class_fresh : (m : Names) (n : List ℕ) (p : Option (List ℕ)) (rows : ℕ) (above : Option ℕ) → class_line m n p rows ≡ Ok above → is_twice m.classes n rows ≡ false
class_fresh m n None rows above h = (root_steps m n rows above h).0
class_fresh m n (Some a) rows above h = (below_steps m n a rows above h).2

-- with a class
class_declared : KeepsClasses → (m first : Names) (names : List (List ℕ)) (u : ModuleTablesView) (ext : Bool) (n : List ℕ) (p : Option (List ℕ)) (behind : List TextLine) (above : Option ℕ) (row : ClassRow) (v : ModuleTablesView)
    → DeclaredBefore (declare first (form.Class ext n p) behind) m → AreMentioned m names (form.Class ext n p) → TablesKeep m first (length names) u
    → class_line m n p (length u.classes) ≡ Ok above → class_row m u.classes above behind ≡ Ok row → and_class u (name_number names n) ext row ≡ v
    → TablesKeep m (declare first (form.Class ext n p) behind) (length names) v
unfolding declare with_named_class
class_declared law m first names u ext n p behind above row v begins mentioned k h made is =
    let x = class_of first.members (named_parent first p) behind in
    let front = classes_front m first n x (is_named first.classes n) begins.classes in
    let new = fresh m first.classes m.classes names (form.Class ext n p) n (length u.classes) front k.counted.classes (class_fresh m n p (length u.classes) above h) mentioned (row_of_classes m n) (mentions_class ext n p) in
    let rows = class_kept m first names u ext n p behind above row law k new.1 (shorter m.classes first.classes (n ∷ []) (front_new first.classes m.classes n front new.0))
    (class_members m first n x (is_named first.classes n) new.0 begins.members) h made in
    let grown = subst (λ b. TablesKeep m (if b then first else record first { classes = first.classes ++ n ∷ []; members = first.members ++ x ∷ [] }) (length names) (and_class u (name_number names n) ext row)) (sym new.0) rows in
    subst (TablesKeep m (if is_named first.classes n then first else record first { classes = first.classes ++ n ∷ []; members = first.members ++ x ∷ [] }) (length names)) is grown

got : {A : Type 0} (x y : A) → ◌≡◌ {A = Result A AsmFault} (Ok x) (Ok y) → x ≡ y
got {A = A} x y h = ap value h
  where
    value : Result A AsmFault → A
    value (Ok z) = z
    value (Err f) = x

-- with the row of a line
pub rows_kept : KeepsClasses → (m first : Names) (names : List (List ℕ)) (u v : ModuleTablesView) (line : ℕ) (f : Form) (behind : List TextLine)
    → MakesRow f → DeclaredBefore (declare first f behind) m → AreMentioned m names f → TablesKeep m first (length names) u
    → take_row m names u line f behind ≡ Ok v → TablesKeep m (declare first f behind) (length names) v
unfolding take_row declare with_named_kind with_named_class
rows_kept law m first names u v line (form.Heap n) behind makes begins mentioned k h =
    let a = made line (λ words. record u { heap_words = words }) (heap_line u.heap_words n) v h in
    subst (TablesKeep m first (length names)) a.2 (heap_kept m first (length names) u a.0 k (heap_steps u.heap_words n a.0 a.1))
rows_kept law m first names u v line (form.Stacks n) behind makes begins mentioned k h =
    let a = made line (λ stacks. record u { stacks = stacks }) (stacks_line u.stacks n) v h in
    subst (TablesKeep m first (length names)) a.2 (stacks_kept m first (length names) u a.0 k (stacks_steps u.stacks n a.0 a.1))
rows_kept law m first names u v line (form.Entry s f) behind makes begins mentioned k h =
    let a = made line (and_entry u) (entry_line m s f (has_entry u.entries s)) v h in
    subst (TablesKeep m first (length names)) a.2 (entry_kept m first (length names) u s f a.0 k a.1)
rows_kept law m first names u v line (form.Sig ext n ps r) behind makes begins mentioned k h =
    let a = made line (and_sig u (name_number names n) ext) (sig_line m n ps r (length u.sigs)) v h in
    let st = sig_steps m n ps r (length u.sigs) a.0 a.1 in
    let new = fresh m first.sigs m.sigs names (form.Sig ext n ps r) n (length u.sigs) begins.sigs k.counted.sigs st.2 mentioned (row_of_sigs m n) (mentions_sig ext n ps r) in
    let row = sig_kept m first names u ext n ps r a.0 k new.1 a.1 in
    let grown = subst (λ b. TablesKeep m (record first { sigs = if b then first.sigs else first.sigs ++ n ∷ [] }) (length names) (and_sig u (name_number names n) ext a.0)) (sym new.0) row in
    subst (TablesKeep m (record first { sigs = if is_named first.sigs n then first.sigs else first.sigs ++ n ∷ [] }) (length names)) a.2 grown
rows_kept law m first names u v line (form.Kind ext n t) behind makes begins mentioned k h =
    let a = made line (and_kind u (name_number names n) ext) (kind_line m n t (length u.kinds)) v h in
    let st = kind_steps m n t (length u.kinds) a.0 a.1 in
    let new = fresh m first.kinds m.kinds names (form.Kind ext n t) n (length u.kinds) (kinds_front m first n (is_number_type t) (is_named first.kinds n) begins.kinds) k.counted.kinds st.2 mentioned (row_of_kinds m n) (mentions_kind ext n t) in
    let row = kind_kept m first names u ext n t a.0 k new.1 a.1 in
    let grown = subst (λ b. TablesKeep m (if b then first else record first { kinds = first.kinds ++ n ∷ []; number_kinds = first.number_kinds ++ is_number_type t ∷ [] }) (length names) (and_kind u (name_number names n) ext a.0)) (sym new.0) row in
    subst (TablesKeep m (if is_named first.kinds n then first else record first { kinds = first.kinds ++ n ∷ []; number_kinds = first.number_kinds ++ is_number_type t ∷ [] }) (length names)) a.2 grown
rows_kept law m first names u v line (form.Static ext n t) behind makes begins mentioned k h =
    let a = made line (and_static u (name_number names n) ext) (static_line m n t (length u.statics) u.words) v h in
    let st = static_steps m n t (length u.statics) u.words a.0 a.1 in
    let new = fresh m first.statics m.statics names (form.Static ext n t) n (length u.statics) begins.statics k.counted.statics st.2 mentioned (row_of_statics m n) (mentions_static ext n t) in
    let row = static_kept m first names u ext n t a.0 k new.1 a.1 in
    let grown = subst (λ b. TablesKeep m (record first { statics = if b then first.statics else first.statics ++ n ∷ [] }) (length names) (and_static u (name_number names n) ext a.0)) (sym new.0) row in
    subst (TablesKeep m (record first { statics = if is_named first.statics n then first.statics else first.statics ++ n ∷ [] }) (length names)) a.2 grown
rows_kept law m first names u v line (form.DataArray ext n kind size ns) behind makes begins mentioned k h =
    let a = made line (λ (l : DataLine). and_array u (name_number names n) ext l (array_numbers m ext l.kind l.length ns)) (data_line m n kind size ns (length u.arrays) u.words) v h in
    let st = data_steps m n kind size ns (length u.arrays) u.words a.0 a.1 in
    let new = fresh m first.arrays m.arrays names (form.DataArray ext n kind size ns) n (length u.arrays) begins.arrays k.counted.arrays st.1 mentioned (row_of_arrays m n) (mentions_data ext n kind size ns) in
    let row = array_kept m first names u ext n kind size ns a.0 k new.1 a.1 in
    let grown = subst (λ b. TablesKeep m (record first { arrays = if b then first.arrays else first.arrays ++ n ∷ [] }) (length names) (and_array u (name_number names n) ext a.0 (array_numbers m ext a.0.kind a.0.length ns))) (sym new.0) row in
    subst (TablesKeep m (record first { arrays = if is_named first.arrays n then first.arrays else first.arrays ++ n ∷ [] }) (length names)) a.2 grown
rows_kept law m first names u v line (form.Class ext n p) behind makes begins mentioned k h =
    let a = then_made line (λ parent. make (and_class u (name_number names n) ext) (class_row m u.classes parent behind)) (class_line m n p (length u.classes)) v h in
    let b = made_of (and_class u (name_number names n) ext) (class_row m u.classes a.0 behind) v a.2 in
    class_declared law m first names u ext n p behind a.0 b.0 v begins mentioned k a.1 b.1 b.2
rows_kept law m first names u v line (form.Func true n s) behind makes begins mentioned k h =
    let a = made line (and_function u (name_number names n) true 0) (function_line m n s true (length u.functions)) v h in
    subst (TablesKeep m (declare first (form.Func true n s) behind) (length names)) a.2 (function_declared m first names u true n s behind true 0 a.0 begins mentioned k a.1 refl)
rows_kept law m first names u v line (form.Func false n s) behind makes begins mentioned k h = absurd makes
rows_kept law m first names u v line (form.Field n t) behind makes begins mentioned k h = subst (TablesKeep m first (length names)) (got u v h) k
rows_kept law m first names u v line (form.Method n s f) behind makes begins mentioned k h = subst (TablesKeep m first (length names)) (got u v h) k
rows_kept law m first names u v line form.End behind makes begins mentioned k h = subst (TablesKeep m first (length names)) (got u v h) k
rows_kept law m first names u v line (form.Label n rs ss) behind makes begins mentioned k h = subst (TablesKeep m first (length names)) (got u v h) k
rows_kept law m first names u v line (form.Inst mnemonic args) behind makes begins mentioned k h = subst (TablesKeep m first (length names)) (got u v h) k

-- ---- no rows

-- empty tables
pub empty_kept : (m : Names) (names : ℕ) → TablesKeep m no_names names no_tables
unfolding arrays_take field_count IsDistinct
empty_kept m names = record {
  counted = record {
    limits = record { sigs = omega arith; functions = omega arith; classes = omega arith; kinds = omega arith; statics = omega arith; arrays = omega arith; words = omega arith };
    heap_words = refl;
    stacks = refl;
    sigs = refl;
    functions = refl;
    classes = refl;
    kinds = refl;
    statics = refl;
    arrays = refl;
    function_sigs = refl;
    number_kinds = refl;
    parents = refl;
    entries_below = tt;
    entries_apart = tt;
    words = refl;
  };
  rows = λ t fit. record {
    sigs = tt;
    functions = tt;
    entries = tt;
    classes = λ functions declared. record {
      formed = tt;
      earlier = λ c p k at up. absurd (none-some _ at);
      few_fields = λ c. omega arith;
      few_methods = λ c k at. absurd (none-some _ at);
      methods = λ c k at. absurd (none-some _ at);
    };
    kinds = tt;
    statics = tt;
    arrays = λ kinds declared. tt;
  };
}
