-- The file of a unit is its fields one after another.
use Rattle.std.specs.List.{flat_map}
use Rattle.std.proofs.Common.{◌≡◌, ℕ, ◌+◌, ◌-◌, ◌≤◌, Bool, true, false, List, [], ◌∷◌, ◌++◌, length, map, refl, sym, ap, subst, ◌∙◌, append_assoc, arith}
use Rattle.std.proofs.lemmas.Bool.Decides.{nat_tests}
use Rattle.std.proofs.lemmas.List.{append-nil, length-append}
use Rattle.std.proofs.lemmas.Grind.{flat_map-append}
use Rattle.object_layout.specs.declared.rows.KindRow.{KindRow}
use Rattle.file_fields.specs.Grammar.{fields_text, SoundFile}
use Rattle.file_fields.specs.Laws.{NumberMeanings}
use Rattle.file_fields.specs.Parts.{Means, FieldsOf, Counted, EachAfter, Each}
use Rattle.file_fields.specs.Composed.{many_means, each_means, put_part, put_last, take_part, take_last, supposing}
use Rattle.tal_image.specs.declared.parts.FunctionPart.{FunctionPart}
use Rattle.tal_image.specs.Image.{number_bytes, numbers, block_bytes, mark_bytes}
use Rattle.tal_image.specs.declared.parts.Tables.{Tables}
use Rattle.tal_image.specs.Conditions.{Spelled, part_length_fits}
use Rattle.tal_image.specs.Fields.{all_instructions, code_bytes}
use Rattle.tal_image.specs.Formed.{AreBodies, IsBlockPart}
use Rattle.tal_image.specs.Rows.{RowMeanings, header_numbers}
use Rattle.unit_files.specs.Unit.{UnitParts, UnitFun, kind_row, block_part, mark_part, function_parts, own_functions, name_bytes, unit_sig_bytes, unit_function_bytes, entry_bytes, unit_class_bytes, unit_kind_bytes, unit_static_bytes, unit_array_bytes, fixup_bytes, unit_magic, unit_header, UnitFileOf}
use Rattle.unit_files.specs.Fields.{UnitHeader, tables_behind, unit_names, unit_sigs, unit_functions, unit_entries, unit_classes, unit_kinds, unit_statics, unit_arrays, unit_blocks, unit_marks, unit_fixups, UnitFront, UnitTables, UnitCode, front_fields, table_fields, code_fields, unit_from, unit_fields}
use Rattle.unit_files.specs.Formed.{IsName, IsUnitSig, IsUnitFun, IsUnitEntry, IsUnitClass, IsUnitKind, IsUnitStatic, IsUnitArray, IsUnitMark, IsFixUp, after_unit_fun, with_unit_class, with_unit_array, after_unit_block, after_unit_mark, after_fixup, UnitFormed, UnitOf}
use Rattle.unit_files.proofs.Meaning.Rows.{unit_sig_means, unit_function_means, entry_means, unit_class_means, unit_kind_means, unit_static_means, unit_array_means}
use Rattle.unit_files.proofs.Meaning.Code.{IsUnitHeader, header_text, HasOwner, SomeText, unit_header_means, name_means, unit_bodies_means, unit_block_means, unit_mark_means, fixup_means}

-- ---- the three parts of a file

-- what stands before the classes is as it must be
record IsFront (f : UnitFront) : Type 0 where
  header : IsUnitHeader f.header
  names : Counted f.header.names (Each IsName) f.names
  sigs : Counted f.header.image.sigs (Each (IsUnitSig f.header.names (tables_behind f.header))) f.sigs
  functions : Counted f.header.image.functions (EachAfter after_unit_fun (λ later left x. IsUnitFun f.header.names (tables_behind f.header) later left x) f.header.image.code) f.functions
  entries : Counted f.header.entries (Each (IsUnitEntry f.header.image.functions)) f.entries

-- the tables behind it
record AreTables (f : UnitFront) (t : UnitTables) : Type 0 where
  classes : Counted f.header.image.classes (EachAfter with_unit_class (λ later classes c. IsUnitClass f.header.names (tables_behind f.header) (function_parts f.functions) classes c) []) t.classes
  kinds : Counted f.header.image.kinds (Each (IsUnitKind f.header.names (tables_behind f.header))) t.kinds
  statics : Counted f.header.image.statics (Each (IsUnitStatic f.header.names (tables_behind f.header))) t.statics
  arrays : Counted f.header.image.arrays (EachAfter with_unit_array (λ later used a. IsUnitArray f.header.names (tables_behind f.header) (map kind_row t.kinds) used a) f.header.image.statics) t.arrays

-- the code, and what is said of it
record IsCode (f : UnitFront) (c : UnitCode) : Type 0 where
  bodies : AreBodies (own_functions f.functions) c.bodies × HasOwner f.functions f.header.image.code
  blocks : Counted f.header.image.blocks (EachAfter after_unit_block (λ later least b. IsBlockPart (tables_behind f.header) (own_functions f.functions) (all_instructions c.bodies) least (block_part b)) 0) c.blocks
  marks : Counted f.header.image.marks (EachAfter after_unit_mark (λ later least m. IsUnitMark (tables_behind f.header) f.header.image.functions f.header.image.arrays (all_instructions c.bodies) least m) 0) c.marks
  fixups : Counted f.header.fixups (EachAfter after_fixup (λ later least x. IsFixUp (tables_behind f.header) f.header.image.functions f.header.image.arrays f.header.image.statics (all_instructions c.bodies) least x) 0) c.fixups

-- their bytes
abbrev front_text : UnitFront → List ℕ
front_text f = header_text f.header ++ (flat_map name_bytes f.names ++ (flat_map unit_sig_bytes f.sigs ++ (flat_map unit_function_bytes f.functions ++ flat_map entry_bytes f.entries)))

abbrev tables_text : UnitTables → List ℕ
tables_text t = flat_map unit_class_bytes t.classes ++ (flat_map unit_kind_bytes t.kinds ++ (flat_map unit_static_bytes t.statics ++ flat_map unit_array_bytes t.arrays))

abbrev code_text : UnitCode → List ℕ
code_text c = code_bytes (all_instructions c.bodies) ++ (flat_map (λ b. block_bytes (block_part b)) c.blocks ++ (flat_map (λ m. mark_bytes (mark_part m)) c.marks ++ flat_map fixup_bytes c.fixups))

module _ (rows : RowMeanings) (meanings : NumberMeanings) (some : SomeText) where
  -- what stands before the classes
  module _ (h : UnitHeader) where
    names_means : Means (unit_names h) (Counted h.names (Each IsName)) (λ xs. flat_map name_bytes xs)
    names_means = each_means (name_means rows meanings) h.names

    sigs_means : Means (unit_sigs h) (Counted h.image.sigs (Each (IsUnitSig h.names (tables_behind h)))) (λ xs. flat_map unit_sig_bytes xs)
    sigs_means = each_means (unit_sig_means rows meanings h.names (tables_behind h)) h.image.sigs

    functions_means : Means (unit_functions h) (Counted h.image.functions (EachAfter after_unit_fun (λ later left x. IsUnitFun h.names (tables_behind h) later left x) h.image.code)) (λ xs. flat_map unit_function_bytes xs)
    functions_means = many_means after_unit_fun (unit_function_means rows meanings h.names (tables_behind h)) h.image.functions h.image.code

    entries_means : Means (unit_entries h) (Counted h.entries (Each (IsUnitEntry h.image.functions))) (λ xs. flat_map entry_bytes xs)
    entries_means = each_means (entry_means rows meanings h.image.functions) h.entries

  front_means : Means front_fields IsFront front_text
  unfolding front_fields
  front_means = record {
    whole = λ f is.
        put_part (unit_header_means rows meanings) _ f.header f _ is.header
        (put_part (names_means f.header) _ f.names f _ is.names
        (put_part (sigs_means f.header) _ f.sigs f _ is.sigs
        (put_part (functions_means f.header) _ f.functions f _ is.functions
        (put_last (entries_means f.header) _ f.entries is.entries))));
    back = λ fs f s.
        supposing (take_part (unit_header_means rows meanings) _ fs f s) (λ h.
        supposing (take_part (names_means h.value) _ h.rest f h.more) (λ names.
        supposing (take_part (sigs_means h.value) _ names.rest f names.more) (λ sigs.
        supposing (take_part (functions_means h.value) _ sigs.rest f sigs.more) (λ functions.
        supposing (take_last (entries_means h.value) _ functions.rest f functions.more) (λ entries.
        subst (λ (z : UnitFront). IsFront z × (fields_text fs ≡ front_text z)) entries.same (
          record { header = h.is; names = names.is; sigs = sigs.is; functions = functions.is; entries = entries.is },
          h.bytes _ (names.bytes _ (sigs.bytes _ (functions.bytes _ entries.bytes))),
        ))))));
  }

  -- the tables behind it
  module _ (f : UnitFront) where
    classes_means : Means (unit_classes f.header (function_parts f.functions)) (Counted f.header.image.classes (EachAfter with_unit_class (λ later classes c. IsUnitClass f.header.names (tables_behind f.header) (function_parts f.functions) classes c) [])) (λ xs. flat_map unit_class_bytes xs)
    classes_means = many_means with_unit_class (λ later classes. unit_class_means rows meanings f.header.names (tables_behind f.header) (function_parts f.functions) classes) f.header.image.classes []

    kinds_means : Means (unit_kinds f.header) (Counted f.header.image.kinds (Each (IsUnitKind f.header.names (tables_behind f.header)))) (λ xs. flat_map unit_kind_bytes xs)
    kinds_means = each_means (unit_kind_means rows meanings f.header.names (tables_behind f.header)) f.header.image.kinds

    statics_means : Means (unit_statics f.header) (Counted f.header.image.statics (Each (IsUnitStatic f.header.names (tables_behind f.header)))) (λ xs. flat_map unit_static_bytes xs)
    statics_means = each_means (unit_static_means rows meanings f.header.names (tables_behind f.header)) f.header.image.statics

    arrays_means : (kinds : List KindRow) → Means (unit_arrays f.header kinds) (Counted f.header.image.arrays (EachAfter with_unit_array (λ later used a. IsUnitArray f.header.names (tables_behind f.header) kinds used a) f.header.image.statics)) (λ xs. flat_map unit_array_bytes xs)
    arrays_means kinds = many_means with_unit_array (λ later used. unit_array_means rows meanings f.header.names (tables_behind f.header) kinds used) f.header.image.arrays f.header.image.statics

    tables_means : Means (table_fields f) (AreTables f) tables_text
    unfolding table_fields
    tables_means = record {
      whole = λ t is.
          put_part classes_means _ t.classes t _ is.classes
          (put_part kinds_means _ t.kinds t _ is.kinds
          (put_part statics_means _ t.statics t _ is.statics
          (put_last (arrays_means (map kind_row t.kinds)) _ t.arrays is.arrays)));
      back = λ fs t s.
          supposing (take_part classes_means _ fs t s) (λ classes.
          supposing (take_part kinds_means _ classes.rest t classes.more) (λ kinds.
          supposing (take_part statics_means _ kinds.rest t kinds.more) (λ statics.
          supposing (take_last (arrays_means (map kind_row kinds.value)) _ statics.rest t statics.more) (λ arrays.
          subst (λ (z : UnitTables). AreTables f z × (fields_text fs ≡ tables_text z)) arrays.same (
            record { classes = classes.is; kinds = kinds.is; statics = statics.is; arrays = arrays.is },
            classes.bytes _ (kinds.bytes _ (statics.bytes _ arrays.bytes)),
          )))));
    }

    -- the code, and what is said of it
    blocks_means : (code : List Spelled) → Means (unit_blocks f.header (own_functions f.functions) code) (Counted f.header.image.blocks (EachAfter after_unit_block (λ later least b. IsBlockPart (tables_behind f.header) (own_functions f.functions) code least (block_part b)) 0)) (λ xs. flat_map (λ b. block_bytes (block_part b)) xs)
    blocks_means code = many_means after_unit_block (λ later least. unit_block_means rows meanings (tables_behind f.header) (own_functions f.functions) code least) f.header.image.blocks 0

    marks_means : (code : List Spelled) → Means (unit_marks f.header code) (Counted f.header.image.marks (EachAfter after_unit_mark (λ later least m. IsUnitMark (tables_behind f.header) f.header.image.functions f.header.image.arrays code least m) 0)) (λ xs. flat_map (λ m. mark_bytes (mark_part m)) xs)
    marks_means code = many_means after_unit_mark (λ later least. unit_mark_means rows meanings (tables_behind f.header) f.header.image.functions f.header.image.arrays code least) f.header.image.marks 0

    fixups_means : (code : List Spelled) → Means (unit_fixups f.header code) (Counted f.header.fixups (EachAfter after_fixup (λ later least x. IsFixUp (tables_behind f.header) f.header.image.functions f.header.image.arrays f.header.image.statics code least x) 0)) (λ xs. flat_map fixup_bytes xs)
    fixups_means code = many_means after_fixup (λ later least. fixup_means rows meanings (tables_behind f.header) f.header.image.functions f.header.image.arrays f.header.image.statics code least) f.header.fixups 0

    code_means : Means (code_fields f) (IsCode f) code_text
    unfolding code_fields
    code_means = record {
      whole = λ c is.
          put_part (unit_bodies_means rows meanings some f.functions f.header.image.code) _ c.bodies c _ is.bodies
          (put_part (blocks_means (all_instructions c.bodies)) _ c.blocks c _ is.blocks
          (put_part (marks_means (all_instructions c.bodies)) _ c.marks c _ is.marks
          (put_last (fixups_means (all_instructions c.bodies)) _ c.fixups is.fixups)));
      back = λ fs c s.
          supposing (take_part (unit_bodies_means rows meanings some f.functions f.header.image.code) _ fs c s) (λ bodies.
          supposing (take_part (blocks_means (all_instructions bodies.value)) _ bodies.rest c bodies.more) (λ blocks.
          supposing (take_part (marks_means (all_instructions bodies.value)) _ blocks.rest c blocks.more) (λ marks.
          supposing (take_last (fixups_means (all_instructions bodies.value)) _ marks.rest c marks.more) (λ fixups.
          subst (λ (z : UnitCode). IsCode f z × (fields_text fs ≡ code_text z)) fixups.same (
            record { bodies = bodies.is; blocks = blocks.is; marks = marks.is; fixups = fixups.is },
            bodies.bytes _ (blocks.bytes _ (marks.bytes _ fixups.bytes)),
          )))));
    }

-- ---- a unit under a header

-- the header of a unit's file
abbrev header_of : UnitParts → UnitHeader
header_of u = record {
  image = record {
    heap_words = u.heap_words;
    stacks = u.stacks;
    sigs = length u.sigs;
    functions = length u.functions;
    classes = length u.classes;
    kinds = length u.kinds;
    statics = length u.statics;
    arrays = length u.arrays;
    code = length u.code;
    blocks = length u.blocks;
    marks = length u.marks;
  };
  names = length u.names;
  entries = length u.entries;
  fixups = length u.fixups;
}

-- where no function follows, all that is left is the function's
all_left : (ext : Bool) (left n : ℕ) → part_length_fits ext 0 left n ≡ true → n ≡ left
unfolding part_length_fits
all_left true left n h = grind (arith, nat_tests)
all_left false left n h = grind (arith, nat_tests)

-- a function has no more than what is left, and an extern one nothing
some_left : (ext : Bool) (later left n : ℕ) → part_length_fits ext later left n ≡ true → n ≤ left
unfolding part_length_fits
some_left true later left n h = grind (arith, nat_tests)
some_left false later left n h = grind (arith, nat_tests)

none_of_extern : (later left n : ℕ) → part_length_fits true later left n ≡ true → n ≡ 0
unfolding part_length_fits
none_of_extern later left n h = grind (arith, nat_tests)

-- how many bytes functions have
unfoldable code_length : List FunctionPart → ℕ
code_length [] = 0
code_length (f ∷ functions) = f.length + code_length functions

-- their instructions have as many
bodies_length : (rows : RowMeanings) (functions : List FunctionPart) (bodies : List (List Spelled)) → AreBodies functions bodies → length (code_bytes (all_instructions bodies)) ≡ code_length functions
unfolding code_length
bodies_length rows [] [] b = refl
bodies_length rows [] (x ∷ bodies) b = absurd b
bodies_length rows (f ∷ functions) [] b = absurd b
bodies_length rows (f ∷ functions) (x ∷ bodies) b =
    let one = rows.body_length f.length x b.0 in
    let more = bodies_length rows functions bodies b.1 in
    let joined = ap length (flat_map-append (λ (s : Spelled). s.text) x (all_instructions bodies)) ∙ length-append (code_bytes x) (code_bytes (all_instructions bodies)) in
    omega arith

-- how many bytes the functions have whose code is in the unit
abbrev own_length : List UnitFun → ℕ
own_length functions = code_length (own_functions functions)

-- those of a function and of others
own_more : (f : UnitFun) (functions : List UnitFun) → (f.ext ≡ true → f.length ≡ 0) → own_length (f ∷ functions) ≡ f.length + own_length functions
unfolding own_functions code_length
own_more f functions none = go f.ext none
  where
    go : (ext : Bool) → (ext ≡ true → f.length ≡ 0)
        → code_length (elim ext [ true ↦ own_functions functions | false ↦ record { length = f.length; sig = f.sig } ∷ own_functions functions ]) ≡ f.length + own_length functions
    go true k = let z = k refl in omega arith
    go false k = refl

-- the functions whose code is in the unit have all of it
filled : (names : ℕ) (t : Tables) (left : ℕ) (functions : List UnitFun) → EachAfter after_unit_fun (λ later room f. IsUnitFun names t later room f) left functions → HasOwner functions left
    → own_length functions ≡ left
unfolding own_functions code_length
filled names t left [] h owner = sym owner
filled names t left (f ∷ []) h owner =
    let whole = all_left f.ext left f.length h.0.condition_13 in
    let sum = own_more f [] (λ e. none_of_extern 0 left f.length (subst (λ (z : Bool). part_length_fits z 0 left f.length ≡ true) e h.0.condition_13)) in
    let none : own_length [] ≡ 0 = refl in
    omega arith
filled names t left (f ∷ g ∷ functions) h owner =
    let later = length (g ∷ functions) in
    let some = some_left f.ext later left f.length h.0.condition_13 in
    let sum = own_more f (g ∷ functions) (λ e. none_of_extern later left f.length (subst (λ (z : Bool). part_length_fits z later left f.length ≡ true) e h.0.condition_13)) in
    let rest = filled names t (left - f.length) (g ∷ functions) h.1 tt in
    omega arith

-- the header of a unit that was read is the one that was read
same_header : (rows : RowMeanings) (f : UnitFront) (t : UnitTables) (c : UnitCode) → IsFront f → AreTables f t → IsCode f c → header_of (unit_from f t c) ≡ f.header
same_header rows f t c front tables code =
    let long : length (code_bytes (all_instructions c.bodies)) ≡ f.header.image.code =
    bodies_length rows (own_functions f.functions) c.bodies code.bodies.0
    ∙ filled f.header.names (tables_behind f.header) f.header.image.code f.functions front.functions.1 code.bodies.1 in
    λ j. record {
      image = record {
        heap_words = f.header.image.heap_words;
        stacks = f.header.image.stacks;
        sigs = front.sigs.0 j;
        functions = front.functions.0 j;
        classes = tables.classes.0 j;
        kinds = tables.kinds.0 j;
        statics = tables.statics.0 j;
        arrays = tables.arrays.0 j;
        code = long j;
        blocks = code.blocks.0 j;
        marks = code.marks.0 j;
      };
      names = front.names.0 j;
      entries = front.entries.0 j;
      fixups = code.fixups.0 j;
    }

-- the parts of a unit, with this header
abbrev front_of : UnitHeader → UnitParts → UnitFront
front_of h u = record { header = h; names = u.names; sigs = u.sigs; functions = u.functions; entries = u.entries }

abbrev tables_in : UnitParts → UnitTables
tables_in u = record { classes = u.classes; kinds = u.kinds; statics = u.statics; arrays = u.arrays }

abbrev code_in : List (List Spelled) → UnitParts → UnitCode
code_in bodies u = record { bodies = bodies; blocks = u.blocks; marks = u.marks; fixups = u.fixups }

-- a unit whose parts are as they must be under its own header is formed
formed_of : (u : UnitParts) (bodies : List (List Spelled)) → IsFront (front_of (header_of u) u) → AreTables (front_of (header_of u) u) (tables_in u) → IsCode (front_of (header_of u) u) (code_in bodies u)
    → u.code ≡ code_bytes (all_instructions bodies) → UnitFormed u
formed_of u bodies front tables code e = record {
  condition_1 = front.header.header.condition_1;
  condition_2 = front.header.header.condition_2;
  condition_3 = front.header.header.condition_3;
  condition_4 = front.header.header.condition_4;
  condition_5 = front.header.header.condition_5;
  condition_6 = front.header.header.condition_6;
  condition_7 = front.header.header.condition_7;
  condition_8 = front.header.header.condition_8;
  condition_9 = front.header.header.condition_9;
  condition_10 = front.header.header.condition_10;
  condition_11 = front.header.header.condition_11;
  names_28 = front.header.names_28;
  entries_15 = front.header.entries_15;
  fixups_30 = front.header.fixups_30;
  names = front.names.1;
  sigs = front.sigs.1;
  functions = front.functions.1;
  entries = front.entries.1;
  classes = tables.classes.1;
  kinds = tables.kinds.1;
  statics = tables.statics.1;
  arrays = tables.arrays.1;
  bodies = bodies;
  condition_23 = code.bodies.0;
  code = e;
  blocks = code.blocks.1;
  marks = code.marks.1;
  fixups = code.fixups.1;
}

-- the parts of a unit that is formed
module _ (u : UnitParts) (f : UnitFormed u) where
  front_is : IsFront (front_of (header_of u) u)
  front_is = record {
    header = record {
      header = record {
        condition_1 = f.condition_1;
        condition_2 = f.condition_2;
        condition_3 = f.condition_3;
        condition_4 = f.condition_4;
        condition_5 = f.condition_5;
        condition_6 = f.condition_6;
        condition_7 = f.condition_7;
        condition_8 = f.condition_8;
        condition_9 = f.condition_9;
        condition_10 = f.condition_10;
        condition_11 = f.condition_11;
      };
      names_28 = f.names_28;
      entries_15 = f.entries_15;
      fixups_30 = f.fixups_30;
    };
    names = (refl, f.names);
    sigs = (refl, f.sigs);
    functions = (refl, f.functions);
    entries = (refl, f.entries);
  }

  tables_are : AreTables (front_of (header_of u) u) (tables_in u)
  tables_are = record { classes = (refl, f.classes); kinds = (refl, f.kinds); statics = (refl, f.statics); arrays = (refl, f.arrays) }

  -- code has a function that it belongs to
  owner_is : (functions : List UnitFun) (bodies : List (List Spelled)) (code : List ℕ) → AreBodies (own_functions functions) bodies → code ≡ code_bytes (all_instructions bodies) → HasOwner functions (length code)
  unfolding own_functions
  owner_is [] [] code b e = ap length e
  owner_is [] (x ∷ bodies) code b e = absurd b
  owner_is (g ∷ functions) bodies code b e = tt

  code_is : IsCode (front_of (header_of u) u) (code_in f.bodies u)
  code_is = record { bodies = (f.condition_23, owner_is u.functions f.bodies u.code f.condition_23 f.code); blocks = (refl, f.blocks); marks = (refl, f.marks); fixups = (refl, f.fixups) }

-- ---- the bytes

-- the numbers of a header, with three more
header_is : (u : UnitParts) → header_text (header_of u) ≡ numbers (unit_header u)
header_is u =
    ap (λ (z : List ℕ). numbers (header_numbers unit_magic (header_of u).image) ++ (number_bytes (length u.names) ++ (number_bytes (length u.entries) ++ z))) (sym (append-nil (number_bytes (length u.fixups))))
    ∙ sym (flat_map-append number_bytes (header_numbers unit_magic (header_of u).image) (length u.names ∷ length u.entries ∷ length u.fixups ∷ []))

-- lists in three groups, and one behind the other
in_groups : (a b c d e f g h i j k l m : List ℕ)
    → (a ++ (b ++ (c ++ (d ++ e)))) ++ ((f ++ (g ++ (h ++ i))) ++ (j ++ (k ++ (l ++ m)))) ≡ a ++ (b ++ (c ++ (d ++ (e ++ (f ++ (g ++ (h ++ (i ++ (j ++ (k ++ (l ++ m)))))))))))
in_groups a b c d e f g h i j k l m = simp append_assoc

-- the bytes of the three parts are the file
file_is : (u : UnitParts) (bodies : List (List Spelled)) → u.code ≡ code_bytes (all_instructions bodies)
    → front_text (front_of (header_of u) u) ++ (tables_text (tables_in u) ++ code_text (code_in bodies u)) ≡ UnitFileOf u
unfolding UnitFileOf
file_is u bodies e =
    let header = numbers (unit_header u) in
    let front = flat_map name_bytes u.names ++ (flat_map unit_sig_bytes u.sigs ++ (flat_map unit_function_bytes u.functions ++ flat_map entry_bytes u.entries)) in
    let said = flat_map (λ b. block_bytes (block_part b)) u.blocks ++ (flat_map (λ m. mark_bytes (mark_part m)) u.marks ++ flat_map fixup_bytes u.fixups) in
    ap (λ (z : List ℕ). (z ++ front) ++ (tables_text (tables_in u) ++ (code_bytes (all_instructions bodies) ++ said))) (header_is u)
    ∙ ap (λ (z : List ℕ). (header ++ front) ++ (tables_text (tables_in u) ++ (z ++ said))) (sym e)
    ∙ in_groups header (flat_map name_bytes u.names) (flat_map unit_sig_bytes u.sigs) (flat_map unit_function_bytes u.functions) (flat_map entry_bytes u.entries)
    (flat_map unit_class_bytes u.classes) (flat_map unit_kind_bytes u.kinds) (flat_map unit_static_bytes u.statics) (flat_map unit_array_bytes u.arrays)
    u.code (flat_map (λ b. block_bytes (block_part b)) u.blocks) (flat_map (λ m. mark_bytes (mark_part m)) u.marks) (flat_map fixup_bytes u.fixups)

module _ (rows : RowMeanings) (meanings : NumberMeanings) (some : SomeText) where
  -- bytes that stand for a unit are sound fields
  pub stands : (bytes : List ℕ) (u : UnitParts) → UnitOf bytes u → SoundFile unit_fields bytes u
  unfolding unit_fields
  stands bytes u is =
      let f = is.formed in
      let front = front_of (header_of u) u in
      let code = code_in f.bodies u in
      let fields = put_part (front_means rows meanings some) _ front (unit_from front (tables_in u) code) _ (front_is u f)
      (put_part (tables_means rows meanings some front) _ (tables_in u) (unit_from front (tables_in u) code) _ (tables_are u f)
      (put_last (code_means rows meanings some front) (unit_from front (tables_in u)) code (code_is u f))) in
      let same : unit_from front (tables_in u) code ≡ u = λ j. record u { code = sym f.code j } in
      let whole = subst (λ (z : UnitParts). FieldsOf unit_fields z (front_text front ++ (tables_text (tables_in u) ++ code_text code))) same fields in
      record { fields = whole.0; parts = is.file ∙ sym (file_is u f.bodies f.code) ∙ sym whole.2; sound = whole.1 }

  -- parts that were read are a unit
  unit_is : (f : UnitFront) (t : UnitTables) (c : UnitCode) → IsFront f → AreTables f t → IsCode f c → UnitOf (front_text f ++ (tables_text t ++ code_text c)) (unit_from f t c)
  unit_is f t c front tables code =
      let u = unit_from f t c in
      let own = same_header rows f t c front tables code in
      record {
        formed =
            formed_of u c.bodies (subst (λ (z : UnitHeader). IsFront (front_of z u)) (sym own) front) (subst (λ (z : UnitHeader). AreTables (front_of z u) t) (sym own) tables)
            (subst (λ (z : UnitHeader). IsCode (front_of z u) c) (sym own) code) refl;
        file = ap (λ (z : UnitHeader). front_text (front_of z u) ++ (tables_text t ++ code_text c)) (sym own) ∙ file_is u c.bodies refl;
      }

  -- sound fields are the file of a unit
  pub read : (bytes : List ℕ) (u : UnitParts) → SoundFile unit_fields bytes u → UnitOf bytes u
  unfolding unit_fields
  read bytes u s =
      supposing (take_part (front_means rows meanings some) _ s.fields u s.sound) (λ f.
      supposing (take_part (tables_means rows meanings some f.value) _ f.rest u f.more) (λ t.
      supposing (take_last (code_means rows meanings some f.value) (unit_from f.value t.value) t.rest u t.more) (λ c.
      subst (λ (z : UnitParts). UnitOf bytes z) c.same
      (subst (λ (z : List ℕ). UnitOf z (unit_from f.value t.value c.value)) (sym (s.parts ∙ f.bytes _ (t.bytes _ c.bytes))) (unit_is f.value t.value c.value f.is t.is c.is)))))
