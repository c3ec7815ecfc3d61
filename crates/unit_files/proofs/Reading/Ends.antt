-- How far the fields of a unit reach, and what is known of its functions: no unit file has more than 64 MiB.
use Rattle.std.proofs.Common.{◌≡◌, ℕ, zero, suc, ◌+◌, ◌-◌, ◌*◌, ◌<◌, ◌≤◌, Bool, true, false, List, [], ◌∷◌, refl, arith}
use Rattle.std.specs.Prelude.{◌==◌}
use Rattle.std.specs.List.{sum_by}
use Rattle.std.proofs.Math.Nat.{suc-mul}
use Rattle.std.proofs.lemmas.Bool.Decides.{nat_tests}
use Rattle.std.proofs.lemmas.List.Sums.{sum_by-cons}
use Rattle.object_layout.specs.declared.rows.KindRow.{KindRow}
use Rattle.object_layout.specs.declared.rows.ClassRow.{ClassRow}
use Rattle.file_fields.specs.Grammar.{checked, each, then_with, many, bytes_number, between}
use Rattle.file_fields.specs.Reach.{Most, MostAny, most_more, most_then, most_next, most_last, most_many, most_each}
use Rattle.tal_image.specs.declared.parts.FunctionPart.{FunctionPart}
use Rattle.tal_image.specs.declared.parts.ArrayPart.{ArrayPart}
use Rattle.tal_image.specs.declared.parts.Tables.{Tables}
use Rattle.tal_image.specs.Conditions.{where_given, part_length_fits, part_numbers}
use Rattle.tal_image.specs.Fields.{header_where, sig_fields, function_where, class_fields, field_type_field, array_where, all_instructions}
use Rattle.tal_image.specs.Formed.{IsHeader}
use Rattle.tal_image.specs.CodeReading.{AllPositive}
use Rattle.tal_image.specs.Rows.{RowReaches}
use Rattle.unit_files.specs.Unit.{UnitFun, UnitArray, FixUp, unit_magic, function_parts, own_functions, function_part}
use Rattle.unit_files.specs.Conditions.{names_fit, entries_fit, fixups_fit, name_length_fits, mention_fits, ext_fits, stack_fits, entry_function_fits, fixup_fits, fixup_index_fits}
use Rattle.unit_files.specs.Formed.{after_unit_fun, with_unit_array, after_unit_block, after_unit_mark, after_fixup}
use Rattle.unit_files.specs.Fields.{tables_behind, unit_header_fields, name_fields, mention_fields, unit_sig_fields, unit_function_fields, entry_fields, unit_class_fields, unit_kind_fields, unit_static_fields, unit_array_fields, unit_bodies, unit_block_where, unit_mark_where, fixup_where, unit_names, unit_sigs, unit_functions, unit_entries, unit_classes, unit_kinds, unit_statics, unit_arrays, unit_blocks, unit_marks, unit_fixups, UnitFront, front_fields, table_fields, code_fields, unit_fields}
use Rattle.unit_files.proofs.Meaning.Code.{IsUnitHeader}

-- how many bytes the functions have whose code is in the unit
abbrev own_length : List UnitFun → ℕ
own_length functions = sum_by (λ (f : FunctionPart). f.length) (own_functions functions)

-- their bytes are no more than so many, and each has one at least
pub record FitsCode (left : ℕ) (functions : List UnitFun) : Type 0 where
  pub positive : AllPositive (own_functions functions)
  pub short : own_length functions ≤ left

-- one function more
fits_more : (later left : ℕ) (f : UnitFun) (functions : List UnitFun) → part_length_fits f.ext later left f.length ≡ true
    → FitsCode (left - f.length) functions → FitsCode left (f ∷ functions)
unfolding own_functions part_length_fits
fits_more later left f functions test h = go f.ext refl
  where
    go : (b : Bool) → f.ext ≡ b → FitsCode left (f ∷ functions)
    go true e = let s = h.short in rw e (record { positive = h.positive; short = omega arith })
    go false e =
        let t = rw e at test in
        let some : 0 < f.length = grind (arith, nat_tests) in
        let fits : f.length ≤ left = grind (arith, nat_tests) in
        let s = h.short in
        let sum = sum_by-cons (λ (f : FunctionPart). f.length) (function_part f) (own_functions functions) in
        rw e (record { positive = (some, h.positive); short = omega (arith, sum, s, fits) })

-- a number under a condition
checked_most : (ok : ℕ → Bool) (condition : ℕ) → Most (λ n. ok n ≡ true) (checked ok condition) 4
checked_most ok condition = (0, omega arith, λ t c. c)

number_most : (ok : ℕ → Bool) (condition : ℕ) → MostAny (checked ok condition) 4
number_most ok condition = (0, omega arith, λ t c. tt)

-- a name
name_most : MostAny name_fields 67
unfolding name_fields
name_most =
    most_then (λ n. name_length_fits n ≡ true) _ (checked name_length_fits 28) _ 4 63 67 (omega arith) (checked_most name_length_fits 28) (λ n fits.
    (0, (let few : n ≤ 63 = grind (arith, nat_tests) in omega (arith, few)), λ t c. tt))

-- what stands before a row
mention_most : (names : ℕ) → MostAny (mention_fields names) 8
unfolding mention_fields
mention_most names =
    most_next (checked (mention_fits names) 29) _ 4 4 8 (omega arith) (number_most (mention_fits names) 29) (λ name.
    most_last (checked ext_fits 29) _ 4 (number_most ext_fits 29))

-- an entry
entry_most : (functions : ℕ) → MostAny (entry_fields functions) 8
unfolding entry_fields
entry_most functions =
    most_next (checked stack_fits 15) _ 4 4 8 (omega arith) (number_most stack_fits 15) (λ stack.
    most_last (checked (entry_function_fits functions) 15) _ 4 (number_most (entry_function_fits functions) 15))

-- a fix-up
fixup_most : (t : Tables) (functions arrays statics : ℕ) (place : ℕ → Bool) → MostAny (fixup_where t functions arrays statics place) 12
unfolding fixup_where
fixup_most t functions arrays statics place =
    most_next (checked place 30) _ 4 8 12 (omega arith) (number_most place 30) (λ offset.
    most_next (checked (between 1 7) 30) _ 4 4 8 (omega arith) (number_most (between 1 7) 30) (λ kind.
    let index = λ (n : ℕ). fixup_index_fits t functions arrays statics kind n in
    most_last (checked index 30) (λ i. (let f : FixUp = record { offset = offset; kind = kind; index = i } in f)) 4 (number_most index 30)))

-- a number within limits, or 0 where it may be left out, is not more than the higher one
given_within : (low high n : ℕ) → where_given true (between low high) n ≡ true → n ≤ high
given_within low high n h = grind (arith, nat_tests)

not_above : (low high n : ℕ) → between low high n ≡ true → n ≤ high
not_above low high n h = grind (arith, nat_tests)

module _ (rows : RowReaches) where
  -- the header
  header_most : Most IsUnitHeader unit_header_fields 64
  unfolding unit_header_fields
  header_most =
      most_then (IsHeader true) _ (header_where unit_magic true) _ 52 12 64 (omega arith) (rows.header unit_magic true) (λ h is.
      most_then (λ n. names_fit n ≡ true) _ (checked names_fit 28) _ 4 8 12 (omega arith) (checked_most names_fit 28) (λ names few1.
      most_then (λ n. entries_fit n ≡ true) _ (checked entries_fit 15) _ 4 4 8 (omega arith) (checked_most entries_fit 15) (λ entries few2.
      most_then (λ n. fixups_fit n ≡ true) _ (checked fixups_fit 30) _ 4 0 4 (omega arith) (checked_most fixups_fit 30) (λ fixups few3.
      record { header = is; names_28 = few1; entries_15 = few2; fixups_30 = few3 }))))

  -- a signature, a class, an array kind and a static
  sig_most : (names : ℕ) (t : Tables) → MostAny (unit_sig_fields names t) 72
  unfolding unit_sig_fields
  sig_most names t = most_next (mention_fields names) _ 8 64 72 (omega arith) (mention_most names) (λ m. most_last (sig_fields t) _ 64 (rows.sig t))

  class_most : (names : ℕ) (t : Tables) (functions : List FunctionPart) (classes : List ClassRow) → MostAny (unit_class_fields names t functions classes) 2280
  unfolding unit_class_fields
  class_most names t functions classes =
      most_next (mention_fields names) _ 8 2272 2280 (omega arith) (mention_most names) (λ m. most_last (class_fields t functions classes) _ 2272 (rows.class t functions classes))

  kind_most : (names : ℕ) (t : Tables) → MostAny (unit_kind_fields names t) 16
  unfolding unit_kind_fields
  kind_most names t = most_next (mention_fields names) _ 8 8 16 (omega arith) (mention_most names) (λ m. most_last (field_type_field t) _ 8 (rows.field_type t))

  static_most : (names : ℕ) (t : Tables) → MostAny (unit_static_fields names t) 16
  unfolding unit_static_fields
  static_most names t = most_next (mention_fields names) _ 8 8 16 (omega arith) (mention_most names) (λ m. most_last (field_type_field t) _ 8 (rows.field_type t))

  -- a function, whose length meets its test
  function_most : (names : ℕ) (t : Tables) (later left : ℕ)
      → Most (λ (f : UnitFun). part_length_fits f.ext later left f.length ≡ true) (unit_function_fields names t later left) 16
  unfolding unit_function_fields
  function_most names t later left =
      most_then (λ m. Unit {0}) _ (mention_fields names) _ 8 8 16 (omega arith) (mention_most names) (λ m any.
      most_then (λ (f : FunctionPart). part_length_fits m.ext later left f.length ≡ true) _ (function_where t (part_length_fits m.ext later left)) _ 8 0 8 (omega arith)
      (rows.function t (part_length_fits m.ext later left)) (λ f test. test))

  -- functions, which have no more bytes than the code
  pub functions_most : (names : ℕ) (t : Tables) (n left : ℕ) → Most (FitsCode left) (many n (unit_function_fields names t) after_unit_fun left) (n * 16)
  unfolding own_functions
  functions_most names t zero left = record { positive = tt; short = omega arith }
  functions_most names t (suc n) left =
      let m = suc-mul n 16 in
      most_then (λ (f : UnitFun). part_length_fits f.ext n left f.length ≡ true) _ (unit_function_fields names t n left) _ 16 (n * 16) (suc n * 16) (omega arith)
      (function_most names t n left) (λ f test.
      most_then (FitsCode (left - f.length)) _ (many n (unit_function_fields names t) after_unit_fun (left - f.length)) _ (n * 16) 0 (n * 16) (omega arith)
      (functions_most names t n (left - f.length)) (λ fs fits. fits_more n left f fs test fits))

  -- data arrays, which have 65536 words at most in all
  arrays_most : (names : ℕ) (t : Tables) (kinds : List KindRow) (n used limit : ℕ) → n * 16 + (65536 - used) * 4 ≤ limit
      → MostAny (many n (λ later kept. unit_array_fields names t kinds kept) with_unit_array used) limit
  unfolding unit_array_fields mention_fields array_where then_with
  arrays_most names t kinds zero used limit le = tt
  arrays_most names t kinds (suc n) used limit le =
      let m = suc-mul n 16 in (
        limit - 4,
        omega arith,
        λ name named. (
          limit - 4 - 4,
          omega arith,
          λ flag is_flag. (
            limit - 4 - 4 - 4,
            omega arith,
            λ first there.
                let kind = bytes_number first in (
                  limit - 4 - 4 - 4 - 4,
                  omega arith,
                  λ second test.
                      let size = bytes_number second in
                      let room : used + 2 + size ≤ 65536 = grind (arith, nat_tests) in
                      let ext = bytes_number flag == 1 in
                      let count = part_numbers ext kinds kind size in
                      let few = rows.numbers ext kinds kind size in
                      let rest = n * 16 + (65536 - (used + 2 + size)) * 4 in
                      let given = each count (checked (λ n. true) 22) in
                      most_then (λ (a : UnitArray). a.row.length ≡ size) _ _ _ (size * 4) rest (limit - 4 - 4 - 4 - 4) (omega arith)
                      (most_then (λ (a : ArrayPart). a.size ≡ size) _ _ _ (size * 4) 0 (size * 4) (omega arith)
                      (most_then (λ ns. Unit {0}) _ given _ (count * 4) 0 (size * 4) (omega arith) (most_each (checked (λ n. true) 22) 4 (number_most (λ n. true) 22) count) (λ ns i. refl)) (λ a e. e)) (λ a e.
                      most_last (many n (λ later kept. unit_array_fields names t kinds kept) with_unit_array (used + 2 + a.row.length)) (λ more. a ∷ more) rest
                      (arrays_most names t kinds n (used + 2 + a.row.length) rest (omega arith))),
                ),
          ),
        ),
      )

  -- the code of a unit's functions
  bodies_most : (functions : List UnitFun) (n : ℕ) → MostAny (unit_bodies functions n) (own_length functions)
  unfolding unit_bodies own_functions
  bodies_most [] zero = tt
  bodies_most [] (suc n) = λ text i fit. (0, omega arith, tt)
  bodies_most (f ∷ functions) n = rows.bodies (own_functions (f ∷ functions))

  -- a block, and a mark
  block_most : (t : Tables) (place : ℕ → Bool) → MostAny (unit_block_where t place) 576
  unfolding unit_block_where
  block_most t place = most_last _ _ 576 (rows.block t place)

  mark_most : (place : ℕ → Bool) (word : ℕ → ℕ → ℕ → Bool) → MostAny (unit_mark_where place word) 12
  unfolding unit_mark_where
  mark_most place word = most_last _ _ 12 (rows.mark place word)

  -- ---- the whole file

  -- what is known of what stands before the classes
  record IsFrontKnown (f : UnitFront) : Type 0 where
    header : IsUnitHeader f.header
    code : own_length f.functions ≤ f.header.image.code

  front_most : Most IsFrontKnown front_fields 5000000
  unfolding front_fields
  front_most =
      most_then IsUnitHeader _ unit_header_fields _ 64 4990000 5000000 (omega arith) header_most (λ h is.
      let few1 = not_above 0 65536 h.names is.names_28 in
      let few2 = given_within 1 4096 h.image.sigs is.header.condition_3 in
      let few3 = given_within 1 16384 h.image.functions is.header.condition_4 in
      let few4 = not_above 0 64 h.entries is.entries_15 in
      let t = tables_behind h in
      most_then (λ names. Unit {0}) _ (unit_names h) _ (h.names * 67) 590000 4990000 (omega arith) (most_each name_fields 67 name_most h.names) (λ names i.
      most_then (λ sigs. Unit {0}) _ (unit_sigs h) _ (h.image.sigs * 72) 290000 590000 (omega arith) (most_each (unit_sig_fields h.names t) 72 (sig_most h.names t) h.image.sigs) (λ sigs i.
      most_then (FitsCode h.image.code) _ (unit_functions h) _ (h.image.functions * 16) 27000 290000 (omega arith) (functions_most h.names t h.image.functions h.image.code) (λ functions fits.
      most_then (λ entries. Unit {0}) _ (unit_entries h) _ (h.entries * 8) 0 27000 (omega arith) (most_each (entry_fields h.image.functions) 8 (entry_most h.image.functions) h.entries) (λ entries i.
      record { header = is; code = fits.short })))))

  tables_most : (f : UnitFront) → IsFrontKnown f → MostAny (table_fields f) 4800000
  unfolding table_fields
  tables_most f is =
      let h = f.header in
      let few1 = not_above 0 1024 h.image.classes is.header.header.condition_5 in
      let few2 = not_above 0 256 h.image.kinds is.header.header.condition_6 in
      let few3 = not_above 0 65536 h.image.statics is.header.header.condition_7 in
      let few4 = not_above 0 65536 h.image.arrays is.header.header.condition_8 in
      let t = tables_behind h in
      most_next (unit_classes h (function_parts f.functions)) _ (h.image.classes * 2280) 2400000 4800000 (omega arith)
      (most_many _ _ 2280 (λ later classes. class_most h.names t (function_parts f.functions) classes) h.image.classes []) (λ classes.
      most_next (unit_kinds h) _ (h.image.kinds * 16) 2390000 2400000 (omega arith) (most_each (unit_kind_fields h.names t) 16 (kind_most h.names t) h.image.kinds) (λ kinds.
      most_next (unit_statics h) _ (h.image.statics * 16) 1320000 2390000 (omega arith) (most_each (unit_static_fields h.names t) 16 (static_most h.names t) h.image.statics) (λ statics.
      most_last (unit_arrays h _) _ 1320000 (arrays_most h.names t _ h.image.arrays h.image.statics 1320000 (omega arith)))))

  code_most : (f : UnitFront) → IsFrontKnown f → MostAny (code_fields f) 43000000
  unfolding code_fields
  code_most f is =
      let h = f.header in
      let few1 = given_within 1 1048576 h.image.code is.header.header.condition_9 in
      let few2 = not_above 0 65536 h.image.blocks is.header.header.condition_10 in
      let few3 = not_above 0 65536 h.image.marks is.header.header.condition_11 in
      let few4 = not_above 0 262144 h.fixups is.header.fixups_30 in
      let code = is.code in
      let t = tables_behind h in
      most_next (unit_bodies f.functions h.image.code) _ (own_length f.functions) 41900000 43000000 (omega arith) (bodies_most f.functions h.image.code) (λ bodies.
      most_next (unit_blocks h (own_functions f.functions) (all_instructions bodies)) _ (h.image.blocks * 576) 4000000 41900000 (omega arith)
      (most_many {S = ℕ} _ after_unit_block 576 (λ later least. block_most t _) h.image.blocks 0) (λ blocks.
      most_next (unit_marks h (all_instructions bodies)) _ (h.image.marks * 12) 3200000 4000000 (omega arith) (most_many {S = ℕ} _ after_unit_mark 12 (λ later least. mark_most _ _) h.image.marks 0) (λ marks.
      most_last (unit_fixups h (all_instructions bodies)) _ 3200000
      (let place = λ (least n : ℕ). fixup_fits (all_instructions bodies) least n in
      let row = λ (later least : ℕ). fixup_where t h.image.functions h.image.arrays h.image.statics (place least) in
      most_more (λ (x : List FixUp). Unit {0}) (many h.fixups row after_fixup 0) (h.fixups * 12) 3200000 (omega arith)
      (most_many row after_fixup 12 (λ later least. fixup_most t h.image.functions h.image.arrays h.image.statics (place least)) h.fixups 0)))))

  -- the fields of a unit
  pub unit_most : MostAny unit_fields 67000000
  unfolding unit_fields
  unit_most =
      most_then IsFrontKnown _ front_fields _ 5000000 62000000 67000000 (omega arith) front_most (λ f is.
      most_next (table_fields f) _ 4800000 57000000 62000000 (omega arith) (tables_most f is) (λ t.
      most_next (code_fields f) _ 43000000 0 57000000 (omega arith) (code_most f is) (λ c. tt)))
