-- How far the fields of an image reach: no image file has more than 64 MiB.
use Rattle.std.proofs.Common.{◌≡◌, ℕ, zero, suc, ◌+◌, ◌-◌, ◌*◌, ◌≤◌, Bool, true, false, List, [], ◌∷◌, length, refl, subst, arith}
use Rattle.std.specs.Prelude.{◌==◌, slice_get, if◌then◌else◌}
use Rattle.std.specs.Option.{option_map_or}
use Rattle.std.proofs.Math.Nat.{suc-mul}
use Rattle.std.proofs.lemmas.Bool.Decides.{nat_tests}
use Rattle.std.specs.List.{sum_by}
use Rattle.object_layout.specs.declared.rows.ClassRow.{ClassRow}
use Rattle.object_layout.specs.declared.rows.KindRow.{KindRow}
use Rattle.tal_types.specs.Types.{of_field}
use Rattle.tal_image.specs.declared.parts.FunctionPart.{FunctionPart}
use Rattle.tal_image.specs.Image.{ArrayPart, type_tag, magic_number}
use Rattle.tal_image.specs.Conditions.{Tables, class_view, inherited_methods, length_fits, entry_fits, numbers_given, part_numbers, with_array, block_fits, between}
use Rattle.file_fields.specs.Grammar.{done, checked, each, then_with, many, bytes_number}
use Rattle.file_fields.specs.Reach.{Most, MostAny, most_then, most_next, most_last, most_many, most_each}
use Rattle.tal_image.specs.Fields.{type_field, field_type_field, sig_fields, function_where, function_fields, after_function, method_list, class_fields, kind_fields, array_where, array_fields, block_where, mark_where, function_instructions, bodies, all_instructions, tables_of, header_where, header_fields, sigs_part, functions_part, entries_part, classes_part, kinds_part, statics_part, arrays_part, blocks_part, marks_part, coded_fields, image_fields}
use Rattle.tal_image.proofs.Reading.Lengths.{code_length}
use Rattle.tal_image.specs.Formed.{IsHeader}
use Rattle.tal_image.specs.Rows.{RowReaches}
use Rattle.tal_image.proofs.Finding.Spans.{code_length-sum}
use Rattle.tal_image.proofs.Meaning.Header.{Test, tested, TestsMet, tests, header_of, header_is}
use Rattle.tal_image.proofs.Meaning.Rows.{after_params, after_types}

-- ---- the header

-- numbers under tests
most_tested : (ts : List Test) (n : ℕ) → length ts * 4 ≤ n → Most (TestsMet ts) (tested ts) n
unfolding then_with
most_tested [] n le = tt
most_tested (t ∷ ts) n le = (
  n - 4,
  omega arith,
  λ four c.
      let k = bytes_number four in
      let rest = most_tested ts (n - 4) (omega arith) in
      most_then (TestsMet ts) (TestsMet (t ∷ ts)) (tested ts) (λ ns. done (k, ns)) (n - 4) 0 (n - 4) (omega arith) rest (λ ns all. (c, all)),
)

-- a header, and its limits
header_most : (letters : ℕ) (partial : Bool) → Most (IsHeader partial) (header_where letters partial) 52
unfolding header_where then_with
header_most letters partial =
    let ts = tests letters partial in
    most_then (TestsMet ts) (IsHeader partial) (tested ts) (λ ns. done (header_of letters partial ns)) 52 0 52 (omega arith) (most_tested ts 52 (omega arith)) (header_is letters partial)

-- ---- rows

-- so many types, one of a field or of a static, and so many of those
types_most : (t : Tables) (n : ℕ) → MostAny (each n (type_field t)) (n * 8)
unfolding type_field
types_most t n = most_each (type_field t) 8 (0, omega arith, λ t c. tt) n

field_type_most : (t : Tables) → MostAny (field_type_field t) 8
unfolding field_type_field
field_type_most t = (0, omega arith, λ t c. tt)

field_types_most : (t : Tables) (n : ℕ) → MostAny (each n (field_type_field t)) (n * 8)
field_types_most t n = most_each (field_type_field t) 8 (field_type_most t) n

-- so many numbers under a condition
numbers_most : (ok : ℕ → Bool) (condition n : ℕ) → MostAny (each n (checked ok condition)) (n * 4)
numbers_most ok condition n = most_each (checked ok condition) 4 (0, omega arith, λ t c. tt) n

-- a signature: eight types
sig_most : (t : Tables) → MostAny (sig_fields t) 64
unfolding sig_fields type_field then_with
sig_most t = most_next (each 7 (type_field t)) (after_params t) 56 8 64 (omega arith) (types_most t 7) (λ params. (0, omega arith, λ t c. tt))

-- a function, whose length meets the test
function_most : (t : Tables) (long : ℕ → Bool) → Most (λ (f : FunctionPart). long f.length ≡ true) (function_where t long) 8
unfolding function_where then_with
function_most t long = (4, omega arith, λ four test. (0, omega arith, λ sig test2. test))

-- functions, which have no more bytes than the code
functions_most : (t : Tables) (n left limit : ℕ) → n * 8 ≤ limit
    → Most (λ (fs : List FunctionPart). code_length fs ≤ left) (many n (function_fields t) after_function left) limit
unfolding code_length
functions_most t zero left limit le = omega arith
functions_most t (suc n) left limit le =
    let m = suc-mul n 8 in
    most_then _ _ (function_fields t n left) _ 8 (limit - 8) limit (omega arith) (function_most t (length_fits n left)) (λ f test.
    let len = f.length in
    let fits : len ≤ left = grind (arith, nat_tests) in
    let others = functions_most t n (left - len) (n * 8) (omega arith) in
    most_then _ _ (many n (function_fields t) after_function (left - len)) _ (n * 8) 0 (limit - 8) (omega arith) others (λ fs few. omega arith))

-- an array kind
kind_most : (t : Tables) → MostAny (kind_fields t) 8
unfolding kind_fields field_type_field then_with
kind_most t = (0, omega arith, λ t c. tt)

-- a class: 256 fields at most, and 53 methods
class_most : (t : Tables) (functions : List FunctionPart) (classes : List ClassRow) → MostAny (class_fields t functions classes) 2272
unfolding class_fields then_with
class_most t functions classes = (
  2268,
  omega arith,
  λ first above.
      let m = bytes_number first in (
        2264,
        omega arith,
        λ second test.
            let own = bytes_number second in
            let few : own ≤ 256 = grind (arith, nat_tests) in
            most_next (each own (field_type_field t)) _ (own * 8) 216 2264 (omega arith) (field_types_most t own) (λ fields. (
              212,
              omega arith,
              λ third test2.
                  let n = bytes_number third in
                  let few2 : n ≤ 53 = grind (arith, nat_tests) in
                  let slots = inherited_methods (class_view functions classes) m in
                  most_next (method_list functions n slots) _ (n * 4) 0 212 (omega arith) (most_many _ _ 4 (λ later kept. (0, omega arith, λ t c. tt)) n slots) (λ methods. tt),
            )),
      ),
)

-- the numbers of a data array are not more than its elements
given_few : (kinds : List KindRow) (kind n : ℕ) → numbers_given kinds kind n ≤ n
unfolding numbers_given then_with
given_few kinds kind n = go (option_map_or (λ (row : KindRow). type_tag (of_field row.element) == 0) (slice_get kinds kind) false)
  where
    go : (b : Bool) → (if b then n else 0) ≤ n
    go true = omega arith
    go false = omega arith

-- the same, where an extern data array has none
part_few : (ext : Bool) (kinds : List KindRow) (kind n : ℕ) → part_numbers ext kinds kind n ≤ n
unfolding part_numbers
part_few true kinds kind n = omega arith
part_few false kinds kind n = given_few kinds kind n

-- data arrays, which have 65536 words at most in all
arrays_most : (t : Tables) (kinds : List KindRow) (n used limit : ℕ) → n * 8 + (65536 - used) * 4 ≤ limit
    → MostAny (many n (λ later kept. array_fields t kinds kept) with_array used) limit
unfolding array_where then_with
arrays_most t kinds zero used limit le = tt
arrays_most t kinds (suc n) used limit le =
    let m = suc-mul n 8 in (
      limit - 4,
      omega arith,
      λ first there.
          let kind = bytes_number first in (
            limit - 4 - 4,
            omega arith,
            λ second test.
                let size = bytes_number second in
                let room : used + 2 + size ≤ 65536 = grind (arith, nat_tests) in
                let count = numbers_given kinds kind size in
                let few = given_few kinds kind size in
                let rest = n * 8 + (65536 - (used + 2 + size)) * 4 in
                let given = each count (checked (λ n. true) 22) in
                let array = λ (ns : List ℕ). (let a : ArrayPart = record { kind = kind; size = size; numbers = ns } in a) in
                most_then (λ (a : ArrayPart). a.size ≡ size) _ (then_with given (λ ns. done (array ns))) _ (size * 4) rest (limit - 4 - 4) (omega arith)
                (most_then _ _ given _ (count * 4) 0 (size * 4) (omega arith) (numbers_most (λ n. true) 22 count) (λ ns i. refl)) (λ a e.
                most_last (many n (λ later kept. array_fields t kinds kept) with_array (used + 2 + a.size)) (λ more. a ∷ more) rest
                (arrays_most t kinds n (used + 2 + a.size) rest (omega arith))),
          ),
    )

-- a block: 64 slots at most
block_most : (t : Tables) (place : ℕ → Bool) → MostAny (block_where t place) 576
unfolding block_where then_with
block_most t place = (
  572,
  omega arith,
  λ first placed.
      let offset = bytes_number first in
      most_next (each 7 (type_field t)) (after_types t offset) 56 516 572 (omega arith) (types_most t 7) (λ types. (
        512,
        omega arith,
        λ second test.
            let n = bytes_number second in
            let few : n ≤ 64 = grind (arith, nat_tests) in
            most_next (each n (type_field t)) _ (n * 8) 0 512 (omega arith) (types_most t n) (λ slots. tt),
      )),
)

-- a mark
mark_most : (place : ℕ → Bool) (word : ℕ → ℕ → ℕ → Bool) → MostAny (mark_where place word) 12
unfolding mark_where then_with
mark_most place word = (8, omega arith, λ offset placed. (0, omega arith, λ both c. tt))

-- ---- the code

-- the instructions of so many bytes
instructions_most : (n room : ℕ) → MostAny (function_instructions n room) room
unfolding function_instructions then_with
instructions_most zero room = tt
instructions_most (suc n) zero = tt
instructions_most (suc n) (suc r) = λ text i fit.
    let left = suc r - length text in
    (left, omega arith, most_last (function_instructions n left) (λ more. record { text = text; means = i } ∷ more) left (instructions_most n left))

-- those of all functions
bodies_most : (functions : List FunctionPart) → MostAny (bodies functions) (code_length functions)
unfolding bodies code_length then_with
bodies_most [] = tt
bodies_most (f ∷ functions) =
    most_next (function_instructions f.length f.length) _ f.length (code_length functions) (f.length + code_length functions) (omega arith) (instructions_most f.length f.length) (λ body.
    most_last (bodies functions) (λ more. body ∷ more) (code_length functions) (bodies_most functions))

-- the same, by a sum
bodies_reach : (functions : List FunctionPart) → MostAny (bodies functions) (sum_by (λ (f : FunctionPart). f.length) functions)
bodies_reach functions = subst (λ (n : ℕ). MostAny (bodies functions) n) (code_length-sum functions) (bodies_most functions)

-- ---- the whole file

-- a number within limits is not more than the higher one
not_above : (low high n : ℕ) → between low high n ≡ true → n ≤ high
not_above low high n h = grind (arith, nat_tests)

-- the fields of an image; the numbers are what is left after each part, rounded up
coded_most : MostAny coded_fields 67108853
unfolding coded_fields then_with
coded_most =
    most_then (IsHeader false) _ header_fields _ 52 60000000 67108853 (omega arith) (header_most magic_number false) (λ h is.
    let few1 = not_above 1 4096 h.sigs is.condition_3 in
    let few2 = not_above 1 16384 h.functions is.condition_4 in
    let few3 = not_above 2 64 h.stacks is.condition_2 in
    let few4 = not_above 0 1024 h.classes is.condition_5 in
    let few5 = not_above 0 256 h.kinds is.condition_6 in
    let few6 = not_above 0 65536 h.statics is.condition_7 in
    let few7 = not_above 0 65536 h.arrays is.condition_8 in
    let few8 = not_above 1 1048576 h.code is.condition_9 in
    let few9 = not_above 0 65536 h.blocks is.condition_10 in
    let few10 = not_above 0 65536 h.marks is.condition_11 in
    let t = tables_of h in
    most_next (sigs_part h) _ (h.sigs * 64) 59000000 60000000 (omega arith) (most_each (sig_fields t) 64 (sig_most t) h.sigs) (λ sigs.
    most_then (λ (fs : List FunctionPart). code_length fs ≤ h.code) _ (functions_part h) _ (h.functions * 8) 58000000 59000000 (omega arith)
    (functions_most t h.functions h.code (h.functions * 8) (omega arith)) (λ functions few.
    most_next (entries_part h sigs functions) _ (h.stacks * 4) 57000000 58000000 (omega arith) (numbers_most (entry_fits sigs functions) 15 h.stacks) (λ entries.
    most_next (classes_part h functions) _ (h.classes * 2272) 54000000 57000000 (omega arith)
    (most_many _ _ 2272 (λ later classes. class_most t functions classes) h.classes []) (λ classes.
    most_next (kinds_part h) _ (h.kinds * 8) 53000000 54000000 (omega arith) (most_each (kind_fields t) 8 (kind_most t) h.kinds) (λ kinds.
    most_next (statics_part h) _ (h.statics * 8) 52000000 53000000 (omega arith) (field_types_most t h.statics) (λ statics.
    most_next (arrays_part h kinds) _ 786432 51000000 52000000 (omega arith) (arrays_most t kinds h.arrays h.statics 786432 (omega arith)) (λ arrays.
    most_next (bodies functions) _ (code_length functions) 49000000 51000000 (omega arith) (bodies_most functions) (λ code.
    most_next (blocks_part h functions (all_instructions code)) _ (h.blocks * 576) 11000000 49000000 (omega arith)
    (most_many _ _ 576 (λ later least. block_most t (block_fits functions (all_instructions code) least)) h.blocks 0) (λ blocks.
    most_next (marks_part h functions arrays (all_instructions code)) _ (h.marks * 12) 0 11000000 (omega arith)
    (most_many _ _ 12 (λ later least. mark_most _ _) h.marks 0) (λ marks. tt)))))))))))

-- the fields of an image have 64 MiB at most
pub image_most : MostAny image_fields 67108853
unfolding image_fields then_with
image_most = most_last coded_fields (λ coded. coded.image) 67108853 coded_most

-- the rows of a file
pub rows_reach : RowReaches
rows_reach = record {
  header = header_most;
  sig = sig_most;
  function = function_most;
  class = class_most;
  field_type = field_type_most;
  numbers = part_few;
  bodies = bodies_reach;
  block = block_most;
  mark = mark_most;
}
