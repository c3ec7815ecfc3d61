-- What the header of a file stands for.
use Rattle.std.proofs.Common.{◌≡◌, ℕ, zero, suc, ◌<◌, ◌^◌, Bool, true, false, List, [], ◌∷◌, ◌++◌, refl, ap, subst, ◌∙◌, arith, lit<}
use Rattle.std.specs.Prelude.{◌==◌}
use Rattle.std.proofs.lemmas.Bool.{eqb-true}
use Rattle.std.proofs.lemmas.Bool.Decides.{nat_tests}
use Rattle.file_fields.specs.declared.fault.ImageFault.{ImageFault}
use Rattle.file_fields.specs.declared.fault.ImageFault.TheVariants.{Magic, Version, Bad}
use Rattle.tal_image.specs.declared.parts.Header.{Header}
use Rattle.tal_image.specs.Image.{number_bytes, numbers}
use Rattle.tal_image.specs.Conditions.{between, where_given, heap_fits, stacks_fit, sigs_fit, functions_fit, classes_fit, kinds_fit, statics_fit, arrays_fit, code_fits, blocks_fit, marks_fit}
use Rattle.file_fields.specs.Grammar.{Grammar, done, field, then_with, fields_text}
use Rattle.file_fields.specs.Laws.{NumberMeanings}
use Rattle.file_fields.specs.Parts.{Means, Checked}
use Rattle.file_fields.specs.Composed.{and_then, at_end, put_part, put_last, take_part, take_last}
use Rattle.tal_image.specs.Fields.{header_where}
use Rattle.tal_image.specs.Formed.{IsHeader}
use Rattle.tal_image.specs.Rows.{header_numbers}

-- ---- numbers, each under a test

-- the condition of a number, and the fault where it breaks that
abbrev pub Test : Type 0
Test = (ℕ → Bool) × (ℕ → ImageFault)

-- as many numbers as there are tests
abbrev pub Numbers : List Test → Type 0
Numbers [] = Unit {0}
Numbers (t ∷ ts) = ℕ × Numbers ts

-- a number for each test
abbrev pub tested : (ts : List Test) → Grammar (Numbers ts)
tested [] = done tt
tested (t ∷ ts) = then_with (field t.0 t.1) (λ n. then_with (tested ts) (λ ns. done (n, ns)))

-- each number meets its test
abbrev pub AllMeet : (ts : List Test) → Numbers ts → Type 0
AllMeet [] ns = Unit {0}
AllMeet (t ∷ ts) ns = Checked t.0 ns.0 × AllMeet ts ns.1

-- each number meets its test, whatever its size
abbrev pub TestsMet : (ts : List Test) → Numbers ts → Type 0
TestsMet [] ns = Unit {0}
TestsMet (t ∷ ts) ns = (t.0 ns.0 ≡ true) × TestsMet ts ns.1

tests_met : (ts : List Test) (ns : Numbers ts) → AllMeet ts ns → TestsMet ts ns
tests_met [] ns m = tt
tests_met (t ∷ ts) ns m = (m.0.1, tests_met ts ns.1 m.1)

-- the bytes of the numbers
abbrev numbers_text : (ts : List Test) → Numbers ts → List ℕ
numbers_text [] ns = []
numbers_text (t ∷ ts) ns = number_bytes ns.0 ++ numbers_text ts ns.1

-- numbers in a file
tested_means : (meanings : NumberMeanings) (ts : List Test) → Means (tested ts) (AllMeet ts) (numbers_text ts)
tested_means meanings [] = record { whole = λ ns h. ([], refl, refl); back = λ fs ns s. (tt, ap fields_text (at_end tt ns fs s).0) }
tested_means meanings (t ∷ ts) = record {
  whole = λ ns h. put_part (meanings.one t.0 t.1) _ ns.0 ns _ h.0 (put_last (tested_means meanings ts) (λ more. (ns.0, more)) ns.1 h.1);
  back = λ fs ns s.
      let n = take_part (meanings.one t.0 t.1) _ fs ns s in
      let more = take_last (tested_means meanings ts) (λ (ms : Numbers ts). (let r : Numbers (t ∷ ts) = (n.value, ms) in r)) n.rest ns n.more in
      subst (λ (z : Numbers (t ∷ ts)). AllMeet (t ∷ ts) z × (fields_text fs ≡ numbers_text (t ∷ ts) z)) more.same ((n.is, more.is), n.bytes _ more.bytes);
}

-- ---- the numbers of a header

-- a condition by its number
abbrev condition : (ℕ → Bool) → ℕ → Test
condition ok number = (ok, λ at. Bad at number)

module _ (letters : ℕ) (partial : Bool) where
  -- the letters, the version, and the numbers under conditions 1 to 11
  abbrev pub tests : List Test
  tests =
      ((λ n. n == letters), (λ at. Magic)) ∷ ((λ n. n == 1), (λ at. Version))
      ∷ condition (where_given partial heap_fits) 1 ∷ condition (where_given partial stacks_fit) 2 ∷ condition (where_given partial sigs_fit) 3
      ∷ condition (where_given partial functions_fit) 4 ∷ condition classes_fit 5 ∷ condition kinds_fit 6 ∷ condition statics_fit 7
      ∷ condition arrays_fit 8 ∷ condition (where_given partial code_fits) 9 ∷ condition blocks_fit 10 ∷ condition marks_fit 11 ∷ []

  -- the header of these numbers
  abbrev pub header_of : Numbers tests → Header
  header_of ns =
      let limits = ns.1.1 in
      let tables = limits.1.1 in
      let rows = tables.1.1.1.1 in
      let code = rows.1.1 in
      record {
        heap_words = limits.0;
        stacks = limits.1.0;
        sigs = tables.0;
        functions = tables.1.0;
        classes = tables.1.1.0;
        kinds = tables.1.1.1.0;
        statics = rows.0;
        arrays = rows.1.0;
        code = code.0;
        blocks = code.1.0;
        marks = code.1.1.0;
      }

  -- the numbers of a header
  abbrev numbers_of : Header → Numbers tests
  numbers_of h = (letters, (1, (h.heap_words, (h.stacks, (h.sigs, (h.functions, (h.classes, (h.kinds, (h.statics, (h.arrays, (h.code, (h.blocks, (h.marks, tt)))))))))))))

  -- numbers that meet the tests are those of a header
  pub header_is : (ns : Numbers tests) → TestsMet tests ns → IsHeader partial (header_of ns)
  header_is ns m =
      let limits = m.1.1 in
      let tables = limits.1.1 in
      let rows = tables.1.1.1.1 in
      let code = rows.1.1 in
      record {
        condition_1 = limits.0;
        condition_2 = limits.1.0;
        condition_3 = tables.0;
        condition_4 = tables.1.0;
        condition_5 = tables.1.1.0;
        condition_6 = tables.1.1.1.0;
        condition_7 = rows.0;
        condition_8 = rows.1.0;
        condition_9 = code.0;
        condition_10 = code.1.0;
        condition_11 = code.1.1.0;
      }

-- a number within small limits has 32 bits
limited : (low high n : ℕ) → high < 2 ^ 32 → between low high n ≡ true → Checked (between low high) n
limited low high n small h = (grind (arith, nat_tests), h)

-- the words of the heap
heap_checked : (n : ℕ) → heap_fits n ≡ true → Checked heap_fits n
heap_checked n h = (grind (arith, nat_tests), h)

-- a number that is not given is 0
given_checked : (partial : Bool) (ok : ℕ → Bool) (n : ℕ) → (ok n ≡ true → Checked ok n) → where_given partial ok n ≡ true → Checked (where_given partial ok) n
given_checked false ok n small h = small h
given_checked true ok zero small h = (lit< tt, h)
given_checked true ok (suc n) small h = let e : (suc n == 0) ≡ false = grind (arith, nat_tests) in ((small (rw e at h)).0, h)

module _ (letters : ℕ) (partial : Bool) (word : letters < 2 ^ 32) where
  -- the numbers of a header meet the tests
  all_meet : (h : Header) → IsHeader partial h → AllMeet (tests letters partial) (numbers_of letters partial h)
  all_meet h is =
      and_then (word, grind (arith, nat_tests)) (
      and_then (lit< tt, refl) (
      and_then (given_checked partial heap_fits h.heap_words (heap_checked h.heap_words) is.condition_1) (
      and_then (given_checked partial stacks_fit h.stacks (limited 2 64 h.stacks (lit< tt)) is.condition_2) (
      and_then (given_checked partial sigs_fit h.sigs (limited 1 4096 h.sigs (lit< tt)) is.condition_3) (
      and_then (given_checked partial functions_fit h.functions (limited 1 16384 h.functions (lit< tt)) is.condition_4) (
      and_then (limited 0 1024 h.classes (lit< tt) is.condition_5) (
      and_then (limited 0 256 h.kinds (lit< tt) is.condition_6) (
      and_then (limited 0 65536 h.statics (lit< tt) is.condition_7) (
      and_then (limited 0 65536 h.arrays (lit< tt) is.condition_8) (
      and_then (given_checked partial code_fits h.code (limited 1 1048576 h.code (lit< tt)) is.condition_9) (
      and_then (limited 0 65536 h.blocks (lit< tt) is.condition_10) (
      and_then (limited 0 65536 h.marks (lit< tt) is.condition_11) tt))))))))))))

  -- a header in a file
  pub header_means : NumberMeanings → Means (header_where letters partial) (IsHeader partial) (λ h. numbers (header_numbers letters h))
  unfolding header_where then_with
  header_means meanings = record {
    whole = λ h is. put_last (tested_means meanings (tests letters partial)) (header_of letters partial) (numbers_of letters partial h) (all_meet h is);
    back = λ fs h s.
        let k = take_last (tested_means meanings (tests letters partial)) (header_of letters partial) fs h s in
        let ns = k.value in
        let magic = ap (λ (n : ℕ). numbers_text (tests letters partial) (n, ns.1)) (eqb-true ns.0 letters k.is.0.1) in
        let version = ap (λ (n : ℕ). numbers_text (tests letters partial) (letters, (n, ns.1.1))) (eqb-true ns.1.0 1 k.is.1.0.1) in
        subst (λ (z : Header). IsHeader partial z × (fields_text fs ≡ numbers (header_numbers letters z))) k.same
        (header_is letters partial ns (tests_met (tests letters partial) ns k.is), k.bytes ∙ magic ∙ version);
  }
