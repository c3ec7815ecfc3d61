-- What the lines of a module make keeps the conditions of units.
use Rattle.std.proofs.Common.{◌≡◌, ℕ, zero, suc, ◌+◌, ◌-◌, ◌<◌, ◌≤◌, Bool, true, false, ◌||◌, List, [], ◌∷◌, length, map, Option, Some, None, Result, Ok, Err, refl, sym, ap, subst, ◌∙◌, arith}
use Rattle.std.specs.Prelude.{◌==◌, nat_lt, nat_le, nat_eq, option_map, slice_get, slice_index_or}
use Rattle.std.specs.List.{list_any, IsDistinct}
use Rattle.std.proofs.lemmas.List.{length-map}
use Rattle.std.proofs.lemmas.Option.{slice_get-map}
use Rattle.std.proofs.lemmas.Map.Steps.{length-le_from_distinct_below}
use Rattle.asm_faults.specs.declared.AsmFault.{AsmFault}
use Rattle.file_fields.specs.Grammar.{between}
use Rattle.file_fields.specs.Parts.{EachAfter, Each}
use Rattle.object_layout.specs.declared.rows.KindRow.{KindRow}
use Rattle.tal_types.specs.Types.{of_field}
use Rattle.tal_image.specs.declared.parts.FunctionPart.{FunctionPart}
use Rattle.tal_image.specs.declared.parts.Tables.{Tables}
use Rattle.tal_image.specs.Image.{type_tag}
use Rattle.tal_image.specs.Conditions.{Spelled, where_given, sigs_fit, functions_fit, part_length_fits, most_words, most_code}
use Rattle.tal_image.specs.Fields.{all_instructions}
use Rattle.tal_image.specs.Formed.{IsBlockPart}
use Rattle.tal_syntax.specs.declared.module.TextLine.{TextLine}
use Rattle.unit_files.specs.declared.parts.UnitFun.{UnitFun}
use Rattle.unit_files.specs.declared.parts.UnitEntry.{UnitEntry}
use Rattle.unit_files.specs.declared.parts.UnitKind.{UnitKind}
use Rattle.unit_files.specs.declared.parts.UnitArray.{UnitArray}
use Rattle.unit_files.specs.declared.parts.UnitBlock.{UnitBlock}
use Rattle.unit_files.specs.declared.parts.UnitMark.{UnitMark}
use Rattle.unit_files.specs.declared.parts.FixUp.{FixUp}
use Rattle.unit_files.specs.Unit.{UnitParts, function_part, kind_row, block_part, function_parts, own_functions}
use Rattle.unit_files.specs.Formed.{IsName, IsUnitEntry, IsUnitFun, IsUnitArray, IsUnitMark, IsFixUp, after_unit_fun, with_unit_array, after_unit_block, after_unit_mark, after_fixup, unit_tables, UnitFormed}
use Rattle.tal_names.specs.Declarations.{Names, no_names, names_of}
use Rattle.tal_names.specs.NameSets.{number_of_name}
use Rattle.tal_names.specs.Mentions.{mentioned_names}
use Rattle.tal_tables.specs.Rows.{make}
use Rattle.tal_code.specs.Formed.{tables_named}
use Rattle.tal_classes.specs.Formed.{function_sig, AreDeclared, AreClasses}
use Rattle.tal_tables.specs.Formed.{arrays_take, holds_numbers, OwnLength, IsFunctionRow, IsArrayRow}
use Rattle.tal_asm.specs.Lines.{MadeSoFar, nothing, take_lines}
use Rattle.tal_asm.specs.UnitFor.{first_mention, names_fault, unless_before, unit_made, UnitFor}
use Rattle.tal_asm.proofs.UnitNames.{lines_mentioned}
use Rattle.tal_asm.proofs.Types.{types_known}
use Rattle.tal_asm.proofs.LinesKeep.{RowLaws, function_bytes, LinesKept, lines_keep, nothing_kept}

-- ---- limits

at_most : (high n : ℕ) → n ≤ high → between 0 high n ≡ true
at_most high n le = grind (arith, le)

few_sigs : (n : ℕ) → n ≤ 4096 → where_given true sigs_fit n ≡ true
few_sigs n le = grind (arith, le)

few_functions : (n : ℕ) → n ≤ 16384 → where_given true functions_fit n ≡ true
few_functions n le = grind (arith, le)

-- ---- functions

le_is : (a b : ℕ) → a ≤ b → nat_le a b ≡ true
le_is a b le = grind (arith, le)

same_is : (a b : ℕ) → a ≡ b → (a == b) ≡ true
same_is a b e = grind (arith, e)

-- A function takes all that is left where none follows.
whole : (fs : List UnitFun) (n : ℕ) → (nat_lt 0 (length fs) || n == n + function_bytes fs) ≡ true
unfolding function_bytes
whole [] n = same_is n (n + 0) (omega arith)
whole (f ∷ fs) n = ap (λ b. b || n == n + (f.length + function_bytes fs)) (more (length fs))
  where
    more : (k : ℕ) → nat_lt 0 (suc k) ≡ true
    more k = grind arith

length_is : (f : UnitFun) (fs : List UnitFun) → OwnLength f.ext f.length → part_length_fits f.ext (length fs) (f.length + function_bytes fs) f.length ≡ true
unfolding part_length_fits
length_is f fs own = by_ext f.ext own
  where
    by_ext : (b : Bool) → OwnLength b f.length → part_length_fits b (length fs) (f.length + function_bytes fs) f.length ≡ true
    by_ext true own = rw (same_is f.length 0 own, whole fs f.length) refl
    by_ext false own = rw (le_is 1 f.length own, le_is f.length (f.length + function_bytes fs) (omega arith), whole fs f.length) refl

-- Functions that have all bytes of the code are a unit's.
functions_are : (names left : ℕ) (t : Tables) (fs : List UnitFun) → left ≤ most_code → left ≡ function_bytes fs → Each (IsFunctionRow names t) fs
    → EachAfter after_unit_fun (λ later left f. IsUnitFun names t later left f) left fs
unfolding function_bytes
functions_are names left t [] le is rows = tt
functions_are names left t (f ∷ fs) le is (row, rows) = (
  record {
    mention = row.mention;
    length_word = omega (arith, le, is);
    condition_13 = ap (λ n. part_length_fits f.ext (length fs) n f.length) is ∙ length_is f fs row.own;
    sig_word = row.sig_word;
    condition_14 = row.condition_14;
  },
  functions_are names (left - f.length) t fs (omega (arith, le)) (omega (arith, is)) rows,
)

-- ---- data arrays

-- Data arrays that take so many words are a unit's.
arrays_are : (names used : ℕ) (t : Tables) (kinds : List KindRow) (found : List UnitArray) → used + arrays_take found ≤ most_words → Each (IsArrayRow names t kinds) found
    → EachAfter with_unit_array (λ later used a. IsUnitArray names t kinds used a) used found
unfolding arrays_take
arrays_are names used t kinds [] le rows = tt
arrays_are names used t kinds (a ∷ more) le (row, rows) = (
  record {
    mention = row.mention;
    kind_word = row.kind_word;
    condition_21 = row.condition_21;
    length_word = omega (arith, le);
    condition_22 = le_is (used + 2 + a.row.length) most_words (omega (arith, le));
    count = row.count;
    words = row.words;
  },
  arrays_are names (used + 2 + a.row.length) t kinds more (omega (arith, le)) rows,
)

-- ---- entries

each_below : (es : List UnitEntry) → Each (λ (e : UnitEntry). e.stack ≤ 63) es → (q : ℕ) → list_any (nat_eq q) (map (λ (e : UnitEntry). e.stack) es) ≡ true → q < 64
each_below [] all q e = cc
each_below (x ∷ es) (first, all) q e = by_first (nat_eq q x.stack) refl (each_below es all q) e
  where
    by_first : (b : Bool) → nat_eq q x.stack ≡ b → (list_any (nat_eq q) (map (λ (e : UnitEntry). e.stack) es) ≡ true → q < 64) → (b || list_any (nat_eq q) (map (λ (e : UnitEntry). e.stack) es)) ≡ true → q < 64
    by_first true same later e = (let is : q ≡ x.stack = grind arith in omega (arith, is, first))
    by_first false same later e = later e

few_entries : (es : List UnitEntry) → Each (λ (e : UnitEntry). e.stack ≤ 63) es → IsDistinct nat_eq (map (λ (e : UnitEntry). e.stack) es) → length es ≤ 64
few_entries es below apart =
    let n = length-le_from_distinct_below (map (λ (e : UnitEntry). e.stack) es) 64 apart (each_below es below) in
    let same = length-map es (λ (e : UnitEntry). e.stack) in
    omega (arith, n, same)

-- ---- the functions that a module declares

-- What is at an index of a list within it.
get_within : (xs : List (List ℕ)) (k : ℕ) → k < length xs → slice_get xs k ≡ Some (slice_index_or xs k [])
get_within [] k lt = absurd (omega (arith, lt))
get_within (x ∷ xs) zero lt = refl
get_within (x ∷ xs) (suc k) lt = get_within xs k (omega (arith, lt))

some_one : {A : Type 0} (a b : A) → Some a ≡ Some b → a ≡ b
some_one a b e = cc

-- The signature of a function is that which its name has.
sig_named : (m : Names) (fs : List UnitFun) (k : ℕ) → map (λ (f : UnitFun). Some f.sig) fs ≡ map (number_of_name m.sigs) m.function_sigs → k < length fs
    → function_sig (function_parts fs) k ≡ number_of_name m.sigs (slice_index_or m.function_sigs k [])
sig_named m fs k same lt =
    let long : length fs ≡ length m.function_sigs = sym (length-map fs (λ (f : UnitFun). Some f.sig)) ∙ ap length same ∙ length-map m.function_sigs (number_of_name m.sigs) in
    let at : option_map (λ (f : UnitFun). Some f.sig) (slice_get fs k) ≡ option_map (number_of_name m.sigs) (slice_get m.function_sigs k) =
    sym (slice_get-map (λ (f : UnitFun). Some f.sig) fs k) ∙ ap (λ xs. slice_get xs k) same ∙ slice_get-map (number_of_name m.sigs) m.function_sigs k in
    ap (option_map (λ (row : FunctionPart). row.sig)) (slice_get-map function_part fs k)
    ∙ by_row (slice_get fs k) (at ∙ ap (option_map (number_of_name m.sigs)) (get_within m.function_sigs k (omega (arith, long, lt))))
  where
    by_row : (o : Option UnitFun) → option_map (λ (f : UnitFun). Some f.sig) o ≡ Some (number_of_name m.sigs (slice_index_or m.function_sigs k []))
        → option_map (λ (row : FunctionPart). row.sig) (option_map function_part o) ≡ number_of_name m.sigs (slice_index_or m.function_sigs k [])
    by_row None e = cc
    by_row (Some f) e = some_one (Some f.sig) (number_of_name m.sigs (slice_index_or m.function_sigs k [])) e

declared : (m : Names) (fs : List UnitFun) → length fs ≤ 16384 → length fs ≡ length m.functions → map (λ (f : UnitFun). Some f.sig) fs ≡ map (number_of_name m.sigs) m.function_sigs → AreDeclared m (function_parts fs)
declared m fs few count same =
    let long = length-map fs function_part in
    record {
      few = omega (arith, long, few);
      count = long ∙ count;
      one_sig = λ f g lf lg is. sig_named m fs f same (omega (arith, long, lf)) ∙ ap (number_of_name m.sigs) is ∙ sym (sig_named m fs g same (omega (arith, long, lg)));
    }

-- The kinds that hold numbers.
kinds_declared : (ks : List UnitKind) → map (λ (k : KindRow). type_tag (of_field k.element) == 0) (map kind_row ks) ≡ map holds_numbers ks
kinds_declared [] = refl
kinds_declared (k ∷ ks) = ap (λ xs. holds_numbers k ∷ xs) (kinds_declared ks)

-- ---- the unit

-- what is said of the code, by other tables that are the same
same_blocks : (t s : Tables) (own : List FunctionPart) (code : List Spelled) (bs : List UnitBlock) → t ≡ s
    → EachAfter after_unit_block (λ later least b. IsBlockPart t own code least (block_part b)) 0 bs → EachAfter after_unit_block (λ later least b. IsBlockPart s own code least (block_part b)) 0 bs
same_blocks t s own code bs is rows = subst (λ t. EachAfter after_unit_block (λ later least b. IsBlockPart t own code least (block_part b)) 0 bs) is rows

same_marks : (t s : Tables) (f g a b : ℕ) (code : List Spelled) (xs : List UnitMark) → t ≡ s → f ≡ g → a ≡ b
    → EachAfter after_unit_mark (λ later least x. IsUnitMark t f a code least x) 0 xs → EachAfter after_unit_mark (λ later least x. IsUnitMark s g b code least x) 0 xs
same_marks t s f g a b code xs is_t is_f is_a rows = rw (sym is_t, sym is_f, sym is_a) rows

same_fixups : (t s : Tables) (f g a b c d : ℕ) (code : List Spelled) (xs : List FixUp) → t ≡ s → f ≡ g → a ≡ b → c ≡ d
    → EachAfter after_fixup (λ later least x. IsFixUp t f a c code least x) 0 xs → EachAfter after_fixup (λ later least x. IsFixUp s g b d code least x) 0 xs
same_fixups t s f g a b c d code xs is_t is_f is_a is_c rows = rw (sym is_t, sym is_f, sym is_a, sym is_c) rows

tables_same : (a b c d e f : ℕ) → a ≡ b → c ≡ d → e ≡ f → ◌≡◌ {A = Tables} (record { sigs = a; classes = c; kinds = e }) (record { sigs = b; classes = d; kinds = f })
tables_same a b c d e f x y z = rw (x, y, z) refl

-- What the lines of a module made is a unit.
pub formed : (m : Names) (names : List (List ℕ)) (d : MadeSoFar) → LinesKept m m names d → length names ≤ 65536 → Each IsName names → UnitFormed (unit_made names d)
formed m names d kept few are_names =
    let c = kept.tables.counted in
    let l = c.limits in
    let s = l.sigs in
    let fs = l.functions in
    let cl = l.classes in
    let k = l.kinds in
    let st = l.statics in
    let ar = l.arrays in
    let w = l.words in
    let es = c.sigs in
    let ef = c.functions in
    let ec = c.classes in
    let ek = c.kinds in
    let est = c.statics in
    let ea = c.arrays in
    let t = unit_tables (unit_made names d) in
    let same : tables_named m ≡ t = tables_same _ _ _ _ _ _ (sym es) (sym ec) (sym ek) in
    let rows = kept.tables.rows t (record {
      types = types_known m t (omega (arith, es)) (omega (arith, ec)) (omega (arith, ek)) (omega (arith, s)) (omega (arith, cl)) (omega (arith, k));
      few_names = few;
      sigs = omega (arith, es);
      few_sigs = s;
      kinds = omega (arith, ek);
      few_kinds = k;
      few_functions = omega (arith, ef, fs);
    }) in
    let code = kept.code (record {
      sigs = omega (arith, es, s);
      classes = omega (arith, ec, cl);
      kinds = omega (arith, ek, k);
      statics = omega (arith, est, st, w);
      arrays = omega (arith, ea, ar, w);
      functions = omega (arith, ef, fs);
    }) in
    let words = c.words in
    record {
      condition_1 = c.heap_words;
      condition_2 = c.stacks;
      condition_3 = few_sigs _ s;
      condition_4 = few_functions _ fs;
      condition_5 = at_most _ _ cl;
      condition_6 = at_most _ _ k;
      condition_7 = at_most 65536 (length d.tables.statics) (omega (arith, st, w));
      condition_8 = at_most 65536 (length d.tables.arrays) (omega (arith, ar, w));
      condition_9 = code.condition_9;
      condition_10 = code.condition_10;
      condition_11 = code.condition_11;
      names_28 = at_most _ _ few;
      entries_15 = at_most _ _ (few_entries d.tables.entries c.entries_below c.entries_apart);
      fixups_30 = code.fixups_30;
      names = are_names;
      sigs = rows.sigs;
      functions = functions_are (length names) (length d.code.code) t d.tables.functions kept.few (sym kept.bytes) rows.functions;
      entries = subst (λ n. Each (IsUnitEntry n) d.tables.entries) (sym ef) rows.entries;
      classes = AreClasses.formed (rows.classes (function_parts d.tables.functions) (declared m d.tables.functions fs ef c.function_sigs));
      kinds = rows.kinds;
      statics = rows.statics;
      arrays = arrays_are (length names) (length d.tables.statics) t (map kind_row d.tables.kinds) d.tables.arrays (omega (arith, words, w)) (rows.arrays (map kind_row d.tables.kinds) (kinds_declared d.tables.kinds ∙ c.number_kinds));
      bodies = code.bodies;
      condition_23 = code.condition_23;
      code = code.code;
      blocks = same_blocks (tables_named m) t (own_functions d.tables.functions) (all_instructions code.bodies) d.code.blocks same code.blocks;
      marks = same_marks (tables_named m) t _ _ _ _ (all_instructions code.bodies) d.code.marks same (sym ef) (sym ea) code.marks;
      fixups = same_fixups (tables_named m) t _ _ _ _ _ _ (all_instructions code.bodies) d.code.fixups same (sym ef) (sym ea) (sym est) code.fixups;
    }

-- A list without a place past so many is no longer.
no_more : (names : List (List ℕ)) (n : ℕ) → slice_get names n ≡ None → length names ≤ n
no_more [] n e = omega arith
no_more (x ∷ names) zero e = cc
no_more (x ∷ names) (suc n) e = (let le = no_more names n e in omega (arith, le))

-- The unit of the lines of a module keeps the conditions of units, where its names are names.
pub unit_formed : (lines : List TextLine) (u : UnitParts) → RowLaws → Each IsName (mentioned_names lines) → UnitFor lines ≡ Ok u → UnitFormed u
unfolding UnitFor names_fault unless_before
unit_formed lines u laws names e = by_names (slice_get (mentioned_names lines) 65536) refl (take_lines m (mentioned_names lines) nothing lines) refl e
  where
    m : Names
    m = names_of lines

    by_names : (o : Option (List ℕ)) → slice_get (mentioned_names lines) 65536 ≡ o → (r : Result MadeSoFar AsmFault) → take_lines m (mentioned_names lines) nothing lines ≡ r
        → unless_before (option_map (λ n. record { line = first_mention n lines; code = 16 }) o) (make (unit_made (mentioned_names lines)) r) ≡ Ok u → UnitFormed u
    by_names (Some n) is (Ok d) made e = cc
    by_names (Some n) is (Err f) made e = cc
    by_names None is (Err f) made e = cc
    by_names None is (Ok d) made e =
        let kept = lines_keep laws m no_names (mentioned_names lines) nothing d lines refl (lines_mentioned lines) (nothing_kept laws m (mentioned_names lines)) made in
        subst UnitFormed (one (unit_made (mentioned_names lines) d) u e) (formed m (mentioned_names lines) d kept (no_more (mentioned_names lines) 65536 is) names)
      where
        one : (a b : UnitParts) → ◌≡◌ {A = Result UnitParts AsmFault} (Ok a) (Ok b) → a ≡ b
        one a b e = cc
