-- The code of the image: conditions 13, 14 and 23 to 27.
use Rattle.std.specs.Prelude.{is_some, ◌==◌, nat_lt, nat_le, ◌&&◌, ◌||◌, not, ◌%◌}
use Rattle.std.specs.Option.{option_map_or}
use Rattle.std.proofs.Common.{◌≡◌, ℕ, suc, ◌+◌, ◌-◌, ◌<◌, ◌≤◌, ◌^◌, true, false, List, [], ◌∷◌, ◌++◌, length, map, Option, Some, None, inl, inr, refl, sym, ap, ◌∙◌, subst, append_assoc, arith}
use Rattle.std.proofs.lemmas.Bool.{and_from, or_left, or_right, le-leb, lt-ltb, eq-eqb, not_from_false}
use Rattle.std.proofs.lemmas.List.{length-map}
use Rattle.std.proofs.lemmas.List.Concat.{flat_map-append}
use Rattle.ia32_code.specs.declared.instruction.Inst.{Inst}
use Rattle.file_fields.specs.Parts.{EachAfter, Each}
use Rattle.tal_image.specs.declared.parts.BlockPart.{BlockPart}
use Rattle.tal_image.specs.declared.parts.FunctionPart.{FunctionPart}
use Rattle.tal_image.specs.declared.parts.MarkPart.{MarkPart}
use Rattle.tal_image.specs.declared.parts.Tables.{Tables}
use Rattle.tal_image.specs.Conditions.{Spelled, begins_at, function_begins, block_fits, marked_number, marked_number_at, mark_fits, same_number, word_fits}
use Rattle.tal_image.specs.Fields.{all_instructions, code_bytes, after_function, after_block, after_mark}
use Rattle.tal_image.specs.Formed.{IsType, IsFunction, AreBodies, IsBlockPart, IsMark, tables}
use Rattle.unit_files.specs.declared.parts.UnitBlock.{UnitBlock}
use Rattle.unit_files.specs.declared.parts.UnitMark.{UnitMark}
use Rattle.unit_files.specs.Unit.{UnitParts}
use Rattle.unit_files.specs.Formed.{UnitFormed, unit_tables}
use Rattle.image_linker.specs.LinkedRows.{TableNames, table_names, linked_type, UnitBody}
use Rattle.image_linker.specs.LinkedCode.{Places, is_in, marks_in, blocks_in, marked_index, marked_word, body_code, body_blocks, body_marks, each_body}
use Rattle.image_linker.specs.Linked.{body_part, bodies_of, linked_places, linked_image}
use Rattle.image_linker.proofs.Formed.Members.{In, get_in}
use Rattle.image_linker.proofs.Formed.Clean.{Clean}
use Rattle.image_linker.proofs.Formed.Tables.{function_from}
use Rattle.image_linker.proofs.Formed.Types.{upto, each_mapped, type_stays}
use Rattle.image_linker.proofs.Formed.Functions.{image_sig}
use Rattle.image_linker.proofs.Formed.Fills.{CodeLaws}
use Rattle.image_linker.proofs.Formed.Instructions.{HaveBytes, size, size_both, behind, inside, skip_begins, front_begins}
use Rattle.image_linker.proofs.Formed.UnitCode.{body_size, body_spelled, have_bytes}
use Rattle.image_linker.proofs.Formed.Bodies.{BlockFits, MarkSays, BodyLinked, function_linked, in_body}
use Rattle.image_linker.proofs.Formed.MarkWords.{total, named}
use Rattle.image_linker.proofs.Formed.Rows.{map_get}

-- functions one after another, the first of which begins at an offset
abbrev pub AllLinked : List UnitParts → TableNames → Places → ℕ → List UnitBody → List (List Spelled) → Type 0
AllLinked units t places begin [] [] = Unit {0}
AllLinked units t places begin [] (q ∷ qs) = ⊥
AllLinked units t places begin (b ∷ bs) [] = ⊥
AllLinked units t places begin (b ∷ bs) (q ∷ qs) = BodyLinked units t places begin b q × AllLinked units t places (begin + b.length) bs qs

module _ (units : List UnitParts) (t : TableNames) (places : Places) where
  -- each function of the image has its instructions
  pub all_linked : (bs : List UnitBody) → ((b : UnitBody) → In b bs → (begin : ℕ) → (q : List Spelled) × BodyLinked units t places begin b q) → (begin : ℕ) → (qs : List (List Spelled)) × AllLinked units t places begin bs qs
  all_linked [] h begin = ([], tt)
  all_linked (b ∷ bs) h begin =
      let q = h b (inl refl) begin in
      let more = all_linked bs (λ x i. h x (inr i)) (begin + b.length) in
      (q.0 ∷ more.0, (q.1, more.1))

  -- the code is that of the instructions
  pub code_is : (begin : ℕ) (bs : List UnitBody) (qs : List (List Spelled)) → AllLinked units t places begin bs qs → each_body (body_code t places) begin bs ≡ code_bytes (all_instructions qs)
  unfolding each_body
  code_is begin [] [] h = refl
  code_is begin [] (q ∷ qs) h = absurd h
  code_is begin (b ∷ bs) [] h = absurd h
  code_is begin (b ∷ bs) (q ∷ qs) h =
      ap (λ c. c ++ each_body (body_code t places) (begin + b.length) bs) h.0.code ∙ ap (λ c. code_bytes q ++ c) (code_is (begin + b.length) bs qs h.1)
      ∙ sym (flat_map-append (λ (s : Spelled). s.text) q (all_instructions qs))

  -- condition 23
  pub bodies_are : (begin : ℕ) (bs : List UnitBody) (qs : List (List Spelled)) → AllLinked units t places begin bs qs → AreBodies (map body_part bs) qs
  bodies_are begin [] [] h = tt
  bodies_are begin [] (q ∷ qs) h = absurd h
  bodies_are begin (b ∷ bs) [] h = absurd h
  bodies_are begin (b ∷ bs) (q ∷ qs) h = (h.0.body, bodies_are (begin + b.length) bs qs h.1)

  -- the code is as long as the functions say
  size_is : (begin : ℕ) (bs : List UnitBody) (qs : List (List Spelled)) → AllLinked units t places begin bs qs → size (all_instructions qs) ≡ total (map body_part bs)
  unfolding total
  size_is begin [] [] h = refl
  size_is begin [] (q ∷ qs) h = absurd h
  size_is begin (b ∷ bs) [] h = absurd h
  size_is begin (b ∷ bs) (q ∷ qs) h = size_both q (all_instructions qs) ∙ ap (λ n. n + size (all_instructions qs)) (body_size b.length q h.0.body) ∙ ap (λ n. b.length + n) (size_is (begin + b.length) bs qs h.1)

  -- conditions 13 and 14
  functions_after : (i : Tables) → i.sigs < 2 ^ 32 → (begin : ℕ) (bs : List UnitBody) (qs : List (List Spelled)) → AllLinked units t places begin bs qs → ((b : UnitBody) → In b bs → b.sig < i.sigs) → total (map body_part bs) < 2 ^ 32
      → EachAfter after_function (λ later left f. IsFunction i later left f) (total (map body_part bs)) (map body_part bs)
  unfolding total
  functions_after i few begin [] qs h sigs small = tt
  functions_after i few begin (b ∷ bs) [] h sigs small = absurd h
  functions_after i few begin (b ∷ bs) (q ∷ qs) h sigs small =
      let below = sigs b (inl refl) in
      let rest : total (map body_part bs) ≡ b.length + total (map body_part bs) - b.length = omega arith in (
        record {
          length_word = omega (arith, small);
          condition_13 = and_from (nat_le 1 b.length && nat_le b.length (b.length + total (map body_part bs))) (nat_lt 0 (length (map body_part bs)) || b.length == b.length + total (map body_part bs))
              (and_from (nat_le 1 b.length) (nat_le b.length (b.length + total (map body_part bs))) (le-leb _ _ (omega (arith, h.0.some))) (le-leb _ _ (omega arith))) (last bs);
          sig_word = omega (arith, below, few);
          condition_14 = lt-ltb b.sig i.sigs below;
        },
        subst (λ n. EachAfter after_function (λ later left f. IsFunction i later left f) n (map body_part bs)) rest
            (functions_after i few (begin + b.length) bs qs h.1 (λ x k. sigs x (inr k)) (omega (arith, small))),
      )
    where
      last : (xs : List UnitBody) → (nat_lt 0 (length (map body_part xs)) || b.length == b.length + total (map body_part xs)) ≡ true
      last [] = or_right (nat_lt 0 0) (b.length == b.length + 0) (eq-eqb b.length (b.length + 0) (omega arith))
      last (x ∷ xs) = or_left (nat_lt 0 (suc (length (map body_part xs)))) (b.length == b.length + (x.length + total (map body_part xs))) (lt-ltb 0 (suc (length (map body_part xs))) (omega arith))

-- ---- where functions begin

-- each function has a byte
abbrev pub HaveLength : List FunctionPart → Type 0
HaveLength fs = Each (λ (f : FunctionPart). 0 < f.length) fs

-- functions behind others
skip_function : (pre fs : List FunctionPart) (o : ℕ) → HaveLength pre → function_begins (total pre + o) (pre ++ fs) ≡ function_begins o fs
unfolding function_begins total
skip_function [] fs o h = ap (λ n. function_begins n fs) (omega arith)
skip_function (f ∷ pre) fs o h =
    let at : f.length + total pre + o - f.length ≡ total pre + o = omega arith in
    behind (f.length + total pre + o) f.length true false (function_begins (f.length + total pre + o - f.length) (pre ++ fs)) (omega (arith, h.0)) (omega arith)
    ∙ ap (λ n. function_begins n (pre ++ fs)) at ∙ skip_function pre fs o h.1

-- how many bytes two lists of functions have
total_both : (xs ys : List FunctionPart) → total (xs ++ ys) ≡ total xs + total ys
unfolding total
total_both [] ys = omega arith
total_both (x ∷ xs) ys = let later = total_both xs ys in omega (arith, later)

-- each function of two lists has a byte
length_both : (xs ys : List FunctionPart) → HaveLength xs → HaveLength ys → HaveLength (xs ++ ys)
length_both [] ys a b = b
length_both (x ∷ xs) ys a b = (a.0, length_both xs ys a.1 b)

-- each instruction of two lists has a byte
bytes_both : (xs ys : List Spelled) → HaveBytes xs → HaveBytes ys → HaveBytes (xs ++ ys)
bytes_both [] ys a b = b
bytes_both (x ∷ xs) ys a b = (a.0, bytes_both xs ys a.1 b)

-- a function whose instructions begin behind others of the image
pub record Here (code : List Spelled) (functions : List FunctionPart) (begin : ℕ) (b : UnitBody) (q : List Spelled) : Type 0 where
  pub inner : (x : ℕ) → x < b.length → begins_at (begin + x) code ≡ begins_at x q
  pub alone : (x : ℕ) → 0 < x → x < b.length → function_begins (begin + x) functions ≡ false
  pub within : begin + b.length ≤ size code

-- each function stands so
abbrev pub AllHere : List Spelled → List FunctionPart → ℕ → List UnitBody → List (List Spelled) → Type 0
AllHere code functions begin [] qs = Unit {0}
AllHere code functions begin (b ∷ bs) [] = ⊥
AllHere code functions begin (b ∷ bs) (q ∷ qs) = Here code functions begin b q × AllHere code functions (begin + b.length) bs qs

module _ (laws : CodeLaws) (units : List UnitParts) (t : TableNames) (places : Places) (code : List Spelled) (functions : List FunctionPart) where
  -- all functions stand behind one another
  all_here : (pre : List Spelled) (fore : List FunctionPart) (begin : ℕ) (bs : List UnitBody) (qs : List (List Spelled)) → AllLinked units t places begin bs qs
      → code ≡ pre ++ all_instructions qs → HaveBytes pre → size pre ≡ begin → functions ≡ fore ++ map body_part bs → HaveLength fore → total fore ≡ begin → AllHere code functions begin bs qs
  unfolding function_begins total
  all_here pre fore begin [] qs h is bytes at fs long begins = tt
  all_here pre fore begin (b ∷ bs) [] h is bytes at fs long begins = absurd h
  all_here pre fore begin (b ∷ bs) (q ∷ qs) h is bytes at fs long begins =
      let here = body_size b.length q h.0.body in
      let q_bytes = have_bytes laws q (body_spelled b.length q h.0.body) in
      let sizes = ap size is ∙ size_both pre (q ++ all_instructions qs) ∙ ap (λ n. size pre + n) (size_both q (all_instructions qs)) in (
        record {
          inner = λ x lt. ap (begins_at (begin + x)) is ∙ ap (λ n. begins_at (n + x) (pre ++ (q ++ all_instructions qs))) (sym at) ∙ skip_begins pre (q ++ all_instructions qs) x bytes
              ∙ front_begins q (all_instructions qs) x q_bytes (omega (arith, lt, here));
          alone = λ x some lt. ap (function_begins (begin + x)) fs ∙ ap (λ n. function_begins (n + x) (fore ++ (body_part b ∷ map body_part bs))) (sym begins) ∙ skip_function fore (body_part b ∷ map body_part bs) x long
              ∙ inside x b.length true false (function_begins (x - b.length) (map body_part bs)) some lt;
          within = omega (arith, sizes, at, here);
        },
        all_here (pre ++ q) (fore ++ body_part b ∷ []) (begin + b.length) bs qs h.1 (is ∙ sym (append_assoc pre q (all_instructions qs))) (bytes_both pre q bytes q_bytes) (size_both pre q ∙ omega (arith, at, here))
            (fs ∙ sym (append_assoc fore (body_part b ∷ []) (map body_part bs))) (length_both fore (body_part b ∷ []) long (h.0.some, tt)) (total_both fore (body_part b ∷ []) ∙ omega (arith, begins)),
      )

-- ---- blocks and marks

module _ (units : List UnitParts) (formed : (u : UnitParts) → In u units → UnitFormed u) (c : Clean units) (code : List Spelled) (few : size code ≤ 1048576) where
  -- a block moves with its code
  block_moves : (begin least : ℕ) (b : UnitBody) (q : List Spelled) (k : UnitBlock) → In b.unit units → Here code (linked_image units).functions begin b q → least ≤ begin + (k.offset - b.start) → is_in b k.offset ≡ true → BlockFits b q k
      → IsBlockPart (tables (linked_image units)) (linked_image units).functions code least
      (record { offset = begin + (k.offset - b.start); types = map (linked_type (table_names units) b.unit) k.regs; slots = map (linked_type (table_names units) b.unit) k.slots })
  unfolding block_fits
  block_moves begin least b q k h here low is fits =
      let place = in_body b k.offset is in
      let lt : k.offset - b.start < b.length = omega (arith, place.0, place.1) in
      let some : 0 < k.offset - b.start = omega (arith, place.0, fits.inner) in
      let wide = here.within in
      record {
        offset_word = omega (arith, lt, wide, few);
        condition_24 = and_from (nat_le least (begin + (k.offset - b.start)) && is_some (begins_at (begin + (k.offset - b.start)) code)) (not (function_begins (begin + (k.offset - b.start)) (linked_image units).functions))
            (and_from (nat_le least (begin + (k.offset - b.start))) (is_some (begins_at (begin + (k.offset - b.start)) code)) (le-leb least (begin + (k.offset - b.start)) low) (ap is_some (here.inner (k.offset - b.start) lt) ∙ fits.begins))
            (not_from_false (function_begins (begin + (k.offset - b.start)) (linked_image units).functions) (here.alone (k.offset - b.start) some lt));
        seven = length-map k.regs (linked_type (table_names units) b.unit) ∙ fits.seven;
        types = each_mapped (IsType (unit_tables b.unit)) (IsType (tables (linked_image units))) (linked_type (table_names units) b.unit) k.regs (λ ty p. type_stays units formed c b.unit h ty p) fits.types;
        slots_word = omega (arith, fits.slots_word, length-map k.slots (linked_type (table_names units) b.unit));
        condition_25 = ap (λ n. nat_le 0 n && nat_le n 64) (length-map k.slots (linked_type (table_names units) b.unit)) ∙ fits.condition_25;
        slots = each_mapped (IsType (unit_tables b.unit)) (IsType (tables (linked_image units))) (linked_type (table_names units) b.unit) k.slots (λ ty p. type_stays units formed c b.unit h ty p) fits.slots;
      }

  -- the blocks of a function, before those of the functions behind it
  blocks_of : (begin : ℕ) (b : UnitBody) (q : List Spelled) (ys : List BlockPart) → In b.unit units → Here code (linked_image units).functions begin b q
      → ((l : ℕ) → l ≤ begin + b.length → EachAfter after_block (λ later low k. IsBlockPart (tables (linked_image units)) (linked_image units).functions code low k) l ys)
      → (ks : List UnitBlock) (n least : ℕ) → EachAfter (λ (m : ℕ) (k : UnitBlock). k.offset + 1) (λ later m k. (m ≤ k.offset) × (is_in b k.offset ≡ true) × BlockFits b q k) n ks
      → least ≤ begin + b.length → ((m : ℕ) → n ≤ m → b.start ≤ m → least ≤ begin + (m - b.start))
      → EachAfter after_block (λ later low k. IsBlockPart (tables (linked_image units)) (linked_image units).functions code low k) least
      (map (λ (k : UnitBlock). record { offset = begin + (k.offset - b.start); types = map (linked_type (table_names units) b.unit) k.regs; slots = map (linked_type (table_names units) b.unit) k.slots }) ks ++ ys)
  blocks_of begin b q ys h here rest [] n least e top low = rest least top
  blocks_of begin b q ys h here rest (k ∷ ks) n least e top low =
      let place = in_body b k.offset e.0.1 in (
        block_moves begin least b q k h here (low k.offset e.0.0 place.0) e.0.1 e.0.2,
        blocks_of begin b q ys h here rest ks (k.offset + 1) (begin + (k.offset - b.start) + 1) e.1 (omega (arith, place.0, place.1)) (λ m ge start. omega (arith, place.0, ge, start)),
      )

  -- conditions 24 and 25
  blocks_after : (begin : ℕ) (bs : List UnitBody) (qs : List (List Spelled)) (least : ℕ) → AllLinked units (table_names units) (linked_places units) begin bs qs → AllHere code (linked_image units).functions begin bs qs → least ≤ begin
      → EachAfter after_block (λ later low k. IsBlockPart (tables (linked_image units)) (linked_image units).functions code low k) least (each_body (body_blocks (table_names units)) begin bs)
  unfolding each_body
  blocks_after begin [] qs least h all low = tt
  blocks_after begin (b ∷ bs) [] least h all low = absurd h
  blocks_after begin (b ∷ bs) (q ∷ qs) least h all low =
      blocks_of begin b q (each_body (body_blocks (table_names units)) (begin + b.length) bs) h.0.unit all.0 (λ l le. blocks_after (begin + b.length) bs qs l h.1 all.1 le) (blocks_in b) 0 least h.0.blocks (omega (arith, low)) (λ m ge start. omega (arith, low))

  -- so does a mark
  mark_moves : total (linked_image units).functions ≤ 1048576 → (begin least : ℕ) (b : UnitBody) (q : List Spelled) (m : UnitMark) → In b.unit units → Here code (linked_image units).functions begin b q → least ≤ begin + (m.offset - b.start) → is_in b m.offset ≡ true
      → MarkSays (table_names units) (linked_places units) b q m
      → IsMark (tables (linked_image units)) (linked_image units).functions (length (linked_image units).statics) (linked_image units).arrays code least
      (record { offset = begin + (m.offset - b.start); tag = m.tag; index = marked_index (table_names units) b.unit m })
  unfolding mark_fits word_fits marked_number_at same_number
  mark_moves short begin least b q m h here low is says =
      let place = in_body b m.offset is in
      let lt : m.offset - b.start < b.length = omega (arith, place.0, place.1) in
      let wide = here.within in
      let there = named units c short b.unit h m says.row in
      let w = marked_word (linked_places units) m.tag (marked_index (table_names units) b.unit m) in
      let whole : w % 2 ^ 32 ≡ w = omega (arith, there.small) in
      let number = ap (λ (x : Option Inst). option_map_or marked_number x None) (here.inner (m.offset - b.start) lt) ∙ says.number ∙ ap Some whole in
      record {
        offset_word = omega (arith, lt, wide, few);
        condition_26 = and_from (nat_le least (begin + (m.offset - b.start))) (is_some (option_map_or marked_number (begins_at (begin + (m.offset - b.start)) code) None)) (le-leb least (begin + (m.offset - b.start)) low) (ap is_some number);
        tag_word = says.tag_word;
        index_word = there.index_word;
        condition_27 = ap (λ (o : Option ℕ). same_number o (option_map_or marked_number (begins_at (begin + (m.offset - b.start)) code) None)) there.word_is ∙ ap (same_number (Some w)) number ∙ eq-eqb w w refl;
      }

  -- the marks of a function, before those of the functions behind it
  marks_of : total (linked_image units).functions ≤ 1048576 → (begin : ℕ) (b : UnitBody) (q : List Spelled) (ys : List MarkPart) → In b.unit units → Here code (linked_image units).functions begin b q
      → ((l : ℕ) → l ≤ begin + b.length → EachAfter after_mark (λ later low m. IsMark (tables (linked_image units)) (linked_image units).functions (length (linked_image units).statics) (linked_image units).arrays code low m) l ys)
      → (ms : List UnitMark) (n least : ℕ) → EachAfter (λ (j : ℕ) (m : UnitMark). m.offset + 1) (λ later j m. (j ≤ m.offset) × (is_in b m.offset ≡ true) × MarkSays (table_names units) (linked_places units) b q m) n ms
      → least ≤ begin + b.length → ((m : ℕ) → n ≤ m → b.start ≤ m → least ≤ begin + (m - b.start))
      → EachAfter after_mark (λ later low m. IsMark (tables (linked_image units)) (linked_image units).functions (length (linked_image units).statics) (linked_image units).arrays code low m) least
      (map (λ (m : UnitMark). record { offset = begin + (m.offset - b.start); tag = m.tag; index = marked_index (table_names units) b.unit m }) ms ++ ys)
  marks_of short begin b q ys h here rest [] n least e top low = rest least top
  marks_of short begin b q ys h here rest (m ∷ ms) n least e top low =
      let place = in_body b m.offset e.0.1 in (
        mark_moves short begin least b q m h here (low m.offset e.0.0 place.0) e.0.1 e.0.2,
        marks_of short begin b q ys h here rest ms (m.offset + 1) (begin + (m.offset - b.start) + 1) e.1 (omega (arith, place.0, place.1)) (λ j ge start. omega (arith, place.0, ge, start)),
      )

  -- conditions 26 and 27
  marks_after : total (linked_image units).functions ≤ 1048576 → (begin : ℕ) (bs : List UnitBody) (qs : List (List Spelled)) (least : ℕ) → AllLinked units (table_names units) (linked_places units) begin bs qs → AllHere code (linked_image units).functions begin bs qs → least ≤ begin
      → EachAfter after_mark (λ later low m. IsMark (tables (linked_image units)) (linked_image units).functions (length (linked_image units).statics) (linked_image units).arrays code low m) least (each_body (body_marks (table_names units)) begin bs)
  unfolding each_body
  marks_after short begin [] qs least h all low = tt
  marks_after short begin (b ∷ bs) [] least h all low = absurd h
  marks_after short begin (b ∷ bs) (q ∷ qs) least h all low =
      marks_of short begin b q (each_body (body_marks (table_names units)) (begin + b.length) bs) h.0.unit all.0 (λ l le. marks_after short (begin + b.length) bs qs l h.1 all.1 le) (marks_in b) 0 least h.0.marks (omega (arith, low)) (λ m ge start. omega (arith, low))

-- ---- the whole code

-- the code of the image is as it must be
pub record CodeFormed (units : List UnitParts) : Type 0 where
  pub functions : EachAfter after_function (λ later left f. IsFunction (tables (linked_image units)) later left f) (length (linked_image units).code) (linked_image units).functions
  pub bodies : List (List Spelled)
  pub condition_23 : AreBodies (linked_image units).functions bodies
  pub code : (linked_image units).code ≡ code_bytes (all_instructions bodies)
  pub blocks : EachAfter after_block (λ later least b. IsBlockPart (tables (linked_image units)) (linked_image units).functions (all_instructions bodies) least b) 0 (linked_image units).blocks
  pub marks : EachAfter after_mark (λ later least m. IsMark (tables (linked_image units)) (linked_image units).functions (length (linked_image units).statics) (linked_image units).arrays (all_instructions bodies) least m) 0 (linked_image units).marks

-- all conditions of the code
pub code_formed : CodeLaws → (units : List UnitParts) → ((u : UnitParts) → In u units → UnitFormed u) → Clean units → CodeFormed units
unfolding linked_image total
code_formed laws units formed c =
    let all = all_linked units (table_names units) (linked_places units) (bodies_of units) (λ b i begin.
    let k = get_in (bodies_of units) b i in
    let f = function_from units c k.0 b k.1 in
    subst (λ x. (q : List Spelled) × BodyLinked units (table_names units) (linked_places units) begin x q) f.6 (function_linked laws (table_names units) (linked_places units) units f.0 f.3 (formed f.0 f.3) f.1 f.2 f.4 f.5 begin)) 0 in
    let qs : List (List Spelled) = all.0 in
    let code = code_is units (table_names units) (linked_places units) 0 (bodies_of units) qs all.1 in
    let sizes : size (all_instructions qs) ≡ total (map body_part (bodies_of units)) = size_is units (table_names units) (linked_places units) 0 (bodies_of units) qs all.1 in
    let short = upto 1 1048576 (length (linked_image units).code) c.short_code in
    let long : length (linked_image units).code ≡ size (all_instructions qs) = ap length code in
    let few : size (all_instructions qs) ≤ 1048576 = omega (arith, short, long) in
    let sigs = upto 1 4096 (length (linked_image units).sigs) c.few_sigs in
    let here = all_here laws units (table_names units) (linked_places units) (all_instructions qs) (linked_image units).functions [] [] 0 (bodies_of units) qs all.1 refl tt refl refl tt refl in
    record {
      functions = subst (λ n. EachAfter after_function (λ later left f. IsFunction (tables (linked_image units)) later left f) n (linked_image units).functions) (sym (long ∙ sizes))
          (functions_after units (table_names units) (linked_places units) (tables (linked_image units)) (omega (arith, sigs)) 0 (bodies_of units) qs all.1
          (λ b i. let k = get_in (bodies_of units) b i in image_sig units formed c k.0 (body_part b) (map_get body_part (bodies_of units) k.0 b k.1)) (omega (arith, few, sizes)));
      bodies = qs;
      condition_23 = bodies_are units (table_names units) (linked_places units) 0 (bodies_of units) qs all.1;
      code = code;
      blocks = blocks_after units formed c (all_instructions qs) few 0 (bodies_of units) qs 0 all.1 here (omega arith);
      marks = marks_after units formed c (all_instructions qs) few (omega (arith, few, sizes)) 0 (bodies_of units) qs 0 all.1 here (omega arith);
    }
