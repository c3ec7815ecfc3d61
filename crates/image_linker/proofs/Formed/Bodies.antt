-- Each function of the image: its instructions, its blocks and its marks.
use Rattle.std.specs.Prelude.{is_some, ◌==◌, nat_lt, nat_le, ◌&&◌, ◌||◌, not, ◌%◌}
use Rattle.std.specs.Option.{option_map, option_map_or}
use Rattle.std.proofs.Common.{◌≡◌, ℕ, ◌+◌, ◌-◌, ◌<◌, ◌≤◌, ◌^◌, true, false, List, [], ◌∷◌, ◌++◌, length, take, drop, Option, Some, None, slice_get, inl, inr, refl, sym, ap, ◌∙◌, subst, arith}
use Rattle.std.proofs.lemmas.Bool.{false≢true, and_parts, or_cases, leb-true, ltb-true, eqb-true, not-true}
use Rattle.ia32_code.specs.declared.instruction.Inst.{Inst}
use Rattle.file_fields.specs.Parts.{EachAfter, Each}
use Rattle.tal_image.specs.declared.parts.FunctionPart.{FunctionPart}
use Rattle.tal_image.specs.Conditions.{Spelled, begins_at, function_begins, block_fits, slots_fit, marked_number, marked_number_at, mark_fits, same_number}
use Rattle.tal_image.specs.Fields.{all_instructions, code_bytes}
use Rattle.tal_image.specs.Formed.{IsWord, IsType, IsBody, AreBodies, IsBlockPart}
use Rattle.unit_files.specs.declared.parts.UnitFun.{UnitFun}
use Rattle.unit_files.specs.declared.parts.UnitBlock.{UnitBlock}
use Rattle.unit_files.specs.declared.parts.UnitMark.{UnitMark}
use Rattle.unit_files.specs.declared.parts.FixUp.{FixUp}
use Rattle.unit_files.specs.Unit.{UnitParts, own_functions, block_part}
use Rattle.unit_files.specs.Conditions.{words_in_text, hole_at, wide_at, is_null_tag, marked_rows, unit_mark_fits, fixup_fits}
use Rattle.unit_files.specs.Formed.{UnitFormed, IsUnitFun, IsUnitMark, IsFixUp, after_unit_fun, after_unit_block, after_unit_mark, after_fixup, unit_tables}
use Rattle.image_linker.specs.LinkedRows.{TableNames, UnitBody}
use Rattle.image_linker.specs.LinkedCode.{Places, marked_index, marked_word, is_in, fixups_in, marks_in, blocks_in, holes_filled, marked_code, body_code}
use Rattle.image_linker.proofs.Formed.Members.{In, in_get, get_in, from_filter}
use Rattle.image_linker.proofs.Formed.Rows.{each_in}
use Rattle.image_linker.proofs.Formed.Tables.{body_start, body}
use Rattle.image_linker.proofs.Formed.Types.{at_place}
use Rattle.image_linker.proofs.Formed.Fills.{CodeLaws, refill_none}
use Rattle.image_linker.proofs.Formed.Instructions.{HaveBytes, spelled_at, skip_begins, skip_wide, skip_hole, skip_spelled, front_begins, front_wide, front_hole, front_spelled, begun, wide_is}
use Rattle.image_linker.proofs.Formed.Refilled.{Refills, AllSpelled, refills_begin}
use Rattle.image_linker.proofs.Formed.UnitCode.{OwnBody, own_body, own_bytes, body_size, spelled_both, body_spelled, have_bytes, words_from, extern_short, own_long, rising_kept}
use Rattle.image_linker.proofs.Formed.BodyCode.{filled_code, MarkFits, marks_code}

-- rows that are as they must be are so in another way
after_mapped : {S A : Type 0} (step : S → A → S) (Is Are : ℕ → S → A → Type 0) (kept : S) (xs : List A) → ((later : ℕ) (s : S) (x : A) → Is later s x → Are later s x) → EachAfter step Is kept xs → EachAfter step Are kept xs
after_mapped step Is Are kept [] h e = tt
after_mapped step Is Are kept (x ∷ xs) h e = (h (length xs) kept x e.0, after_mapped step Is Are (step kept x) xs h e.1)

-- and both ways at once
after_with : {S A : Type 0} (step : S → A → S) (Is : ℕ → S → A → Type 0) (Too : A → Type 0) (kept : S) (xs : List A) → EachAfter step Is kept xs → Each Too xs → EachAfter step (λ later s x. Is later s x × Too x) kept xs
after_with step Is Too kept [] a b = tt
after_with step Is Too kept (x ∷ xs) a b = ((a.0, b.0), after_with step Is Too (step kept x) xs a.1 b.1)

-- code is itself with no other words
refills_itself : (ss : List Spelled) → AllSpelled ss → Refills ss ss
refills_itself [] h = tt
refills_itself (s ∷ ss) h = (refill_none s h.0, refills_itself ss h.1)

-- code with other words is as long instruction by instruction
refills_body : (room : ℕ) (ss rs : List Spelled) → Refills ss rs → IsBody room ss → IsBody room rs
refills_body room [] [] h b = b
refills_body room [] (r ∷ rs) h b = absurd h
refills_body room (s ∷ ss) [] h b = absurd h
refills_body room (s ∷ ss) (r ∷ rs) h b =
    (b.0, h.0.spells, omega (arith, b.2, h.0.long), subst (λ n. IsBody (room - n) rs) (sym h.0.long) (refills_body (room - length s.text) ss rs h.1 b.3))

-- a number that is the same is this one
the_number : (n : ℕ) (o : Option ℕ) → same_number (Some n) o ≡ true → o ≡ Some n
unfolding same_number
the_number n None h = absurd (false≢true h)
the_number n (Some m) h = ap Some (sym (eqb-true n m h))

-- a null has the word 0
null_word : (places : Places) (tag index : ℕ) → is_null_tag tag ≡ true → marked_word places tag index ≡ 0
unfolding marked_word
null_word places tag index h = elim (or_cases (tag == 1 || tag == 3) (tag == 5) h) [
  | inl l ↦ elim (or_cases (tag == 1) (tag == 3) l) [ inl e ↦ at 1 refl (eqb-true tag 1 e) | inr e ↦ at 3 refl (eqb-true tag 3 e) ]
  | inr e ↦ at 5 refl (eqb-true tag 5 e)
]
  where
    at : (k : ℕ) → marked_word places k index ≡ 0 → tag ≡ k → marked_word places tag index ≡ 0
    at k zero_word e = ap (λ n. marked_word places n index) e ∙ zero_word

-- an offset in a function
pub in_body : (b : UnitBody) (offset : ℕ) → is_in b offset ≡ true → (b.start ≤ offset) × (offset < b.start + b.length)
in_body b offset h = let p = and_parts (nat_le b.start offset) (nat_lt offset (b.start + b.length)) h in (leb-true b.start offset p.0, ltb-true offset (b.start + b.length) p.1)

-- the block of a function whose instructions these are
pub record BlockFits (b : UnitBody) (qs : List Spelled) (k : UnitBlock) : Type 0 where
  pub begins : is_some (begins_at (k.offset - b.start) qs) ≡ true
  pub inner : k.offset ≡ b.start → ⊥
  pub seven : length k.regs ≡ 7
  pub types : Each (IsType (unit_tables b.unit)) k.regs
  pub slots_word : IsWord (length k.slots)
  pub condition_25 : slots_fit (length k.slots) ≡ true
  pub slots : Each (IsType (unit_tables b.unit)) k.slots

-- and a mark
pub record MarkSays (t : TableNames) (places : Places) (b : UnitBody) (qs : List Spelled) (m : UnitMark) : Type 0 where
  pub number : marked_number_at (m.offset - b.start) qs ≡ Some (marked_word places m.tag (marked_index t b.unit m) % 2 ^ 32)
  pub row : m.index < marked_rows (unit_tables b.unit) (length b.unit.functions) (length b.unit.arrays) m.tag
  pub tag_word : IsWord m.tag

-- a function of the image, whose code begins at this offset
pub record BodyLinked (units : List UnitParts) (t : TableNames) (places : Places) (begin : ℕ) (b : UnitBody) (qs : List Spelled) : Type 0 where
  pub unit : In b.unit units
  pub body : IsBody b.length qs
  pub some : 0 < b.length
  pub code : body_code t places begin b ≡ code_bytes qs
  pub blocks : EachAfter (λ (n : ℕ) (k : UnitBlock). k.offset + 1) (λ later n k. (n ≤ k.offset) × (is_in b k.offset ≡ true) × BlockFits b qs k) 0 (blocks_in b)
  pub marks : EachAfter (λ (n : ℕ) (m : UnitMark). m.offset + 1) (λ later n m. (n ≤ m.offset) × (is_in b m.offset ≡ true) × MarkSays t places b qs m) 0 (marks_in b)

-- the instructions of all functions are spelled by their bytes
all_spelled : (fs : List FunctionPart) (bodies : List (List Spelled)) → AreBodies fs bodies → AllSpelled (all_instructions bodies)
all_spelled [] [] h = tt
all_spelled [] (b ∷ bodies) h = absurd h
all_spelled (f ∷ fs) [] h = absurd h
all_spelled (f ∷ fs) (b ∷ bodies) h = spelled_both b (all_instructions bodies) (body_spelled f.length b h.0) (all_spelled fs bodies h.1)

-- the instruction that gives a marked number
number_begins : (o : ℕ) (code : List Spelled) (n : ℕ) → marked_number_at o code ≡ Some n → (s : Spelled) × (spelled_at o code ≡ Some s)
unfolding marked_number_at
number_begins o code n h = by (spelled_at o code) refl
  where
    by : (x : Option Spelled) → spelled_at o code ≡ x → (s : Spelled) × (spelled_at o code ≡ Some s)
    by None e = absurd (let none : ◌≡◌ {A = Option ℕ} None (Some n) = sym (ap (λ (y : Option Inst). option_map_or marked_number y None) (begun code o ∙ ap (option_map (λ (s : Spelled). s.means)) e)) ∙ h in cc)
    by (Some s) e = (s, e)

module _ (laws : CodeLaws) (t : TableNames) (places : Places) (u : UnitParts) (formed : UnitFormed u) (f : UnitFun) (start : ℕ) (o : OwnBody (all_instructions formed.bodies) (own_functions u.functions) start f.length) where
  -- the instructions before the function have bytes
  pre_bytes : HaveBytes o.pre
  pre_bytes = have_bytes laws o.pre o.pre_spelled

  -- so have its own
  mine_bytes : HaveBytes o.mine
  mine_bytes = have_bytes laws o.mine (body_spelled f.length o.mine o.body)

  -- what begins in the function begins there in the whole code
  at_begin : (x : ℕ) → x < f.length → begins_at (start + x) (all_instructions formed.bodies) ≡ begins_at x o.mine
  at_begin x lt =
      ap (begins_at (start + x)) o.parts ∙ ap (λ n. begins_at (n + x) (o.pre ++ (o.mine ++ o.post))) (sym o.before) ∙ skip_begins o.pre (o.mine ++ o.post) x pre_bytes
      ∙ front_begins o.mine o.post x mine_bytes (omega (arith, lt, body_size f.length o.mine o.body))

  -- so does what ends with a whole word
  at_wide : (x : ℕ) → x < f.length → wide_at (start + x) (all_instructions formed.bodies) ≡ wide_at x o.mine
  at_wide x lt =
      ap (wide_at (start + x)) o.parts ∙ ap (λ n. wide_at (n + x) (o.pre ++ (o.mine ++ o.post))) (sym o.before) ∙ skip_wide o.pre (o.mine ++ o.post) x pre_bytes
      ∙ front_wide o.mine o.post x mine_bytes (omega (arith, lt, body_size f.length o.mine o.body))

  -- holes of the function are holes of the whole code
  at_hole : (x : ℕ) → x < f.length → hole_at (start + x) (all_instructions formed.bodies) ≡ hole_at x o.mine
  at_hole x lt =
      ap (hole_at (start + x)) o.parts ∙ ap (λ n. hole_at (n + x) (o.pre ++ (o.mine ++ o.post))) (sym o.before) ∙ skip_hole o.pre (o.mine ++ o.post) x
      ∙ front_hole o.mine o.post x (omega (arith, lt, body_size f.length o.mine o.body))

  -- the instruction at an offset is that of the whole code
  at_spelled : (x : ℕ) (s : Spelled) → spelled_at x o.mine ≡ Some s → spelled_at (start + x) (all_instructions formed.bodies) ≡ Some s
  at_spelled x s e =
      ap (spelled_at (start + x)) o.parts ∙ ap (λ n. spelled_at (n + x) (o.pre ++ (o.mine ++ o.post))) (sym o.before) ∙ skip_spelled o.pre (o.mine ++ o.post) x pre_bytes ∙ front_spelled o.mine o.post x s e

  -- a block of the unit is one of the function
  block_stays : (k : UnitBlock) (least : ℕ) (qs : List Spelled) → is_in (body t u start f) k.offset ≡ true → IsBlockPart (unit_tables u) (own_functions u.functions) (all_instructions formed.bodies) least (block_part k) → Refills o.mine qs
      → BlockFits (body t u start f) qs k
  unfolding block_fits
  block_stays k least qs h is r =
      let place = in_body (body t u start f) k.offset h in
      let parts = and_parts (nat_le least k.offset && is_some (begins_at k.offset (all_instructions formed.bodies))) (not (function_begins k.offset (own_functions u.functions))) is.condition_24 in
      let begins = (and_parts (nat_le least k.offset) (is_some (begins_at k.offset (all_instructions formed.bodies))) parts.0).1 in
      let off : start + (k.offset - start) ≡ k.offset = omega (arith, place.0) in
      record {
        begins = refills_begin o.mine qs (k.offset - start) r ∙ ap is_some (sym (at_begin (k.offset - start) (omega (arith, place.0, place.1))) ∙ ap (λ n. begins_at n (all_instructions formed.bodies)) off) ∙ begins;
        inner = λ e. false≢true (sym (not-true (function_begins k.offset (own_functions u.functions)) parts.1) ∙ ap (λ n. function_begins n (own_functions u.functions)) e ∙ o.first);
        seven = is.seven;
        types = is.types;
        slots_word = is.slots_word;
        condition_25 = is.condition_25;
        slots = is.slots;
      }

  -- a fix-up of the unit is at a hole of the function
  fixup_stays : (x : FixUp) (least : ℕ) → is_in (body t u start f) x.offset ≡ true → fixup_fits (all_instructions formed.bodies) least x.offset ≡ true → hole_at (x.offset - start) o.mine ≡ true
  unfolding fixup_fits
  fixup_stays x least h is =
      let place = in_body (body t u start f) x.offset h in
      let hole = (and_parts (nat_le least x.offset) (hole_at x.offset (all_instructions formed.bodies)) is).1 in
      let off : start + (x.offset - start) ≡ x.offset = omega (arith, place.0) in
      sym (at_hole (x.offset - start) (omega (arith, place.0, place.1))) ∙ ap (λ n. hole_at n (all_instructions formed.bodies)) off ∙ hole

  -- a mark of the unit is at an instruction of the function
  mark_stays : (m : UnitMark) (least : ℕ) → is_in (body t u start f) m.offset ≡ true → IsUnitMark (unit_tables u) (length u.functions) (length u.arrays) (all_instructions formed.bodies) least m
      → MarkFits laws t places (body t u start f) o.mine m
  unfolding unit_mark_fits marked_number_at
  mark_stays m least h is =
      let place = in_body (body t u start f) m.offset h in
      let outer = and_parts (nat_lt m.index (marked_rows (unit_tables u) (length u.functions) (length u.arrays) m.tag) && same_number (Some 0) (marked_number_at m.offset (all_instructions formed.bodies))) (is_null_tag m.tag || wide_at m.offset (all_instructions formed.bodies)) is.condition_27 in
      let inner = and_parts (nat_lt m.index (marked_rows (unit_tables u) (length u.functions) (length u.arrays) m.tag)) (same_number (Some 0) (marked_number_at m.offset (all_instructions formed.bodies))) outer.0 in
      let off : start + (m.offset - start) ≡ m.offset = omega (arith, place.0) in
      let lt : m.offset - start < f.length = omega (arith, place.0, place.1) in
      let number : marked_number_at (m.offset - start) o.mine ≡ Some 0 =
      ap (λ (x : Option Inst). option_map_or marked_number x None) (sym (at_begin (m.offset - start) lt) ∙ ap (λ n. begins_at n (all_instructions formed.bodies)) off) ∙ the_number 0 (marked_number_at m.offset (all_instructions formed.bodies)) inner.1 in
      let s = number_begins (m.offset - start) o.mine 0 number in
      let all = at_spelled (m.offset - start) s.0 s.1 in
      let words = words_from laws (all_instructions formed.bodies) (start + (m.offset - start)) s.0 (all_spelled (own_functions u.functions) formed.bodies formed.condition_23) all in
      record {
        here = s.0;
        there = s.1;
        words = ap (λ (c : List ℕ). words_in_text (drop m.offset c)) formed.code ∙ ap (λ n. words_in_text (drop n (code_bytes (all_instructions formed.bodies)))) (sym off) ∙ words;
        zero_number = number;
        wide = λ none. elim (or_cases (is_null_tag m.tag) (wide_at m.offset (all_instructions formed.bodies)) outer.1) [
          | inl null ↦ null_word places m.tag (marked_index t u m) null
          | inr wide ↦ absurd (false≢true (
              sym (ap is_some none) ∙ sym (ap (λ (x : Option Spelled). option_map_or (λ (y : Spelled). is_some (words_in_text y.text).at_end) x false) s.1) ∙ sym (wide_is o.mine (m.offset - start))
              ∙ sym (at_wide (m.offset - start) lt) ∙ ap (λ n. wide_at n (all_instructions formed.bodies)) off ∙ wide))
        ];
        low = place.0;
      }

  -- the blocks and marks of the function, in their order
  own_blocks : EachAfter (λ (n : ℕ) (k : UnitBlock). k.offset + 1)
      (λ later n k. (n ≤ k.offset) × ((least : ℕ) × IsBlockPart (unit_tables u) (own_functions u.functions) (all_instructions formed.bodies) least (block_part k)) × (is_in (body t u start f) k.offset ≡ true)) 0 (blocks_in (body t u start f))
  unfolding block_fits
  own_blocks = rising_kept (λ (k : UnitBlock). k.offset) (λ (k : UnitBlock). is_in (body t u start f) k.offset)
      (λ (k : UnitBlock). (least : ℕ) × IsBlockPart (unit_tables u) (own_functions u.functions) (all_instructions formed.bodies) least (block_part k)) u.blocks 0 0 (omega arith)
      (after_mapped after_unit_block (λ later least k. IsBlockPart (unit_tables u) (own_functions u.functions) (all_instructions formed.bodies) least (block_part k))
      (λ later n k. (n ≤ k.offset) × ((least : ℕ) × IsBlockPart (unit_tables u) (own_functions u.functions) (all_instructions formed.bodies) least (block_part k))) 0 u.blocks
      (λ later n k is. (
        leb-true n k.offset (and_parts (nat_le n k.offset) (is_some (begins_at k.offset (all_instructions formed.bodies)))
            (and_parts (nat_le n k.offset && is_some (begins_at k.offset (all_instructions formed.bodies))) (not (function_begins k.offset (own_functions u.functions))) is.condition_24).0).0,
        (n, is),
      )) formed.blocks)

  -- and the marks
  own_marks : EachAfter (λ (n : ℕ) (m : UnitMark). m.offset + 1)
      (λ later n m. (n ≤ m.offset) × ((least : ℕ) × IsUnitMark (unit_tables u) (length u.functions) (length u.arrays) (all_instructions formed.bodies) least m) × (is_in (body t u start f) m.offset ≡ true)) 0 (marks_in (body t u start f))
  unfolding mark_fits
  own_marks = rising_kept (λ (m : UnitMark). m.offset) (λ (m : UnitMark). is_in (body t u start f) m.offset)
      (λ (m : UnitMark). (least : ℕ) × IsUnitMark (unit_tables u) (length u.functions) (length u.arrays) (all_instructions formed.bodies) least m) u.marks 0 0 (omega arith)
      (after_mapped after_unit_mark (λ later least m. IsUnitMark (unit_tables u) (length u.functions) (length u.arrays) (all_instructions formed.bodies) least m)
      (λ later n m. (n ≤ m.offset) × ((least : ℕ) × IsUnitMark (unit_tables u) (length u.functions) (length u.arrays) (all_instructions formed.bodies) least m)) 0 u.marks
      (λ later n m is. (leb-true n m.offset (and_parts (nat_le n m.offset) (is_some (marked_number_at m.offset (all_instructions formed.bodies))) is.condition_26).0, (n, is))) formed.marks)

  -- each fix-up of the function is at one of its holes
  own_fixups : Each (λ (x : FixUp). hole_at (x.offset - start) o.mine ≡ true) (fixups_in (body t u start f))
  own_fixups = each_in (λ (x : FixUp). hole_at (x.offset - start) o.mine ≡ true) (fixups_in (body t u start f)) (λ x i.
      let kept = from_filter (λ (y : FixUp). is_in (body t u start f) y.offset) x u.fixups i in
      let k = get_in u.fixups x kept.0 in
      let is = at_place after_fixup (λ later least y. IsFixUp (unit_tables u) (length u.functions) (length u.arrays) (length u.statics) (all_instructions formed.bodies) least y) 0 u.fixups formed.fixups k.0 x k.1 in
      fixup_stays x is.1 kept.1 is.2.offset_30)

  -- the function in the image
  pub body_linked : (units : List UnitParts) → In u units → 0 < f.length → (begin : ℕ) → (qs : List Spelled) × BodyLinked units t places begin (body t u start f) qs
  unfolding unit_mark_fits
  body_linked units h some begin =
      let b = body t u start f in
      let raw : take f.length (drop start u.code) ≡ code_bytes o.mine = ap (λ c. take f.length (drop start c)) formed.code ∙ own_bytes (all_instructions formed.bodies) (own_functions u.functions) start f.length o in
      let holes = filled_code laws t places b o.mine begin (fixups_in b) o.mine (refills_itself o.mine (body_spelled f.length o.mine o.body)) own_fixups in
      let done = marks_code laws t places b o.mine (marks_in b) 0 holes.0 holes.1
      (after_mapped (λ (n : ℕ) (m : UnitMark). m.offset + 1)
      (λ later n m. (n ≤ m.offset) × ((least : ℕ) × IsUnitMark (unit_tables u) (length u.functions) (length u.arrays) (all_instructions formed.bodies) least m) × (is_in b m.offset ≡ true))
      (λ later n m. (n ≤ m.offset) × MarkFits laws t places b o.mine m) 0 (marks_in b) (λ later n m is. (is.0, mark_stays m is.1.0 is.2 is.1.1)) own_marks) in
      let d = done.1 in (
        done.0,
        record {
          unit = h;
          body = refills_body f.length o.mine done.0 d.refills o.body;
          some = some;
          code = ap (λ c. marked_code t places b (marks_in b) (holes_filled t places begin b (fixups_in b) c)) raw ∙ ap (marked_code t places b (marks_in b)) holes.2 ∙ d.bytes;
          blocks = after_mapped (λ (n : ℕ) (k : UnitBlock). k.offset + 1)
              (λ later n k. (n ≤ k.offset) × ((least : ℕ) × IsBlockPart (unit_tables u) (own_functions u.functions) (all_instructions formed.bodies) least (block_part k)) × (is_in b k.offset ≡ true))
              (λ later n k. (n ≤ k.offset) × (is_in b k.offset ≡ true) × BlockFits b done.0 k) 0 (blocks_in b) (λ later n k is. (is.0, is.2, block_stays k is.1.0 done.0 is.2 is.1.1 d.refills)) own_blocks;
          marks = after_mapped (λ (n : ℕ) (m : UnitMark). m.offset + 1)
              (λ later n m. ((n ≤ m.offset) × ((least : ℕ) × IsUnitMark (unit_tables u) (length u.functions) (length u.arrays) (all_instructions formed.bodies) least m) × (is_in b m.offset ≡ true))
              × (marked_number_at (m.offset - start) done.0 ≡ Some (marked_word places m.tag (marked_index t u m) % 2 ^ 32)))
              (λ later n m. (n ≤ m.offset) × (is_in b m.offset ≡ true) × MarkSays t places b done.0 m) 0 (marks_in b)
              (λ later n m is. (
                is.0.0,
                is.0.2,
                record {
                  number = is.1;
                  row = ltb-true m.index (marked_rows (unit_tables u) (length u.functions) (length u.arrays) m.tag)
                      (and_parts (nat_lt m.index (marked_rows (unit_tables u) (length u.functions) (length u.arrays) m.tag)) (same_number (Some 0) (marked_number_at m.offset (all_instructions formed.bodies)))
                      (and_parts (nat_lt m.index (marked_rows (unit_tables u) (length u.functions) (length u.arrays) m.tag) && same_number (Some 0) (marked_number_at m.offset (all_instructions formed.bodies)))
                      (is_null_tag m.tag || wide_at m.offset (all_instructions formed.bodies)) is.0.1.1.condition_27).0).0;
                  tag_word = is.0.1.1.tag_word;
                },
              ))
              (after_with (λ (n : ℕ) (m : UnitMark). m.offset + 1)
              (λ later n m. (n ≤ m.offset) × ((least : ℕ) × IsUnitMark (unit_tables u) (length u.functions) (length u.arrays) (all_instructions formed.bodies) least m) × (is_in b m.offset ≡ true))
              (λ (m : UnitMark). marked_number_at (m.offset - start) done.0 ≡ Some (marked_word places m.tag (marked_index t u m) % 2 ^ 32)) 0 (marks_in b) own_marks d.marks);
        },
      )

-- each function of the image
pub function_linked : CodeLaws → (t : TableNames) (places : Places) (units : List UnitParts) (u : UnitParts) → In u units → UnitFormed u → (i : ℕ) (f : UnitFun) → slice_get u.functions i ≡ Some f → f.ext ≡ false
    → (begin : ℕ) → (qs : List Spelled) × BodyLinked units t places begin (body t u (body_start u.functions i) f) qs
function_linked laws t places units u h formed i f there own begin =
    let function_is : (g : UnitFun) → In g u.functions → (later : ℕ) × (left : ℕ) × IsUnitFun (length u.names) (unit_tables u) later left g =
    λ g k. let j = get_in u.functions g k in at_place after_unit_fun (λ later left x. IsUnitFun (length u.names) (unit_tables u) later left x) (length u.code) u.functions formed.functions j.0 g j.1 in
    let long : (g : UnitFun) → In g u.functions → g.ext ≡ false → 0 < g.length = λ g k mine. let is = function_is g k in own_long is.0 is.1 g.length g.ext is.2.condition_13 mine in
    let o = own_body u.functions formed.bodies formed.condition_23 (λ g k ext. let is = function_is g k in extern_short is.0 is.1 g.length g.ext is.2.condition_13 ext) long i f there own in
    body_linked laws t places u formed f (body_start u.functions i) o units h (long f (in_get u.functions i f there) own) begin
