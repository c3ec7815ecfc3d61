-- A function leads on the code of those before it.
use Rattle.std.proofs.Common.{◌≡◌, ℕ, ◌+◌, ◌-◌, ◌<◌, ◌≤◌, Bool, true, false, not, ◌&&◌, ◌||◌, List, [], ◌∷◌, ◌++◌, length, Option, Some, None, is_some, Ok, refl, sym, ap, ◌∙◌, arith}
use Rattle.std.specs.Prelude.{nat_lt, nat_le}
use Rattle.std.specs.Option.{option_map_or}
use Rattle.std.proofs.lemmas.List.{length-append}
use Rattle.ia32_code.specs.declared.instruction.Inst.{Inst}
use Rattle.file_fields.specs.Grammar.{between}
use Rattle.file_fields.specs.Parts.{Each, EachAfter}
use Rattle.tal_image.specs.declared.parts.FunctionPart.{FunctionPart}
use Rattle.tal_image.specs.Conditions.{Spelled, most_code, where_given, code_fits, begins_at, function_begins, block_fits, marked_number, marked_number_at, mark_fits, same_number}
use Rattle.tal_image.specs.Fields.{all_instructions, code_bytes}
use Rattle.tal_image.specs.Formed.{IsBlockPart}
use Rattle.tal_syntax.specs.declared.module.TextLine.{TextLine}
use Rattle.tal_names.specs.Declarations.{Names}
use Rattle.unit_files.specs.declared.parts.UnitBlock.{UnitBlock}
use Rattle.unit_files.specs.declared.parts.UnitMark.{UnitMark}
use Rattle.unit_files.specs.declared.parts.FixUp.{FixUp}
use Rattle.unit_files.specs.Unit.{block_part}
use Rattle.unit_files.specs.Conditions.{hole_at, wide_at, marked_rows, is_null_tag, unit_mark_fits, fixup_fits}
use Rattle.unit_files.specs.Formed.{IsUnitMark, IsFixUp}
use Rattle.tal_code.specs.Labels.{no_labels, labels_of}
use Rattle.tal_code.specs.Functions.{UnitCodeView, function_code}
use Rattle.tal_code.specs.Formed.{tables_named, NumbersFit, CodeFormed, LeadsOn}
use Rattle.tal_code.proofs.Rooms.{three}
use Rattle.tal_code.proofs.Rising.{Rises, joined, as_rows, of_rows}
use Rattle.tal_code.proofs.Places.{begins_more, hole_more, wide_more, begins_within, hole_within, all_bytes, begins_before, begins_no_more}
use Rattle.tal_code.proofs.Bodies.{each_some, as_body, bytes_joined, bodies_bytes, one_more, all_more}
use Rattle.tal_code.proofs.Reach.{lines_in_reach}
use Rattle.tal_code.proofs.Added.{SpellingLaws, MarkIs, FixUpIs, least}
use Rattle.tal_code.proofs.LinesAdd.{BlockIs, Room, LinesAdd, lines_add}

-- ---- limits

most_of : (high n : ℕ) → between 0 high n ≡ true → n ≤ high
most_of high n e = grind arith

within_most : (high n : ℕ) → n ≤ high → between 0 high n ≡ true
within_most high n le = grind (arith, le)

code_most : (n : ℕ) → where_given true code_fits n ≡ true → n ≤ most_code
code_most n e = grind arith

code_within : (n : ℕ) → n ≤ most_code → where_given true code_fits n ≡ true
code_within n le = grind (arith, le)

-- Code of a unit is within its limits.
room_of : (m : Names) (own : List FunctionPart) (u : UnitCodeView) → CodeFormed m own u → Room u
room_of m own u f = (code_most _ f.condition_9, most_of _ _ f.condition_10, most_of _ _ f.condition_11, most_of _ _ f.fixups_30)

-- ---- what stands before a function stays as it is

-- a test of two, and of three
two : (a b : Bool) → (a && b) ≡ true → (a ≡ true) × (b ≡ true)
two true true e = (refl, refl)
two true false e = cc
two false b e = cc

is_le : (a b : ℕ) → nat_le a b ≡ true → a ≤ b
is_le a b e = grind arith

le_is : (a b : ℕ) → a ≤ b → nat_le a b ≡ true
le_is a b le = grind (arith, le)

begun : (offset : ℕ) (code : List Spelled) → is_some (marked_number_at offset code) ≡ true → is_some (begins_at offset code) ≡ true
unfolding marked_number_at
begun offset code e = by_inst (begins_at offset code) e
  where
    by_inst : (o : Option Inst) → is_some (option_map_or marked_number o None) ≡ true → is_some o ≡ true
    by_inst None e = cc
    by_inst (Some i) e = refl

-- A block before the function.
block_stays : (m : Names) (own : List FunctionPart) (f : FunctionPart) (before body : List Spelled) (start : ℕ) → Each (λ (s : Spelled). 0 < length s.text) before
    → length (code_bytes before) ≡ start → all_bytes own ≡ start → (least : ℕ) (b : UnitBlock)
    → IsBlockPart (tables_named m) own before least (block_part b) → (least ≤ b.offset) × (b.offset < start) × BlockIs m (own ++ f ∷ []) (before ++ body) b
unfolding block_fits
block_stays m own f before body start some long bytes low b is =
    let t = three (nat_le low b.offset) (is_some (begins_at b.offset before)) (not (function_begins b.offset own)) is.condition_24 in
    let lt = begins_within b.offset before some t.1 in
    let begins : is_some (begins_at b.offset (before ++ body)) ≡ true = ap is_some (begins_more b.offset before body t.1) ∙ t.1 in
    let same : function_begins b.offset (own ++ f ∷ []) ≡ function_begins b.offset own = begins_before b.offset own f (omega (arith, lt, long, bytes)) in (
      is_le low b.offset t.0,
      omega (arith, lt, long),
      record {
        offset_word = is.offset_word;
        condition_24 = rw (least b.offset, begins, same, t.2) refl;
        seven = is.seven;
        types = is.types;
        slots_word = is.slots_word;
        condition_25 = is.condition_25;
        slots = is.slots;
      },
    )

block_row : (m : Names) (functions : List FunctionPart) (code : List Spelled) (low : ℕ) (b : UnitBlock) → low ≤ b.offset → BlockIs m functions code b → IsBlockPart (tables_named m) functions code low (block_part b)
unfolding block_fits
block_row m functions code low b le is =
    let t = three (nat_le 0 b.offset) (is_some (begins_at b.offset code)) (not (function_begins b.offset functions)) is.condition_24 in
    record {
      offset_word = is.offset_word;
      condition_24 = rw (le_is low b.offset le, t.1, t.2) refl;
      seven = is.seven;
      types = is.types;
      slots_word = is.slots_word;
      condition_25 = is.condition_25;
      slots = is.slots;
    }

same_number_there : (offset : ℕ) (code more : List Spelled) → is_some (begins_at offset code) ≡ true → marked_number_at offset (code ++ more) ≡ marked_number_at offset code
unfolding marked_number_at
same_number_there offset code more begins = ap (λ o. option_map_or marked_number o None) (begins_more offset code more begins)

-- A mark before the function.
mark_stays : (m : Names) (before body : List Spelled) (start : ℕ) → Each (λ (s : Spelled). 0 < length s.text) before
    → length (code_bytes before) ≡ start → (low : ℕ) (x : UnitMark)
    → IsUnitMark (tables_named m) (length m.functions) (length m.arrays) before low x → (low ≤ x.offset) × (x.offset < start) × MarkIs m (before ++ body) x
unfolding mark_fits unit_mark_fits
mark_stays m before body start some long low x is =
    let t = two (nat_le low x.offset) (is_some (marked_number_at x.offset before)) is.condition_26 in
    let begins = begun x.offset before t.1 in
    let lt = begins_within x.offset before some begins in
    let same : marked_number_at x.offset (before ++ body) ≡ marked_number_at x.offset before = same_number_there x.offset before body begins in
    let k = three (nat_lt x.index (marked_rows (tables_named m) (length m.functions) (length m.arrays) x.tag)) (same_number (Some 0) (marked_number_at x.offset before)) (is_null_tag x.tag || wide_at x.offset before) is.condition_27 in (
      is_le low x.offset t.0,
      omega (arith, lt, long),
      record {
        offset_word = is.offset_word;
        condition_26 = rw (least x.offset, same, t.1) refl;
        tag_word = is.tag_word;
        index_word = is.index_word;
        condition_27 = rw (same, k.0, k.1) (wide (is_null_tag x.tag) (wide_at x.offset before) (wide_at x.offset (before ++ body)) (wide_more x.offset before body) k.2);
      },
    )
  where
    wide : (a b c : Bool) → (b ≡ true → c ≡ true) → (a || b) ≡ true → (a || c) ≡ true
    wide true b c f e = refl
    wide false b c f e = f e

mark_row : (m : Names) (code : List Spelled) (low : ℕ) (x : UnitMark) → low ≤ x.offset → MarkIs m code x → IsUnitMark (tables_named m) (length m.functions) (length m.arrays) code low x
unfolding mark_fits
mark_row m code low x le is =
    let t = two (nat_le 0 x.offset) (is_some (marked_number_at x.offset code)) is.condition_26 in
    record {
      offset_word = is.offset_word;
      condition_26 = rw (le_is low x.offset le, t.1) refl;
      tag_word = is.tag_word;
      index_word = is.index_word;
      condition_27 = is.condition_27;
    }

-- A fix-up before the function.
fixup_stays : (m : Names) (before body : List Spelled) (start : ℕ) → length (code_bytes before) ≡ start → (low : ℕ) (f : FixUp)
    → IsFixUp (tables_named m) (length m.functions) (length m.arrays) (length m.statics) before low f → (low ≤ f.offset) × (f.offset < start) × FixUpIs m (before ++ body) f
unfolding fixup_fits
fixup_stays m before body start long low f is =
    let t = two (nat_le low f.offset) (hole_at f.offset before) is.offset_30 in
    let lt = hole_within f.offset before t.1 in (
      is_le low f.offset t.0,
      omega (arith, lt, long),
      record {
        offset_word = is.offset_word;
        offset_30 = rw (least f.offset, hole_more f.offset before body t.1) refl;
        kind_word = is.kind_word;
        kind_30 = is.kind_30;
        index_word = is.index_word;
        index_30 = is.index_30;
      },
    )

fixup_row : (m : Names) (code : List Spelled) (low : ℕ) (f : FixUp) → low ≤ f.offset → FixUpIs m code f → IsFixUp (tables_named m) (length m.functions) (length m.arrays) (length m.statics) code low f
unfolding fixup_fits
fixup_row m code low f le is =
    let t = two (nat_le 0 f.offset) (hole_at f.offset code) is.offset_30 in
    record {
      offset_word = is.offset_word;
      offset_30 = rw (le_is low f.offset le, t.1) refl;
      kind_word = is.kind_word;
      kind_30 = is.kind_30;
      index_word = is.index_word;
      index_30 = is.index_30;
    }

-- ---- a function

-- what the lines of a function add to the code before it
added : (m : Names) (own : List FunctionPart) (f : FunctionPart) (u d : UnitCodeView) (lines : List TextLine) → SpellingLaws → NumbersFit m → (c : CodeFormed m own u) → function_code m u lines ≡ Ok d
    → LinesAdd m (own ++ f ∷ []) (all_instructions c.bodies) u d lines
unfolding function_code
added m own f u d lines laws fit c e =
    let b = bodies_bytes own c.bodies (λ s spells. (laws.short s.text s.means spells).0) c.condition_23 in
    let long : length u.code ≡ length (code_bytes (all_instructions c.bodies)) = ap length c.code in
    let all = b.0 in
    let room = room_of m own u c in
    let le = room.0 in
    lines_add m (labels_of m (length u.code) lines) u u d (own ++ f ∷ []) lines (all_instructions c.bodies) laws fit
    (lines_in_reach m no_labels (length u.code) lines laws.spells laws.short tt (omega (arith, le)))
    (λ offset lt. begins_no_more offset own f (omega (arith, lt, long, all)))
    (each_some (all_instructions c.bodies) b.1) long room e

-- Rows are the same rows of the same code.
same_rows : {X : Type 0} (at : X → ℕ) (Row : List Spelled → ℕ → X → Type 0) (code other : List Spelled) (xs ys : List X) → other ≡ code → ys ≡ xs
    → EachAfter (λ low x. at x + 1) (λ later low x. Row code low x) 0 xs → EachAfter (λ low x. at x + 1) (λ later low x. Row other low x) 0 ys
same_rows at Row code other xs ys same is rows = rw (same, is) rows

-- A function more leads on the code.
pub leads_on : (m : Names) (own : List FunctionPart) (sig : ℕ) (u d : UnitCodeView) (lines : List TextLine) → SpellingLaws → LeadsOn m own sig u lines d
leads_on m own sig u d lines laws fit c e =
    let f : FunctionPart = record { length = length d.code - length u.code; sig = sig } in
    let a = added m own f u d lines laws fit c e in
    let code = all_instructions c.bodies in
    let b = bodies_bytes own c.bodies (λ s spells. (laws.short s.text s.means spells).0) c.condition_23 in
    let some = each_some code b.1 in
    let all : all_bytes own ≡ length u.code = sym b.0 ∙ sym (ap length c.code) in
    let bytes : length (code_bytes code) ≡ length u.code = sym (ap length c.code) in
    let more : length d.code ≡ length u.code + length (code_bytes a.body) = ap length a.code ∙ length-append u.code (code_bytes a.body) in
    let own_more = own ++ f ∷ [] in
    let is : all_instructions (c.bodies ++ a.body ∷ []) ≡ code ++ a.body = all_more c.bodies a.body in
    let blocks : Rises (λ (b : UnitBlock). b.offset) (BlockIs m own_more (code ++ a.body)) 0 (length d.code) (u.blocks ++ a.new_blocks) =
    joined _ _ 0 (length u.code) (length d.code) u.blocks a.new_blocks
    (of_rows (λ (b : UnitBlock). b.offset) (BlockIs m own_more (code ++ a.body)) (λ low b. IsBlockPart (tables_named m) own code low (block_part b)) 0 (length u.code) u.blocks
    (block_stays m own f code a.body (length u.code) some bytes all) (omega arith) c.blocks) a.blocks_rise in
    let marks : Rises (λ (x : UnitMark). x.offset) (MarkIs m (code ++ a.body)) 0 (length d.code) (u.marks ++ a.new_marks) =
    joined _ _ 0 (length u.code) (length d.code) u.marks a.new_marks
    (of_rows (λ (x : UnitMark). x.offset) (MarkIs m (code ++ a.body)) (λ low x. IsUnitMark (tables_named m) (length m.functions) (length m.arrays) code low x) 0 (length u.code) u.marks
    (mark_stays m code a.body (length u.code) some bytes) (omega arith) c.marks) a.marks_rise in
    let fixups : Rises (λ (x : FixUp). x.offset) (FixUpIs m (code ++ a.body)) 0 (length d.code) (u.fixups ++ a.new_fixups) =
    joined _ _ 0 (length u.code) (length d.code) u.fixups a.new_fixups
    (of_rows (λ (x : FixUp). x.offset) (FixUpIs m (code ++ a.body)) (λ low x. IsFixUp (tables_named m) (length m.functions) (length m.arrays) (length m.statics) code low x) 0 (length u.code) u.fixups
    (fixup_stays m code a.body (length u.code) bytes) (omega arith) c.fixups) a.fixups_rise in
    record {
      condition_9 = code_within (length d.code) a.room.0;
      condition_10 = within_most _ (length d.blocks) a.room.1;
      condition_11 = within_most _ (length d.marks) a.room.2;
      fixups_30 = within_most _ (length d.fixups) a.room.3;
      bodies = c.bodies ++ a.body ∷ [];
      condition_23 = one_more own c.bodies f a.body c.condition_23 (as_body a.body (length d.code - length u.code) a.spelled (omega (arith, more)));
      code = a.code ∙ ap (λ x. x ++ code_bytes a.body) c.code ∙ sym (bytes_joined code a.body) ∙ ap code_bytes (sym is);
      blocks = same_rows (λ (b : UnitBlock). b.offset) (λ code low b. IsBlockPart (tables_named m) own_more code low (block_part b)) (code ++ a.body) _ _ d.blocks is a.blocks
          (as_rows _ _ (λ low b. IsBlockPart (tables_named m) own_more (code ++ a.body) low (block_part b)) 0 (length d.code) (u.blocks ++ a.new_blocks) (block_row m own_more (code ++ a.body)) blocks);
      marks = same_rows (λ (x : UnitMark). x.offset) (λ code low x. IsUnitMark (tables_named m) (length m.functions) (length m.arrays) code low x) (code ++ a.body) _ _ d.marks is a.marks
          (as_rows _ _ (λ low x. IsUnitMark (tables_named m) (length m.functions) (length m.arrays) (code ++ a.body) low x) 0 (length d.code) (u.marks ++ a.new_marks) (mark_row m (code ++ a.body)) marks);
      fixups = same_rows (λ (x : FixUp). x.offset) (λ code low x. IsFixUp (tables_named m) (length m.functions) (length m.arrays) (length m.statics) code low x) (code ++ a.body) _ _ d.fixups is a.fixups
          (as_rows _ _ (λ low x. IsFixUp (tables_named m) (length m.functions) (length m.arrays) (length m.statics) (code ++ a.body) low x) 0 (length d.code) (u.fixups ++ a.new_fixups) (fixup_row m (code ++ a.body)) fixups);
    }
