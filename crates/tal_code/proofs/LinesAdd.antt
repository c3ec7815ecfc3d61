-- What a function's lines add to the code.
use Rattle.std.proofs.Common.{◌≡◌, ℕ, ◌+◌, ◌<◌, ◌≤◌, Bool, true, false, not, ◌&&◌, ◌||◌, List, [], ◌∷◌, ◌++◌, length, Option, Some, None, is_some, Result, Ok, Err, if◌then◌else◌, refl, sym, ap, subst, ◌∙◌, arith}
use Rattle.std.specs.Prelude.{nat_lt, nat_le, ◌==◌}
use Rattle.std.specs.Option.{option_map, option_map_or, unwrap_or}
use Rattle.std.proofs.lemmas.List.{length-append, append-nil, append_assoc, length-map}
use Rattle.ia32_code.specs.declared.instruction.Reg.{Reg}
use Rattle.ia32_code.specs.OperandForms.{number}
use Rattle.code_words.specs.declared.words.Mnemonic.{Mnemonic}
use Rattle.file_fields.specs.Parts.{Each}
use Rattle.tal_types.specs.declared.types.Ty.{Ty}
use Rattle.tal_types.specs.declared.types.Ty.TheVariants as ty
use Rattle.tal_image.specs.declared.parts.FunctionPart.{FunctionPart}
use Rattle.tal_image.specs.Image.{type_tag, type_index}
use Rattle.tal_image.specs.Conditions.{Spelled, most_code, begins_at, function_begins, block_fits, slots_fit, type_fits}
use Rattle.tal_image.specs.Fields.{code_bytes}
use Rattle.tal_image.specs.Formed.{IsType, IsBlockPart}
use Rattle.tal_syntax.specs.declared.form.Arg.{Arg}
use Rattle.tal_syntax.specs.declared.form.Form.{Form}
use Rattle.tal_syntax.specs.declared.form.Form.TheVariants as form
use Rattle.tal_syntax.specs.declared.form.RegType.{RegType}
use Rattle.tal_syntax.specs.declared.form.TypeText.{TypeText}
use Rattle.tal_syntax.specs.declared.form.TypeText.TheVariants as type
use Rattle.tal_syntax.specs.declared.module.TextLine.{TextLine}
use Rattle.tal_names.specs.Declarations.{Names}
use Rattle.tal_names.specs.NameSets.{number_of_name}
use Rattle.tal_names.specs.LookUps.{type_of}
use Rattle.tal_rows.specs.Lines.{all_known, slots_given, slots_known, repeats, type_in, types_in, label_line}
use Rattle.unit_files.specs.declared.parts.UnitBlock.{UnitBlock}
use Rattle.unit_files.specs.declared.parts.UnitMark.{UnitMark}
use Rattle.unit_files.specs.declared.parts.FixUp.{FixUp}
use Rattle.unit_files.specs.Unit.{block_part}
use Rattle.asm_faults.specs.declared.AsmFault.{AsmFault}
use Rattle.tal_code.specs.Labels.{LabelsView, distance_at}
use Rattle.tal_code.specs.Functions.{UnitCodeView, most_blocks, most_marks, most_fixups, inst_line, begins_with_inst, is_placed, slot_types, with_block, block_line, code_line, on_line, with_lines}
use Rattle.tal_code.specs.Formed.{tables_named, NumbersFit}
use Rattle.tal_code.proofs.Spellings.{some_is_one}
use Rattle.tal_code.proofs.Rooms.{passed}
use Rattle.tal_code.proofs.Rising.{Rises, lower, joined}
use Rattle.tal_code.proofs.Places.{begins_here}
use Rattle.tal_code.proofs.Bodies.{IsSpelled, bytes_joined}
use Rattle.tal_code.proofs.Shapes.{below, is_below, small}
use Rattle.tal_code.proofs.Reach.{InReach, distance_in_range}
use Rattle.tal_code.proofs.Added.{SpellingLaws, MarkIs, FixUpIs, Added, inst_adds, least}

-- ---- types

-- A type with the number of a name is one.
type_for : (m : Names) (names : List (List ℕ)) (n : List ℕ) (f : ℕ → Ty) (found : Ty) → ((i : ℕ) → i < length names → IsType (tables_named m) (f i))
    → option_map f (number_of_name names n) ≡ Some found → IsType (tables_named m) found
type_for m names n f found is e = by_number (number_of_name names n) refl e
  where
    by_number : (o : Option ℕ) → number_of_name names n ≡ o → option_map f o ≡ Some found → IsType (tables_named m) found
    by_number None at e = cc
    by_number (Some i) at e = subst (IsType (tables_named m)) (some_is_one (f i) found e) (is i (below names n i at))

-- Junk is a type.
junk_is : (m : Names) → IsType (tables_named m) ty.Junk
unfolding type_fits type_tag type_index
junk_is m = record { word = omega arith; condition_12 = refl }

-- What a type's text stands for is a type of the tables.
type_is : (m : Names) (t : TypeText) (found : Ty) → NumbersFit m → type_of m t ≡ Some found → IsType (tables_named m) found
unfolding type_of type_fits type_tag type_index
type_is m type.Num found fit e = subst (IsType (tables_named m)) (some_is_one ty.Num found e) (record { word = omega arith; condition_12 = refl })
type_is m type.Junk found fit e = subst (IsType (tables_named m)) (some_is_one ty.Junk found e) (junk_is m)
type_is m (type.Ref n) found fit e = type_for m m.classes n ty.Ref found (λ i lt. record { word = small i _ lt fit.classes; condition_12 = is_below i _ lt }) e
type_is m (type.Obj n) found fit e = type_for m m.classes n ty.Obj found (λ i lt. record { word = small i _ lt fit.classes; condition_12 = is_below i _ lt }) e
type_is m (type.ArrRef n) found fit e = type_for m m.kinds n ty.ArrRef found (λ i lt. record { word = small i _ lt fit.kinds; condition_12 = is_below i _ lt }) e
type_is m (type.Arr n) found fit e = type_for m m.kinds n ty.Arr found (λ i lt. record { word = small i _ lt fit.kinds; condition_12 = is_below i _ lt }) e
type_is m (type.Fun n) found fit e = type_for m m.sigs n ty.Fun found (λ i lt. record { word = small i _ lt fit.sigs; condition_12 = is_below i _ lt }) e
type_is m (type.Code n) found fit e = type_for m m.sigs n ty.Code found (λ i lt. record { word = small i _ lt fit.sigs; condition_12 = is_below i _ lt }) e
type_is m (type.Tab n) found fit e = type_for m m.classes n ty.Tab found (λ i lt. record { word = small i _ lt fit.classes; condition_12 = is_below i _ lt }) e
type_is m (type.Desc n) found fit e = type_for m m.kinds n ty.Desc found (λ i lt. record { word = small i _ lt fit.kinds; condition_12 = is_below i _ lt }) e

-- And so is junk, which stands where nothing is found.
found_type : (m : Names) (t : TypeText) → NumbersFit m → IsType (tables_named m) (unwrap_or (type_of m t) ty.Junk)
found_type m t fit = by_type (type_of m t) refl
  where
    by_type : (o : Option Ty) → type_of m t ≡ o → IsType (tables_named m) (unwrap_or o ty.Junk)
    by_type None e = junk_is m
    by_type (Some found) e = type_is m t found fit e

reg_type : (m : Names) (rs : List RegType) (r : Reg) → NumbersFit m → IsType (tables_named m) (type_in m rs r)
unfolding type_in
reg_type m [] r fit = junk_is m
reg_type m (x ∷ rs) r fit = by_reg (number x.reg == number r) (reg_type m rs r fit)
  where
    by_reg : (b : Bool) → IsType (tables_named m) (type_in m rs r) → IsType (tables_named m) (if b then unwrap_or (type_of m x.ty) ty.Junk else type_in m rs r)
    by_reg true rest = found_type m x.ty fit
    by_reg false rest = rest

slots_are : (m : Names) (ts : List TypeText) → NumbersFit m → Each (IsType (tables_named m)) (slot_types m ts)
slots_are m [] fit = tt
slots_are m (t ∷ ts) fit = (found_type m t fit, slots_are m ts fit)

-- ---- a label

-- a block of the code
abbrev pub BlockIs : Names → List FunctionPart → List Spelled → UnitBlock → Type 0
BlockIs m functions code b = IsBlockPart (tables_named m) functions code 0 (block_part b)

-- what a label without a fault has
pub record LabelKept (m : Names) (rs : List RegType) (slots : Option (List TypeText)) (placed : Bool) (blocks : ℕ) (regs : List Ty) : Type 0 where
  pub placed_is : placed ≡ true
  pub few : length (slots_given slots) ≤ 64
  pub room : blocks + 1 ≤ most_blocks
  pub regs_are : regs ≡ types_in m rs

not_true : (b : Bool) → not b ≡ false → b ≡ true
not_true true e = refl
not_true false e = cc

neither : (a b : Bool) → (a || b) ≡ false → (a ≡ false) × (b ≡ false)
neither true b e = cc
neither false b e = (refl, e)

label_keeps : (m : Names) (rs : List RegType) (slots : Option (List TypeText)) (placed : Bool) (blocks : ℕ) (regs : List Ty) → label_line m rs slots placed blocks ≡ Ok regs → LabelKept m rs slots placed blocks regs
unfolding label_line
label_keeps m rs slots placed blocks regs e =
    let a = passed (not (all_known m rs)) 11 _ regs e in
    let b = passed (not (slots_known m (slots_given slots))) 11 _ regs a.1 in
    let c = passed (repeats [] rs) 12 _ regs b.1 in
    let d = passed (not placed) 15 _ regs c.1 in
    let f = passed (nat_lt 64 (length (slots_given slots)) || nat_le 65536 blocks) 16 (Ok (types_in m rs)) regs d.1 in
    let g = neither (nat_lt 64 (length (slots_given slots))) (nat_le 65536 blocks) f.0 in
    record {
      placed_is = not_true placed d.0;
      few = at_most (length (slots_given slots)) g.0;
      room = below_most blocks g.1;
      regs_are = ok_is_one _ _ f.1;
    }
  where
    at_most : (n : ℕ) → nat_lt 64 n ≡ false → n ≤ 64
    at_most n e = grind arith

    below_most : (n : ℕ) → nat_le 65536 n ≡ false → n + 1 ≤ 65536
    below_most n e = grind arith

    ok_is_one : (x y : List Ty) → ◌≡◌ {A = Result (List Ty) ℕ} (Ok x) (Ok y) → y ≡ x
    ok_is_one x y e = cc

-- The block of a label.
block_is : (m : Names) (functions : List FunctionPart) (code : List Spelled) (offset : ℕ) (rs : List RegType) (ts : List TypeText) → NumbersFit m → offset ≤ most_code → length ts ≤ 64
    → is_some (begins_at offset code) ≡ true → function_begins offset functions ≡ false
    → BlockIs m functions code (record { offset = offset; regs = types_in m rs; slots = slot_types m ts })
unfolding block_fits
block_is m functions code offset rs ts fit le few begins first =
    let n : length (slot_types m ts) ≡ length ts = length-map ts (λ t. unwrap_or (type_of m t) ty.Junk) in
    record {
      offset_word = omega (arith, le);
      condition_24 = rw (least offset, begins, first) refl;
      seven = refl;
      types = (reg_type m rs _ fit, (reg_type m rs _ fit, (reg_type m rs _ fit, (reg_type m rs _ fit, (reg_type m rs _ fit, (reg_type m rs _ fit, (reg_type m rs _ fit, tt)))))));
      slots_word = omega (arith, n, few);
      condition_25 = few_slots (length (slot_types m ts)) (omega (arith, n, few));
      slots = slots_are m ts fit;
    }
  where
    few_slots : (n : ℕ) → n ≤ 64 → slots_fit n ≡ true
    few_slots n le = grind (arith, le)

-- ---- lines

-- the counts are within their limits
abbrev pub Room : UnitCodeView → Type 0
Room u = (length u.code ≤ most_code) × (length u.blocks ≤ most_blocks) × (length u.marks ≤ most_marks) × (length u.fixups ≤ most_fixups)

-- The lines of a function, behind code of these instructions, add more of them, and blocks, marks and fix-ups that lie in those.
pub record LinesAdd (m : Names) (functions : List FunctionPart) (before : List Spelled) (u d : UnitCodeView) (lines : List TextLine) : Type 0 where
  pub body : List Spelled
  pub spelled : Each IsSpelled body
  pub code : d.code ≡ u.code ++ code_bytes body
  pub room : Room d
  pub grows : length u.code ≤ length d.code
  pub new_blocks : List UnitBlock
  pub blocks : d.blocks ≡ u.blocks ++ new_blocks
  pub new_marks : List UnitMark
  pub marks : d.marks ≡ u.marks ++ new_marks
  pub new_fixups : List FixUp
  pub fixups : d.fixups ≡ u.fixups ++ new_fixups
  pub blocks_rise : Rises (λ (b : UnitBlock). b.offset) (BlockIs m functions (before ++ body)) (length u.code) (length d.code) new_blocks
  pub marks_rise : Rises (λ (x : UnitMark). x.offset) (MarkIs m (before ++ body)) (length u.code) (length d.code) new_marks
  pub fixups_rise : Rises (λ (f : FixUp). f.offset) (FixUpIs m (before ++ body)) (length u.code) (length d.code) new_fixups
  -- where the first line is an instruction, one begins there, and the blocks are behind it
  pub opens : begins_with_inst lines ≡ true
      → (is_some (begins_at (length u.code) (before ++ body)) ≡ true) × Rises (λ (b : UnitBlock). b.offset) (BlockIs m functions (before ++ body)) (length u.code + 1) (length d.code) new_blocks

-- No line adds nothing.
pub nothing_added : (m : Names) (functions : List FunctionPart) (before : List Spelled) (u d : UnitCodeView) (lines : List TextLine) → Room u → u ≡ d → begins_with_inst lines ≡ false
    → LinesAdd m functions before u d lines
nothing_added m functions before u d lines room same first = subst (λ d. LinesAdd m functions before u d lines) same (record {
  body = [];
  spelled = tt;
  code = sym (append-nil u.code);
  room = room;
  grows = omega arith;
  new_blocks = [];
  blocks = sym (append-nil u.blocks);
  new_marks = [];
  marks = sym (append-nil u.marks);
  new_fixups = [];
  fixups = sym (append-nil u.fixups);
  blocks_rise = omega arith;
  marks_rise = omega arith;
  fixups_rise = omega arith;
  opens = λ some. absurd (not_both (begins_with_inst lines) some first);
})
  where
    not_both : (b : Bool) → b ≡ true → b ≡ false → ⊥
    not_both true e f = cc
    not_both false e f = cc

-- Some more behind an instruction.
each_more : {X : Type 0} (Is : X → Type 0) (xs : List X) (x : X) → Each Is xs → Is x → Each Is (xs ++ x ∷ [])
each_more Is [] x all is = (is, tt)
each_more Is (y ∷ xs) x (first, all) is = (first, each_more Is xs x all is)

-- An instruction's line with those behind it.
pub with_inst_before : (m : Names) (functions : List FunctionPart) (before : List Spelled) (u v d : UnitCodeView) (l : TextLine) (more : List TextLine) (mnemonic : Mnemonic) (args : List Arg)
    → l.form ≡ form.Inst mnemonic args → Each (λ (s : Spelled). 0 < length s.text) before → length u.code ≡ length (code_bytes before)
    → (a : Added m u v) → LinesAdd m functions (before ++ a.one ∷ []) v d more → LinesAdd m functions before u d (l ∷ more)
unfolding begins_with_inst
with_inst_before m functions before u v d l more mnemonic args is some at a rest =
    let same : before ++ a.one ∷ rest.body ≡ (before ++ a.one ∷ []) ++ rest.body = sym (append_assoc before (a.one ∷ []) rest.body) in
    let long : length v.code ≡ length u.code + length a.one.text = ap length a.code ∙ length-append u.code a.one.text in
    let up = rest.grows in
    let first = a.is_spelled.0 in
    let marks = a.marks_rise before rest.body some at in
    let fixups = a.fixups_rise before rest.body some at in
    let blocks_up : Rises (λ (b : UnitBlock). b.offset) (BlockIs m functions (before ++ a.one ∷ rest.body)) (length u.code + 1) (length d.code) rest.new_blocks =
    lower (λ (b : UnitBlock). b.offset) (BlockIs m functions (before ++ a.one ∷ rest.body)) (length u.code + 1) (length v.code) (length d.code) rest.new_blocks (omega (arith, long, first))
    (subst (λ code. Rises (λ (b : UnitBlock). b.offset) (BlockIs m functions code) (length v.code) (length d.code) rest.new_blocks) (sym same) rest.blocks_rise) in
    record {
      body = a.one ∷ rest.body;
      spelled = (a.is_spelled, rest.spelled);
      code = rest.code ∙ ap (λ c. c ++ code_bytes rest.body) a.code ∙ append_assoc u.code a.one.text (code_bytes rest.body);
      room = rest.room;
      grows = omega (arith, long, up);
      new_blocks = rest.new_blocks;
      blocks = rest.blocks ∙ ap (λ b. b ++ rest.new_blocks) a.blocks;
      new_marks = a.new_marks ++ rest.new_marks;
      marks = rest.marks ∙ ap (λ x. x ++ rest.new_marks) a.marks ∙ append_assoc u.marks a.new_marks rest.new_marks;
      new_fixups = a.new_fixups ++ rest.new_fixups;
      fixups = rest.fixups ∙ ap (λ x. x ++ rest.new_fixups) a.fixups ∙ append_assoc u.fixups a.new_fixups rest.new_fixups;
      blocks_rise = lower (λ (b : UnitBlock). b.offset) (BlockIs m functions (before ++ a.one ∷ rest.body)) (length u.code) (length u.code + 1) (length d.code) rest.new_blocks (omega arith) blocks_up;
      marks_rise = joined (λ (x : UnitMark). x.offset) (MarkIs m (before ++ a.one ∷ rest.body)) (length u.code) (length v.code) (length d.code) a.new_marks rest.new_marks marks
          (subst (λ code. Rises (λ (x : UnitMark). x.offset) (MarkIs m code) (length v.code) (length d.code) rest.new_marks) (sym same) rest.marks_rise);
      fixups_rise = joined (λ (f : FixUp). f.offset) (FixUpIs m (before ++ a.one ∷ rest.body)) (length u.code) (length v.code) (length d.code) a.new_fixups rest.new_fixups fixups
          (subst (λ code. Rises (λ (f : FixUp). f.offset) (FixUpIs m code) (length v.code) (length d.code) rest.new_fixups) (sym same) rest.fixups_rise);
      opens = λ e. (ap is_some (begins_here before a.one rest.body (length u.code) some (omega (arith, at))), blocks_up);
    }

-- A label's line with those behind it.
pub with_label_before : (m : Names) (functions : List FunctionPart) (before : List Spelled) (u d : UnitCodeView) (l : TextLine) (more : List TextLine) (n : List ℕ) (rs : List RegType) (slots : Option (List TypeText))
    → NumbersFit m → l.form ≡ form.Label n rs slots → length u.code ≤ most_code → length (slots_given slots) ≤ 64 → function_begins (length u.code) functions ≡ false → begins_with_inst more ≡ true
    → LinesAdd m functions before (with_block u (types_in m rs) (slot_types m (slots_given slots))) d more → LinesAdd m functions before u d (l ∷ more)
unfolding begins_with_inst with_block
with_label_before m functions before u d l more n rs slots fit is few short first next rest =
    let o = rest.opens next in
    record {
      body = rest.body;
      spelled = rest.spelled;
      code = rest.code;
      room = rest.room;
      grows = rest.grows;
      new_blocks = record { offset = length u.code; regs = types_in m rs; slots = slot_types m (slots_given slots) } ∷ rest.new_blocks;
      blocks = rest.blocks ∙ append_assoc u.blocks _ rest.new_blocks;
      new_marks = rest.new_marks;
      marks = rest.marks;
      new_fixups = rest.new_fixups;
      fixups = rest.fixups;
      blocks_rise = (omega arith, block_is m functions (before ++ rest.body) (length u.code) rs (slots_given slots) fit few short o.0 first, o.1);
      marks_rise = rest.marks_rise;
      fixups_rise = rest.fixups_rise;
      opens = λ e. absurd (no_inst (subst (λ f. elim f [ form.Inst mnemonic args ↦ true | _ ↦ false ] ≡ true) is e));
    }
  where
    no_inst : false ≡ true → ⊥
    no_inst e = cc

-- What is made is one thing.
pub ok_is_one : (x y : UnitCodeView) → ◌≡◌ {A = Result UnitCodeView AsmFault} (Ok x) (Ok y) → x ≡ y
ok_is_one x y e = cc

-- what the lines behind a line add, to whatever it made
abbrev pub Again : Names → LabelsView → UnitCodeView → UnitCodeView → List FunctionPart → List TextLine → Type 0
Again m ls before d functions more =
    (v : UnitCodeView) (pre : List Spelled) → Each (λ (s : Spelled). 0 < length s.text) pre → length v.code ≡ length (code_bytes pre) → Room v
    → with_lines m ls before v more ≡ Ok d → LinesAdd m functions pre v d more

-- no function begins behind this offset
abbrev pub NoneBegins : ℕ → List FunctionPart → Type 0
NoneBegins start functions = (offset : ℕ) → start < offset → function_begins offset functions ≡ false

-- Where a line was made, those behind it go on.
pub goes_on : (number : ℕ) (r : Result UnitCodeView ℕ) (f : UnitCodeView → Result UnitCodeView AsmFault) (d : UnitCodeView) → on_line number r f ≡ Ok d → (v : UnitCodeView) × (r ≡ Ok v) × (f v ≡ Ok d)
goes_on number (Ok v) f d e = (v, refl, e)
goes_on number (Err code) f d e = cc

-- By an instruction's line.
inst_first : (m : Names) (ls : LabelsView) (before u d : UnitCodeView) (functions : List FunctionPart) (pre : List Spelled) (l : TextLine) (more : List TextLine) (mnemonic : Mnemonic) (args : List Arg)
    → SpellingLaws → NumbersFit m → InReach ls → Each (λ (s : Spelled). 0 < length s.text) pre → length u.code ≡ length (code_bytes pre) → Room u
    → Again m ls before d functions more → l.form ≡ form.Inst mnemonic args
    → on_line l.number (inst_line m u mnemonic args (distance_at m ls (length u.code) mnemonic args)) (λ v. with_lines m ls before v more) ≡ Ok d → LinesAdd m functions pre u d (l ∷ more)
inst_first m ls before u d functions pre l more mnemonic args laws fit reach some at room again is e =
    let le = room.0 in
    let near = distance_in_range m ls (length u.code) mnemonic args laws.spells laws.short reach (omega (arith, le)) in
    let (v, made, rest) = goes_on l.number _ (λ v. with_lines m ls before v more) d e in
    let a = inst_adds m u v mnemonic args (distance_at m ls (length u.code) mnemonic args) laws fit near made in
    let long : length v.code ≡ length (code_bytes (pre ++ a.one ∷ [])) =
    ap length a.code ∙ length-append u.code a.one.text ∙ ap (λ n. n + length a.one.text) at ∙ sym (length-append (code_bytes pre) a.one.text)
    ∙ ap (λ b. length (code_bytes pre ++ b)) (sym (append-nil a.one.text)) ∙ ap length (sym (bytes_joined pre (a.one ∷ []))) in
    with_inst_before m functions pre u v d l more mnemonic args is some at a
    (again v (pre ++ a.one ∷ []) (each_more _ pre a.one some a.is_spelled.0) long
    (a.room.0, subst (λ bs. length bs ≤ most_blocks) (sym a.blocks) room.1, a.room.1, a.room.2) rest)

-- What a label made.
pub block_made : (m : Names) (u v : UnitCodeView) (rs : List RegType) (slots : Option (List TypeText)) (placed : Bool) → block_line m u rs slots placed ≡ Ok v
    → (regs : List Ty) × (label_line m rs slots placed (length u.blocks) ≡ Ok regs) × (v ≡ with_block u regs (slot_types m (slots_given slots)))
unfolding block_line
block_made m u v rs slots placed e = by_label (label_line m rs slots placed (length u.blocks)) refl e
  where
    one : (x y : UnitCodeView) → ◌≡◌ {A = Result UnitCodeView ℕ} (Ok x) (Ok y) → y ≡ x
    one x y e = cc

    by_label : (r : Result (List Ty) ℕ) → label_line m rs slots placed (length u.blocks) ≡ r
        → ◌≡◌ {A = Result UnitCodeView ℕ} (elim r as (λ _. Result UnitCodeView ℕ) [ Err code ↦ Err code | Ok regs ↦ Ok (with_block u regs (slot_types m (slots_given slots))) ]) (Ok v)
        → (regs : List Ty) × (label_line m rs slots placed (length u.blocks) ≡ Ok regs) × (v ≡ with_block u regs (slot_types m (slots_given slots)))
    by_label (Err code) is e = cc
    by_label (Ok regs) is e = (regs, is, one _ v e)

-- Where a label is placed.
placed_at_inst : (ls : LabelsView) (before u : UnitCodeView) (n : List ℕ) (more : List TextLine) → is_placed ls before u n more ≡ true → (length before.code < length u.code) × (begins_with_inst more ≡ true)
unfolding is_placed
placed_at_inst ls before u n more e = by_tests (nat_lt (length before.code) (length u.code)) (begins_with_inst more) _ refl e
  where
    by_tests : (a b c : Bool) → nat_lt (length before.code) (length u.code) ≡ a → (a && b && c) ≡ true → (length before.code < length u.code) × (b ≡ true)
    by_tests true true c less e = (grind arith, refl)
    by_tests true false true less e = cc
    by_tests true false false less e = cc
    by_tests false b c less e = cc

-- By a label's line.
label_first : (m : Names) (ls : LabelsView) (before u d : UnitCodeView) (functions : List FunctionPart) (pre : List Spelled) (l : TextLine) (more : List TextLine) (n : List ℕ) (rs : List RegType) (slots : Option (List TypeText))
    → NumbersFit m → NoneBegins (length before.code) functions → Each (λ (s : Spelled). 0 < length s.text) pre → length u.code ≡ length (code_bytes pre) → Room u
    → Again m ls before d functions more → l.form ≡ form.Label n rs slots
    → on_line l.number (block_line m u rs slots (is_placed ls before u n more)) (λ v. with_lines m ls before v more) ≡ Ok d → LinesAdd m functions pre u d (l ∷ more)
unfolding with_block
label_first m ls before u d functions pre l more n rs slots fit none some at room again is e =
    let (v, made, rest) = goes_on l.number _ (λ v. with_lines m ls before v more) d e in
    let (regs, line, v_is) = block_made m u v rs slots (is_placed ls before u n more) made in
    let k = label_keeps m rs slots (is_placed ls before u n more) (length u.blocks) regs line in
    let p = placed_at_inst ls before u n more k.placed_is in
    let same : v ≡ with_block u (types_in m rs) (slot_types m (slots_given slots)) = v_is ∙ ap (λ regs. with_block u regs (slot_types m (slots_given slots))) k.regs_are in
    let up = k.room in
    let count : length (u.blocks ++ record { offset = length u.code; regs = types_in m rs; slots = slot_types m (slots_given slots) } ∷ []) ≡ length u.blocks + 1 = length-append u.blocks _ in
    with_label_before m functions pre u d l more n rs slots fit is room.0 k.few (none (length u.code) p.0) p.1
    (again (with_block u (types_in m rs) (slot_types m (slots_given slots))) pre some at
    (room.0, omega (arith, count, up), room.2, room.3) (sym (ap (λ v. with_lines m ls before v more) same) ∙ rest))

-- By the first line; a line that is no label and no instruction is none of the function.
line_first : (m : Names) (ls : LabelsView) (before u d : UnitCodeView) (functions : List FunctionPart) (pre : List Spelled) (l : TextLine) (more : List TextLine) (laws : SpellingLaws)
    → NumbersFit m → InReach ls → NoneBegins (length before.code) functions → Each (λ (s : Spelled). 0 < length s.text) pre → length u.code ≡ length (code_bytes pre) → Room u
    → Again m ls before d functions more → (f : Form) → l.form ≡ f
    → option_map_or (λ made. on_line l.number made (λ v. with_lines m ls before v more)) (code_line m ls before u f more) (Ok u) ≡ Ok d → LinesAdd m functions pre u d (l ∷ more)
unfolding code_line begins_with_inst
line_first m ls before u d functions pre l more laws fit reach none some at room again (form.Label n rs slots) is e = label_first m ls before u d functions pre l more n rs slots fit none some at room again is e
line_first m ls before u d functions pre l more laws fit reach none some at room again (form.Inst mnemonic args) is e = inst_first m ls before u d functions pre l more mnemonic args laws fit reach some at room again is e
line_first m ls before u d functions pre l more laws fit reach none some at room again _ is e =
    nothing_added m functions pre u d (l ∷ more) room (ok_is_one u d e)
    (ap (λ f. elim f as (λ _. Bool) [ form.Inst mnemonic args ↦ true | _ ↦ false ]) is)

-- The lines of a function add code, up to the first that is none of it.
pub lines_add : (m : Names) (ls : LabelsView) (before u d : UnitCodeView) (functions : List FunctionPart) (lines : List TextLine) (pre : List Spelled)
    → SpellingLaws → NumbersFit m → InReach ls → NoneBegins (length before.code) functions
    → Each (λ (s : Spelled). 0 < length s.text) pre → length u.code ≡ length (code_bytes pre) → Room u → with_lines m ls before u lines ≡ Ok d → LinesAdd m functions pre u d lines
unfolding with_lines begins_with_inst
lines_add m ls before u d functions [] pre laws fit reach none some at room e = nothing_added m functions pre u d [] room (ok_is_one u d e) refl
lines_add m ls before u d functions (l ∷ more) pre laws fit reach none some at room e =
    line_first m ls before u d functions pre l more laws fit reach none some at room
    (λ v pre some at room e. lines_add m ls before v d functions more pre laws fit reach none some at room e) l.form refl e
