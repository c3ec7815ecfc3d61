-- What a line adds to the code.
use Rattle.std.proofs.Common.{◌≡◌, ℕ, suc, ℤ, pos, ◌+◌, ◌<◌, ◌≤◌, ◌^◌, Bool, true, false, not, ◌&&◌, ◌||◌, List, [], ◌∷◌, ◌++◌, length, Option, Some, None, is_some, Result, Ok, if◌then◌else◌, refl, sym, ap, subst, ◌∙◌, ◌⊎◌, inl, inr, arith}
use Rattle.std.specs.Prelude.{nat_le, IfSome, FitsSigned, option_map}
use Rattle.std.specs.Option.{option_and_then, option_or, unwrap_or}
use Rattle.std.specs.Int.{w32}
use Rattle.std.proofs.lemmas.List.{length-append, append_assoc}
use Rattle.ia32_code.specs.declared.instruction.Inst.{Inst}
use Rattle.ia32_code.specs.declared.spelling.Spelling.{Spelling}
use Rattle.ia32_code.specs.OperandForms.{operand}
use Rattle.ia32_code.specs.Spells.{Spells, Filled, text, meaning}
use Rattle.ia32_code.specs.Canonical.{canonical_row}
use Rattle.ia32_code.specs.Order.{IsFirst}
use Rattle.ia32_code.specs.declared.word_offsets.WholeWords.{WholeWords}
use Rattle.ia32_code.specs.WholeWords.{WordPlace, Within, AtEnd, word_offset}
use Rattle.ia32_code.specs.Decoding.{ReadBack}
use Rattle.code_words.specs.declared.words.Mnemonic.{Mnemonic}
use Rattle.code_words.specs.Meaning.{meant_by}
use Rattle.file_fields.specs.Parts.{Each}
use Rattle.tal_image.specs.Conditions.{Spelled, most_code, begins_at, marked_number, marked_number_at, mark_fits, same_number}
use Rattle.tal_image.specs.Fields.{code_bytes}
use Rattle.tal_syntax.specs.declared.form.Arg.{Arg}
use Rattle.tal_names.specs.Declarations.{Names}
use Rattle.tal_operands.specs.declared.operands.Hole.{Hole}
use Rattle.tal_operands.specs.declared.operands.Sense.{Sense}
use Rattle.tal_operands.specs.declared.instructions.Instruction.{Instruction}
use Rattle.tal_operands.specs.Operands.{arg_operand}
use Rattle.tal_operands.specs.Instructions.{takes_special, is_call, with_word, either_faults, with_operand, with_args, line_instruction, is_misplaced, inst_fault}
use Rattle.unit_files.specs.declared.parts.UnitMark.{UnitMark}
use Rattle.unit_files.specs.declared.parts.FixUp.{FixUp}
use Rattle.unit_files.specs.Conditions.{hole_at, wide_at, is_null_tag, unit_mark_fits, fixup_fits}
use Rattle.unit_files.specs.Formed.{IsUnitMark, IsFixUp}
use Rattle.tal_code.specs.declared.holes.HolePlace.{HolePlace}
use Rattle.tal_code.specs.declared.holes.HoledCode.{HoledCode}
use Rattle.tal_code.specs.Holes.{spelling_for, spelled_as, hole_place, with_places, holed_code, open_bytes}
use Rattle.tal_code.specs.Functions.{UnitCodeView, instruction_marks, fixups_of, with_inst, has_room, most_marks, most_fixups, unless_fault, line_code, inst_line}
use Rattle.tal_code.specs.Formed.{tables_named, NumbersFit}
use Rattle.tal_code.proofs.Spellings.{some_is_one, filled_for}
use Rattle.tal_code.proofs.OpenWords.{AnyFits, EndsStay, IsAt, placed_at}
use Rattle.tal_code.proofs.Rising.{Rises}
use Rattle.tal_code.proofs.Places.{begins_here, wide_here, hole_here}
use Rattle.tal_code.proofs.Bodies.{IsSpelled}
use Rattle.tal_code.proofs.Clearing.{IsWordAt}
use Rattle.tal_code.proofs.Openings.{opened, words_are, word_inside, is_hole, has_word}
use Rattle.tal_code.proofs.Marks.{marked}
use Rattle.tal_code.proofs.Ranges.{meant_in_range}
use Rattle.tal_code.proofs.Shapes.{HoleNamed, SenseNamed, Marked, shape_of}
use Rattle.tal_code.proofs.Lines.{LineKept, kept_common, kept_one, kept_two, kept_three}
use Rattle.tal_code.proofs.Reach.{CanonicalSpells, SpellingsShort, words_in_range}
use Rattle.tal_code.proofs.Rooms.{fault, within}

-- what is known of spellings
pub record SpellingLaws : Type 0 where
  pub read : ReadBack
  pub short : SpellingsShort
  pub spells : CanonicalSpells
  pub first : (s : Spelling) → Filled s → IsFirst s
  pub fits : AnyFits
  pub ends : EndsStay

-- ---- an instruction without a fault

-- what has no fault
pub record Faultless (i : Instruction) (spelled knows room : Bool) : Type 0 where
  pub known : i.faults.unknown ≡ false
  pub placed : is_misplaced i ≡ false
  pub spelled_is : spelled ≡ true
  pub room_is : room ≡ true
  pub range : i.faults.range ≡ false

pub faultless : (i : Instruction) (a b c : Bool) → inst_fault i a b c ≡ None → Faultless i a b c
unfolding inst_fault
faultless i a b c e = choose i.faults.unknown (is_misplaced i) a b c i.faults.range i.faults.null_type refl refl refl e
  where
    choose : (u p s k r n t : Bool) → i.faults.unknown ≡ u → is_misplaced i ≡ p → i.faults.range ≡ n
        → fault u p s k r n t ≡ None
        → Faultless i s k r
    choose true p s k r n t x y z e = cc
    choose false true s k r n t x y z e = cc
    choose false false false k r n t x y z e = cc
    choose false false true false r n t x y z e = cc
    choose false false true true false n t x y z e = cc
    choose false false true true true true t x y z e = cc
    choose false false true true true false t x y z e = record { known = x; placed = y; spelled_is = refl; room_is = refl; range = z }

-- ---- what its operands keep

or_false : (a b : Bool) → (a || b) ≡ false → (a ≡ false) × (b ≡ false)
or_false true b e = cc
or_false false b e = (refl, e)

-- An instruction that is not misplaced takes the special operands that it has.
takes_them : (i : Instruction) → is_misplaced i ≡ false → i.faults.special ≡ true → takes_special i.words.mnemonic ≡ true
unfolding is_misplaced
takes_them i placed special = by_test i.faults.special (takes_special i.words.mnemonic) special (or_false i.faults.crowded _ placed).1
  where
    by_test : (s t : Bool) → s ≡ true → (s && not t) ≡ false → t ≡ true
    by_test true true e f = refl
    by_test true false e f = cc
    by_test false t e f = cc

or_true : (a b : Bool) → b ≡ true → (a || b) ≡ true
or_true true b e = refl
or_true false b e = e

left_true : (a b : Bool) → a ≡ true → (a || b) ≡ true
left_true true b e = refl
left_true false b e = cc

-- The operands of an instruction without a fault keep together what a line keeps.
pub kept_line : (m : Names) (k : Mnemonic) (z : ℤ) (args : List Arg) (j : Inst) (s : Spelling) → NumbersFit m → nat_le (length args) 3 ≡ true
    → (line_instruction m k args z).faults.unknown ≡ false → (line_instruction m k args z).faults.range ≡ false → is_misplaced (line_instruction m k args z) ≡ false
    → meant_by (line_instruction m k args z).words ≡ Some j → canonical_row j ≡ Some s
    → LineKept m (line_instruction m k args z).near (line_instruction m k args z).far (line_instruction m k args z).sense j s
unfolding with_args with_operand with_word either_faults
kept_line m k z [] j s fit few known range placed means row = kept_common m None None None j s tt refl refl
kept_line m k z (a ∷ []) j s fit few known range placed means row =
    let x = arg_operand m (is_call k) z a in
    kept_one m k x j s (shape_of m (is_call k) z a fit known range) (takes_them (line_instruction m k (a ∷ []) z) placed) means
kept_line m k z (a ∷ b ∷ []) j s fit few known range placed means row =
    let x = arg_operand m (is_call k) z a in
    let y = arg_operand m (is_call k) z b in
    let known_each = or_false x.faults.unknown y.faults.unknown known in
    let range_each = or_false x.faults.range y.faults.range range in
    let takes = takes_them (line_instruction m k (a ∷ b ∷ []) z) placed in
    kept_two m k x y j s (shape_of m (is_call k) z a fit known_each.0 range_each.0) (shape_of m (is_call k) z b fit known_each.1 range_each.1)
    (λ e. takes (left_true x.faults.special y.faults.special e)) (λ e. takes (or_true x.faults.special y.faults.special e)) means row
kept_line m k z (a ∷ b ∷ c ∷ []) j s fit few known range placed means row =
    let x = arg_operand m (is_call k) z a in
    let y = arg_operand m (is_call k) z b in
    let w = arg_operand m (is_call k) z c in
    let known_each = or_false (x.faults.unknown || y.faults.unknown) w.faults.unknown known in
    let known_two = or_false x.faults.unknown y.faults.unknown known_each.0 in
    let range_each = or_false (x.faults.range || y.faults.range) w.faults.range range in
    let range_two = or_false x.faults.range y.faults.range range_each.0 in
    let takes = takes_them (line_instruction m k (a ∷ b ∷ c ∷ []) z) placed in
    kept_three m k x y w j s (shape_of m (is_call k) z a fit known_two.0 range_two.0) (shape_of m (is_call k) z b fit known_two.1 range_two.1) (shape_of m (is_call k) z c fit known_each.1 range_each.1)
    (λ e. takes (left_true (x.faults.special || y.faults.special) w.faults.special (left_true x.faults.special y.faults.special e)))
    (λ e. takes (left_true (x.faults.special || y.faults.special) w.faults.special (or_true x.faults.special y.faults.special e)))
    (λ e. takes (or_true (x.faults.special || y.faults.special) w.faults.special e)) means
kept_line m k z (a ∷ b ∷ c ∷ d ∷ more) j s fit few known range placed means row = absurd (too_many (length more) few)
  where
    too_many : (n : ℕ) → nat_le (suc (suc (suc (suc n)))) 3 ≡ true → ⊥
    too_many n e = (let le : n + 4 ≤ 3 = grind arith in omega (arith, le))

-- ---- where its holes lie

-- a hole that is placed is one of the instruction's
abbrev pub IsOf : Option Hole → Option HolePlace → Type 0
IsOf h o = (is_some o ≡ is_some h) × IfSome o (λ p. h ≡ Some p.hole)

placed_of : (h : Option Hole) (place : Option ℕ) (o : Option HolePlace) → hole_place h place ≡ Some o → IsOf h o
unfolding hole_place
placed_of None place o e = subst (IsOf None) (some_is_one None o e) (refl, tt)
placed_of (Some h) None o e = cc
placed_of (Some h) (Some k) o e = subst (IsOf (Some h)) (some_is_one (Some (record { at = k; hole = h })) o e) (refl, refl)

-- the holes of an instruction lie in the whole words of its spelling
pub record Placed (i : Instruction) (s : Spelling) (c : HoledCode) : Type 0 where
  pub bytes : c.bytes ≡ text s
  pub near_at : IsAt c.near (option_or (word_offset Within s) (word_offset AtEnd s))
  pub far_at : IsAt c.far (word_offset AtEnd s)
  pub near_of : IsOf i.near c.near
  pub far_of : IsOf i.far c.far

pub places_of : (i : Instruction) (s : Spelling) (c : HoledCode) → with_places i (spelled_as s) ≡ Some c → Placed i s c
unfolding with_places spelled_as
places_of i s c e = by_near (hole_place i.near (option_or (word_offset Within s) (word_offset AtEnd s))) (hole_place i.far (word_offset AtEnd s)) refl refl e
  where
    by_near : (n f : Option (Option HolePlace)) → hole_place i.near (option_or (word_offset Within s) (word_offset AtEnd s)) ≡ n → hole_place i.far (word_offset AtEnd s) ≡ f
        → option_and_then (λ near. option_map (λ far. record { bytes = text s; near = near; far = far }) f) n ≡ Some c → Placed i s c
    by_near None f is_near is_far e = cc
    by_near (Some near) None is_near is_far e = cc
    by_near (Some near) (Some far) is_near is_far e =
        subst (Placed i s) (some_is_one (record { bytes = text s; near = near; far = far }) c e) (record {
          bytes = refl;
          near_at = placed_at i.near _ near is_near;
          far_at = placed_at i.far _ far is_far;
          near_of = placed_of i.near _ near is_near;
          far_of = placed_of i.far _ far is_far;
        })

-- a spelling for words, and what they mean
pub record SpellingFor (i : Instruction) (c : HoledCode) : Type 0 where
  pub inst : Inst
  pub spelling : Spelling
  pub means : meant_by i.words ≡ Some inst
  pub row : canonical_row inst ≡ Some spelling
  pub for : spelling_for i.words ≡ Some spelling
  pub places : with_places i (spelled_as spelling) ≡ Some c

pub spelling_of : (i : Instruction) (c : HoledCode) → holed_code i ≡ Some c → SpellingFor i c
unfolding holed_code spelling_for
spelling_of i c e = by_words (meant_by i.words) refl e
  where
    by_row : (j : Inst) → meant_by i.words ≡ Some j → (o : Option Spelling) → canonical_row j ≡ o → option_and_then (λ s. with_places i (spelled_as s)) o ≡ Some c → SpellingFor i c
    by_row j means None is e = cc
    by_row j means (Some s) is e = record { inst = j; spelling = s; means = means; row = is; for = ap (option_and_then canonical_row) means ∙ is; places = e }

    by_words : (o : Option Inst) → meant_by i.words ≡ o → option_and_then (λ s. with_places i (spelled_as s)) (option_and_then canonical_row o) ≡ Some c → SpellingFor i c
    by_words None is e = cc
    by_words (Some j) is e = by_row j is (canonical_row j) refl e

-- ---- what it adds

-- a mark of the code, and a fix-up
abbrev pub MarkIs : Names → List Spelled → UnitMark → Type 0
MarkIs m code x = IsUnitMark (tables_named m) (length m.functions) (length m.arrays) code 0 x

abbrev pub FixUpIs : Names → List Spelled → FixUp → Type 0
FixUpIs m code f = IsFixUp (tables_named m) (length m.functions) (length m.arrays) (length m.statics) code 0 f

-- An instruction adds its bytes, and a mark and fix-ups that lie in them.
pub record Added (m : Names) (u v : UnitCodeView) : Type 0 where
  pub one : Spelled
  pub is_spelled : IsSpelled one
  pub code : v.code ≡ u.code ++ one.text
  pub blocks : v.blocks ≡ u.blocks
  pub new_marks : List UnitMark
  pub marks : v.marks ≡ u.marks ++ new_marks
  pub new_fixups : List FixUp
  pub fixups : v.fixups ≡ u.fixups ++ new_fixups
  pub room : (length v.code ≤ most_code) × (length v.marks ≤ most_marks) × (length v.fixups ≤ most_fixups)
  pub marks_rise : (before more : List Spelled) → Each (λ (s : Spelled). 0 < length s.text) before → length u.code ≡ length (code_bytes before)
      → Rises (λ (x : UnitMark). x.offset) (MarkIs m (before ++ one ∷ more)) (length u.code) (length v.code) new_marks
  pub fixups_rise : (before more : List Spelled) → Each (λ (s : Spelled). 0 < length s.text) before → length u.code ≡ length (code_bytes before)
      → Rises (λ (f : FixUp). f.offset) (FixUpIs m (before ++ one ∷ more)) (length u.code) (length v.code) new_fixups

-- The instruction that a spelling spells.
abbrev pub spelled_by : Spelling → Spelled
spelled_by s = record { text = text s; means = meaning s }

-- What is or is not there besides is there.
beside : (a b c : Bool) → (a || b) ≡ true → (b ≡ true → c ≡ true) → (a || c) ≡ true
beside true b c e f = refl
beside false b c e f = f e

-- An immediate number that is marked is 0 in the end.
marked_zero : (n : ℕ) (j : Inst) (s next : Spelling) → marked_number j ≡ Some n → canonical_row j ≡ Some s → next.row ≡ s.row → (n ≡ 0 → s.number ≡ 0 → next.number ≡ 0)
    → (n ≡ 0) ⊎ (next.number ≡ 0) → marked_number (meaning next) ≡ Some 0
marked_zero n j s next number row same zero or =
    let x = marked j n s number row in
    rw (same, is_zero or) (x.0 next.reg (operand next.form))
  where
    is_zero : (n ≡ 0) ⊎ (next.number ≡ 0) → next.number ≡ 0
    is_zero (inl e) = zero e ((marked j n s number row).1 e)
    is_zero (inr e) = e

-- Nothing is less than 0.
pub least : (n : ℕ) → nat_le 0 n ≡ true
least n = grind arith

-- The mark of an instruction.
pub mark_is : (m : Names) (before more : List Spelled) (next : Spelling) (offset : ℕ) (x : Sense) → Filled next → ReadBack
    → Each (λ (s : Spelled). 0 < length s.text) before → offset ≡ length (code_bytes before) → offset < 2 ^ 32
    → SenseNamed m x → marked_number (meaning next) ≡ Some 0 → (is_null_tag x.tag || is_some (word_offset AtEnd next)) ≡ true
    → MarkIs m (before ++ spelled_by next ∷ more) (record { offset = offset; tag = x.tag; index = x.index })
unfolding mark_fits unit_mark_fits marked_number_at same_number
mark_is m before more next offset x filled read some at few named zero wide =
    let here : begins_at offset (before ++ spelled_by next ∷ more) ≡ Some (meaning next) = begins_here before (spelled_by next) more offset some (omega (arith, at)) in
    let ends : wide_at offset (before ++ spelled_by next ∷ more) ≡ is_some (word_offset AtEnd next) =
    wide_here before (spelled_by next) more offset some (omega (arith, at)) ∙ ap (λ (w : WholeWords). is_some w.at_end) (words_are next filled read) in
    record {
      offset_word = few;
      condition_26 = rw (least offset, here, zero) refl;
      tag_word = named.tag_word;
      index_word = named.index_word;
      condition_27 = rw (here, zero, named.index, ends) wide;
    }

-- A fix-up of it.
pub fixup_is : (m : Names) (before more : List Spelled) (next : Spelling) (offset : ℕ) (p : HolePlace) (place : WordPlace) → Filled next → ReadBack → AnyFits
    → offset ≡ length (code_bytes before) → offset + length (text next) < 2 ^ 32 → HoleNamed m p.hole → IsWordAt place next p.at 0
    → FixUpIs m (before ++ spelled_by next ∷ more) (record { offset = offset + p.at; kind = p.hole.kind; index = p.hole.index })
unfolding fixup_fits
fixup_is m before more next offset p place filled read fits at few named word =
    let inside = word_inside place next p.at 0 filled fits word in
    let there : hole_at (offset + p.at) (before ++ spelled_by next ∷ more) ≡ true =
    hole_here before (spelled_by next) more (offset + p.at) p.at (omega (arith, inside)) (omega (arith, at)) ∙ is_hole place next p.at filled fits read word in
    record {
      offset_word = omega (arith, few, inside);
      offset_30 = rw (least (offset + p.at), there) refl;
      kind_word = named.kind_word;
      kind_30 = named.kind;
      index_word = named.index_word;
      index_30 = named.index;
    }

-- All marks of an instruction.
marks_up : (m : Names) (before more : List Spelled) (next : Spelling) (offset high : ℕ) (sense : Option Sense) → Filled next → ReadBack
    → Each (λ (s : Spelled). 0 < length s.text) before → offset ≡ length (code_bytes before) → high < 2 ^ 32 → offset + 1 ≤ high
    → IfSome sense (λ x. SenseNamed m x × ((is_null_tag x.tag || is_some (word_offset AtEnd next)) ≡ true)) → (is_some sense ≡ true → marked_number (meaning next) ≡ Some 0)
    → Rises (λ (x : UnitMark). x.offset) (MarkIs m (before ++ spelled_by next ∷ more)) offset high (instruction_marks offset sense)
unfolding instruction_marks
marks_up m before more next offset high None filled read some at few up named zero = omega (arith, up)
marks_up m before more next offset high (Some x) filled read some at few up named zero =
    (omega arith, mark_is m before more next offset x filled read some at (omega (arith, few, up)) named.0 (zero refl) named.1, up)

-- All fix-ups of an instruction.
fixups_up : (m : Names) (before more : List Spelled) (next : Spelling) (offset high : ℕ) (near far : Option HolePlace) → Filled next → ReadBack → AnyFits
    → offset ≡ length (code_bytes before) → high < 2 ^ 32 → high ≡ offset + length (text next)
    → IfSome near (λ p. HoleNamed m p.hole × ((place : WordPlace) × IsWordAt place next p.at 0)) → IfSome far (λ p. HoleNamed m p.hole × IsWordAt AtEnd next p.at 0)
    → ((p q : HolePlace) → near ≡ Some p → far ≡ Some q → p.at + 4 ≤ q.at)
    → Rises (λ (f : FixUp). f.offset) (FixUpIs m (before ++ spelled_by next ∷ more)) offset high (fixups_of offset near ++ fixups_of offset far)
unfolding fixups_of
fixups_up m before more next offset high None None filled read fits at few is near far order = omega (arith, is)
fixups_up m before more next offset high (Some p) None filled read fits at few is near far order =
    let inside = word_inside near.1.0 next p.at 0 filled fits near.1.1 in
    (omega arith, fixup_is m before more next offset p near.1.0 filled read fits at (omega (arith, few, is)) near.0 near.1.1, omega (arith, is, inside))
fixups_up m before more next offset high None (Some q) filled read fits at few is near far order =
    let inside = word_inside AtEnd next q.at 0 filled fits far.1 in
    (omega arith, fixup_is m before more next offset q AtEnd filled read fits at (omega (arith, few, is)) far.0 far.1, omega (arith, is, inside))
fixups_up m before more next offset high (Some p) (Some q) filled read fits at few is near far order =
    let inside = word_inside AtEnd next q.at 0 filled fits far.1 in
    let le = order p q refl refl in (
      omega arith,
      fixup_is m before more next offset p near.1.0 filled read fits at (omega (arith, few, is)) near.0 near.1.1,
      (omega (arith, le), fixup_is m before more next offset q AtEnd filled read fits at (omega (arith, few, is)) far.0 far.1, omega (arith, is, inside)),
    )

-- ---- from the instruction to what it adds

-- A hole that is placed is named as the instruction's is.
named_place : (m : Names) (h : Option Hole) (o : Option HolePlace) → IsOf h o → IfSome h (HoleNamed m) → IfSome o (λ p. HoleNamed m p.hole)
named_place m h None of named = tt
named_place m h (Some p) of named = subst (λ o. IfSome o (HoleNamed m)) of.1 named

-- both of a hole
both_of : {A : Type 0} (P Q : A → Type 0) (o : Option A) → IfSome o P → IfSome o Q → IfSome o (λ x. P x × Q x)
both_of P Q None p q = tt
both_of P Q (Some x) p q = (p, q)

-- A mark beside a hole at the end is one beside a word at the end.
marked_beside : (m : Names) (next : Spelling) (far : Option Hole) (sense : Option Sense) → (is_some far ≡ true → is_some (word_offset AtEnd next) ≡ true) → IfSome sense (Marked m far)
    → IfSome sense (λ x. SenseNamed m x × ((is_null_tag x.tag || is_some (word_offset AtEnd next)) ≡ true))
marked_beside m next far None word named = tt
marked_beside m next far (Some x) word named = (named.0, beside (is_null_tag x.tag) (is_some far) (is_some (word_offset AtEnd next)) named.1 word)

-- A hole at the end has a word there.
far_word : (next : Spelling) (o : Option HolePlace) → IfSome o (λ p. IsWordAt AtEnd next p.at 0) → is_some o ≡ true → is_some (word_offset AtEnd next) ≡ true
far_word next None word is = cc
far_word next (Some p) word is = ap is_some (has_word AtEnd next p.at 0 word)

-- What an instruction with a spelling adds, where there is room for it.
with_code : (m : Names) (u : UnitCodeView) (i : Instruction) (c : HoledCode) (x : SpellingFor i c) → SpellingLaws → Filled x.spelling → LineKept m i.near i.far i.sense x.inst x.spelling
    → has_room (with_inst u i.sense (Some c)) ≡ true → Added m u (with_inst u i.sense (Some c))
unfolding with_inst
with_code m u i c x laws filled kept room =
    let p = places_of i x.spelling c x.places in
    let o = opened x.spelling c p.bytes filled laws.fits laws.ends p.near_at p.far_at
    (λ a b is_near is_far. kept.both (sym p.near_of.0 ∙ ap is_some is_near) (sym p.far_of.0 ∙ ap is_some is_far)) in
    let spells : Spells (text o.next) (meaning o.next) = record { spelling = o.next; fits = o.filled; text_is = refl; meaning_is = refl } in
    let some = (laws.short (text o.next) (meaning o.next) spells).0 in
    let limits = within (with_inst u i.sense (Some c)) room in
    let long : length (u.code ++ open_bytes c) ≡ length u.code + length (text o.next) = length-append u.code (open_bytes c) ∙ ap (λ n. length u.code + length n) o.bytes in
    let few = limits.0 in
    let zero : is_some i.sense ≡ true → marked_number (meaning o.next) ≡ Some 0 = λ is.
    (let (n, number, or) = kept.number is in
    marked_zero n x.inst x.spelling o.next number x.row o.row (λ e z. o.zero z) (cleared_far o.next o.cleared n or)) in
    record {
      one = spelled_by o.next;
      is_spelled = (some, spells);
      code = ap (λ b. u.code ++ b) o.bytes;
      blocks = refl;
      new_marks = instruction_marks (length u.code) i.sense;
      marks = refl;
      new_fixups = fixups_of (length u.code) c.near ++ fixups_of (length u.code) c.far;
      fixups = append_assoc u.fixups (fixups_of (length u.code) c.near) (fixups_of (length u.code) c.far);
      room = limits;
      marks_rise = λ before more each at.
          marks_up m before more o.next (length u.code) _ i.sense o.filled laws.read each at (omega (arith, few)) (omega (arith, long, some))
          (marked_beside m o.next i.far i.sense (λ is. far_word o.next c.far o.far (p.far_of.0 ∙ is)) kept.marked) zero;
      fixups_rise = λ before more each at.
          fixups_up m before more o.next (length u.code) _ c.near c.far o.filled laws.read laws.fits at (omega (arith, few)) long
          (both_of _ _ c.near (named_place m i.near c.near p.near_of kept.near_named) o.near) (both_of _ _ c.far (named_place m i.far c.far p.far_of kept.far_named) o.far) o.order;
    }
  where
    cleared_far : (next : Spelling) → (is_some c.far ≡ true → next.number ≡ 0) → (n : ℕ) → (n ≡ 0) ⊎ (is_some i.far ≡ true) → (n ≡ 0) ⊎ (next.number ≡ 0)
    cleared_far next cleared n (inl e) = inl e
    cleared_far next cleared n (inr e) = inr (cleared ((places_of i x.spelling c x.places).far_of.0 ∙ e))

-- what is made without a fault
pub made_is : (o : Option ℕ) (made v : UnitCodeView) → unless_fault o made ≡ Ok v → (o ≡ None) × (made ≡ v)
made_is None made v e = (refl, ok_is_one made v e)
  where
    ok_is_one : (x y : UnitCodeView) → ◌≡◌ {A = Result UnitCodeView ℕ} (Ok x) (Ok y) → x ≡ y
    ok_is_one x y e = cc
made_is (Some code) made v e = cc

-- A line's bytes are those of an instruction of three operands at most.
pub code_of : (i : Instruction) (n : ℕ) (c : HoledCode) → line_code i n ≡ Some c → (nat_le n 3 ≡ true) × (holed_code i ≡ Some c)
unfolding line_code
code_of i n c e = by_count (nat_le n 3) refl e
  where
    by_count : (b : Bool) → nat_le n 3 ≡ b → (if b then holed_code i else None) ≡ Some c → (b ≡ true) × (holed_code i ≡ Some c)
    by_count true is e = (refl, e)
    by_count false is e = cc

-- A line of an instruction adds it.
pub inst_adds : (m : Names) (u v : UnitCodeView) (mnemonic : Mnemonic) (args : List Arg) (distance : Option ℤ) → SpellingLaws → NumbersFit m → FitsSigned w32 (unwrap_or distance (pos 0))
    → inst_line m u mnemonic args distance ≡ Ok v → Added m u v
unfolding inst_line
inst_adds m u v mnemonic args distance laws fit near e = by_code (line_code i (length args)) refl e
  where
    i : Instruction
    i = line_instruction m mnemonic args (unwrap_or distance (pos 0))

    by_code : (o : Option HoledCode) → line_code i (length args) ≡ o
        → unless_fault (inst_fault i (is_some o) (is_some distance) (has_room (with_inst u i.sense o))) (with_inst u i.sense o) ≡ Ok v → Added m u v
    by_code None is e =
        let made = made_is _ _ v e in
        let f = faultless i false (is_some distance) _ made.0 in
        absurd (no_spelling f.spelled_is)
      where
        no_spelling : false ≡ true → ⊥
        no_spelling e = cc
    by_code (Some c) is e =
        let made = made_is _ _ v e in
        let f = faultless i true (is_some distance) _ made.0 in
        let code = code_of i (length args) c is in
        let x = spelling_of i c code.1 in
        let range = meant_in_range i.words x.inst (words_in_range m mnemonic args (unwrap_or distance (pos 0)) near) x.means in
        let filled = filled_for i.words x.inst x.spelling x.means (laws.spells x.inst range) laws.first x.for in
        subst (Added m u) made.1
        (with_code m u i c x laws filled (kept_line m mnemonic (unwrap_or distance (pos 0)) args x.inst x.spelling fit code.0 f.known f.range f.placed x.means x.row) f.room_is)
