-- A function takes nothing from the code, and an instruction adds something.
use Rattle.std.proofs.Common.{◌≡◌, ℕ, ℤ, pos, ◌+◌, ◌<◌, ◌≤◌, Bool, true, false, List, [], ◌∷◌, length, Option, Some, None, is_some, Ok, refl, sym, ap, subst, ◌∙◌, arith}
use Rattle.std.specs.Prelude.{IfSome, FitsSigned}
use Rattle.std.specs.Option.{option_or, option_map_or, unwrap_or}
use Rattle.std.specs.Int.{w32}
use Rattle.std.proofs.lemmas.List.{length-append}
use Rattle.ia32_code.specs.declared.spelling.Spelling.{Spelling}
use Rattle.ia32_code.specs.Spells.{Filled, text, meaning}
use Rattle.ia32_code.specs.WholeWords.{Within, AtEnd}
use Rattle.ia32_code.specs.Order.{IsFirst}
use Rattle.code_words.specs.declared.words.Mnemonic.{Mnemonic}
use Rattle.tal_image.specs.Conditions.{most_code}
use Rattle.tal_syntax.specs.declared.form.Arg.{Arg}
use Rattle.tal_syntax.specs.declared.form.Form.{Form}
use Rattle.tal_syntax.specs.declared.form.Form.TheVariants as form
use Rattle.tal_syntax.specs.declared.module.TextLine.{TextLine}
use Rattle.tal_names.specs.Declarations.{Names}
use Rattle.tal_operands.specs.declared.instructions.Instruction.{Instruction}
use Rattle.tal_operands.specs.Instructions.{line_instruction, inst_fault}
use Rattle.tal_rows.specs.Lines.{slots_given}
use Rattle.tal_code.specs.declared.holes.HolePlace.{HolePlace}
use Rattle.tal_code.specs.declared.holes.HoledCode.{HoledCode}
use Rattle.tal_code.specs.Holes.{open_bytes, IsWithin, PlacesWithin}
use Rattle.tal_code.specs.Labels.{LabelsView, no_labels, distance_at}
use Rattle.tal_code.specs.Functions.{UnitCodeView, with_inst, has_room, unless_fault, line_code, inst_line, is_placed, slot_types, with_block, has_code, code_line, on_line, with_lines, function_code}
use Rattle.tal_code.specs.Formed.{Grows}
use Rattle.tal_code.proofs.Spellings.{word_within, filled_for}
use Rattle.tal_code.proofs.Zeroes.{length-open_bytes}
use Rattle.tal_code.proofs.OpenWords.{AnyFits, IsAt}
use Rattle.tal_code.proofs.Ranges.{meant_in_range}
use Rattle.tal_code.proofs.Reach.{CanonicalSpells, SpellingsShort, InReach, words_in_range, distance_in_range, lines_in_reach}
use Rattle.tal_code.proofs.Rooms.{within}
use Rattle.tal_code.proofs.Added.{faultless, places_of, spelling_of, made_is, code_of}
use Rattle.tal_code.proofs.LinesAdd.{ok_is_one, goes_on, block_made}

-- what is known of spellings
pub record LengthLaws : Type 0 where
  pub short : SpellingsShort
  pub spells : CanonicalSpells
  pub first : (s : Spelling) → Filled s → IsFirst s
  pub fits : AnyFits

-- A hole in a whole word lies within the bytes.
within_at : (s : Spelling) (bytes : List ℕ) (o : Option HolePlace) (place : Option ℕ) → bytes ≡ text s → IfSome place (λ (k : ℕ). k + 4 ≤ length (text s)) → IsAt o place → IsWithin bytes o
within_at s bytes None place is inside at = tt
within_at s bytes (Some p) place is inside at = rw is (subst (λ o. IfSome o (λ (k : ℕ). k + 4 ≤ length (text s))) at inside)

first_or : (P : ℕ → Type 0) (a b : Option ℕ) → IfSome a P → IfSome b P → IfSome (option_or a b) P
first_or P None b p q = q
first_or P (Some x) b p q = p

-- A line of an instruction makes the code longer, and no longer than the most.
pub inst_grows : (m : Names) (u v : UnitCodeView) (mnemonic : Mnemonic) (args : List Arg) (distance : Option ℤ) → LengthLaws → FitsSigned w32 (unwrap_or distance (pos 0))
    → inst_line m u mnemonic args distance ≡ Ok v → (length u.code < length v.code) × (length v.code ≤ most_code)
unfolding inst_line with_inst
inst_grows m u v mnemonic args distance laws near e = by_code (line_code i (length args)) refl e
  where
    i : Instruction
    i = line_instruction m mnemonic args (unwrap_or distance (pos 0))

    by_code : (o : Option HoledCode) → line_code i (length args) ≡ o
        → unless_fault (inst_fault i (is_some o) (is_some distance) (has_room (with_inst u i.sense o))) (with_inst u i.sense o) ≡ Ok v → (length u.code < length v.code) × (length v.code ≤ most_code)
    by_code None is e =
        let made = made_is _ _ v e in
        let f = faultless i false (is_some distance) _ made.0 in
        absurd (no_spelling f.spelled_is)
      where
        no_spelling : false ≡ true → ⊥
        no_spelling e = cc
    by_code (Some c) is e =
        let made = made_is _ _ v e in
        let f = faultless i true (is_some distance) _ made.0 in
        let x = spelling_of i c (code_of i (length args) c is).1 in
        let range = meant_in_range i.words x.inst (words_in_range m mnemonic args (unwrap_or distance (pos 0)) near) x.means in
        let filled = filled_for i.words x.inst x.spelling x.means (laws.spells x.inst range) laws.first x.for in
        let p = places_of i x.spelling c x.places in
        let inner = word_within Within x.spelling filled laws.fits in
        let outer = word_within AtEnd x.spelling filled laws.fits in
        let places : PlacesWithin c = record {
          near = within_at x.spelling c.bytes c.near _ p.bytes (first_or (λ (k : ℕ). k + 4 ≤ length (text x.spelling)) _ _ inner outer) p.near_at;
          far = within_at x.spelling c.bytes c.far _ p.bytes outer p.far_at;
        } in
        let some = (laws.short (text x.spelling) (meaning x.spelling) (record { spelling = x.spelling; fits = filled; text_is = refl; meaning_is = refl })).0 in
        let long : length (open_bytes c) ≡ length (text x.spelling) = length-open_bytes c places ∙ ap length p.bytes in
        let all : length v.code ≡ length u.code + length (open_bytes c) = sym (ap (λ (v : UnitCodeView). length v.code) made.1) ∙ length-append u.code (open_bytes c) in
        (omega (arith, all, long, some), subst (λ (v : UnitCodeView). length v.code ≤ most_code) made.1 (within (with_inst u i.sense (Some c)) f.room_is).0)

-- what lines make of code
abbrev pub CodeGrows : UnitCodeView → UnitCodeView → List TextLine → Type 0
CodeGrows u d lines = (length u.code ≤ length d.code) × (length d.code ≤ most_code) × (has_code lines ≡ true → length u.code < length d.code)

abbrev pub Onward : Names → LabelsView → UnitCodeView → UnitCodeView → List TextLine → Type 0
Onward m ls before d more = (v : UnitCodeView) → length v.code ≤ most_code → with_lines m ls before v more ≡ Ok d → CodeGrows v d more

no_more : (u d : UnitCodeView) (lines : List TextLine) → length u.code ≤ most_code → u ≡ d → has_code lines ≡ false → CodeGrows u d lines
no_more u d lines le same none = subst (λ d. CodeGrows u d lines) same (omega arith, le, λ some. absurd (not_both (has_code lines) some none))
  where
    not_both : (b : Bool) → b ≡ true → b ≡ false → ⊥
    not_both true e f = cc
    not_both false e f = cc

-- By the first line.
first_grows : (m : Names) (ls : LabelsView) (before u d : UnitCodeView) (l : TextLine) (more : List TextLine) → LengthLaws → InReach ls → length u.code ≤ most_code → Onward m ls before d more
    → (f : Form) → l.form ≡ f → option_map_or (λ made. on_line l.number made (λ v. with_lines m ls before v more)) (code_line m ls before u f more) (Ok u) ≡ Ok d → CodeGrows u d (l ∷ more)
unfolding code_line has_code with_block
first_grows m ls before u d l more laws reach le on (form.Inst mnemonic args) is e =
    let near = distance_in_range m ls (length u.code) mnemonic args laws.spells laws.short reach (omega (arith, le)) in
    let (v, made, rest) = goes_on l.number _ (λ v. with_lines m ls before v more) d e in
    let g = inst_grows m u v mnemonic args (distance_at m ls (length u.code) mnemonic args) laws near made in
    let up = on v g.1 rest in
    let a = g.0 in
    let b = up.0 in
    (omega (arith, a, b), up.1, λ some. omega (arith, a, b))
first_grows m ls before u d l more laws reach le on (form.Label n rs slots) is e =
    let (v, made, rest) = goes_on l.number _ (λ v. with_lines m ls before v more) d e in
    let (regs, line, v_is) = block_made m u v rs slots (is_placed ls before u n more) made in
    let up = on (with_block u regs (slot_types m (slots_given slots))) le (sym (ap (λ v. with_lines m ls before v more) v_is) ∙ rest) in
    (up.0, up.1, λ some. up.2 (subst (λ f. elim f as (λ _. Bool) [ form.Inst mnemonic args ↦ true | form.Label n rs slots ↦ has_code more | _ ↦ false ] ≡ true) is some))
first_grows m ls before u d l more laws reach le on _ is e =
    no_more u d (l ∷ more) le (ok_is_one u d e) (ap (λ f. elim f as (λ _. Bool) [ form.Inst mnemonic args ↦ true | form.Label n rs slots ↦ has_code more | _ ↦ false ]) is)

lines_grow : (m : Names) (ls : LabelsView) (before u d : UnitCodeView) (lines : List TextLine) → LengthLaws → InReach ls → length u.code ≤ most_code → with_lines m ls before u lines ≡ Ok d → CodeGrows u d lines
unfolding with_lines has_code
lines_grow m ls before u d [] laws reach le e = no_more u d [] le (ok_is_one u d e) refl
lines_grow m ls before u d (l ∷ more) laws reach le e = first_grows m ls before u d l more laws reach le (λ v le e. lines_grow m ls before v d more laws reach le e) l.form refl e

-- The lines of a function make the code longer where an instruction is among them.
pub grows : (m : Names) (u d : UnitCodeView) (lines : List TextLine) → LengthLaws → Grows m u lines d
unfolding function_code
grows m u d lines laws le e =
    lines_grow m _ u u d lines laws (lines_in_reach m no_labels (length u.code) lines laws.spells laws.short tt (omega (arith, le))) le e
