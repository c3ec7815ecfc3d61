-- The code of a function in the image: its instructions with the words put in that its unit leaves out.
use Rattle.std.specs.Prelude.{is_some, ◌%◌}
use Rattle.std.specs.Option.{option_map_or}
use Rattle.std.proofs.Common.{◌≡◌, ℕ, ◌+◌, ◌-◌, ◌<◌, ◌≤◌, ◌^◌, true, List, [], ◌∷◌, drop, Option, Some, None, refl, sym, ap, ◌∙◌, arith}
use Rattle.ia32_code.specs.declared.word_offsets.WholeWords.{WholeWords}
use Rattle.ia32_code.specs.declared.instruction.Inst.{Inst}
use Rattle.file_fields.specs.Parts.{EachAfter, Each}
use Rattle.tal_image.specs.Conditions.{Spelled, begins_at, marked_number, marked_number_at}
use Rattle.tal_image.specs.Fields.{code_bytes}
use Rattle.unit_files.specs.declared.parts.UnitMark.{UnitMark}
use Rattle.unit_files.specs.declared.parts.FixUp.{FixUp}
use Rattle.unit_files.specs.Conditions.{words_in_text, hole_at}
use Rattle.image_linker.specs.LinkedRows.{TableNames, UnitBody}
use Rattle.image_linker.specs.LinkedCode.{Places, fixed_word, marked_index, marked_word, word_put_at, holes_filled, marked_code}
use Rattle.image_linker.proofs.Formed.Fills.{CodeLaws}
use Rattle.image_linker.proofs.Formed.Instructions.{spelled_at}
use Rattle.image_linker.proofs.Formed.Refilled.{Refills, fill_code, mark_code, refills_narrow}

module _ (laws : CodeLaws) (t : TableNames) (places : Places) (b : UnitBody) (ss : List Spelled) where
  -- the holes filled
  pub filled_code : (begin : ℕ) (fs : List FixUp) (rs : List Spelled) → Refills ss rs → Each (λ (f : FixUp). hole_at (f.offset - b.start) ss ≡ true) fs
      → (qs : List Spelled) × Refills ss qs × (holes_filled t places begin b fs (code_bytes rs) ≡ code_bytes qs)
  filled_code begin [] rs h e = (rs, h, refl)
  filled_code begin (f ∷ fs) rs h e =
      let one = fill_code laws ss rs (f.offset - b.start) (fixed_word t places b.unit (begin + (f.offset - b.start)) f) h e.0 in
      let more = filled_code begin fs one.0 one.1 e.1 in
      (more.0, more.1, ap (holes_filled t places begin b fs) one.2 ∙ more.2)

  -- the word of a mark
  abbrev pub word_of : UnitMark → ℕ
  word_of m = marked_word places m.tag (marked_index t b.unit m)

  -- a mark at one of the instructions
  pub record MarkFits (m : UnitMark) : Type 0 where
    pub here : Spelled
    pub there : spelled_at (m.offset - b.start) ss ≡ Some here
    pub words : words_in_text (drop m.offset b.unit.code) ≡ words_in_text here.text
    pub zero_number : marked_number_at (m.offset - b.start) ss ≡ Some 0
    pub wide : (words_in_text here.text).at_end ≡ None → word_of m ≡ 0
    pub low : b.start ≤ m.offset

  -- one mark's word put in
  record OneMark (m : UnitMark) (rs qs : List Spelled) : Type 0 where
    refills : Refills ss qs
    bytes : word_put_at (option_map_or (λ at. Some (m.offset - b.start + at)) (words_in_text (drop m.offset b.unit.code)).at_end None) (word_of m) (code_bytes rs) ≡ code_bytes qs
    mark : marked_number_at (m.offset - b.start) qs ≡ Some (word_of m % 2 ^ 32)
    others : (p : ℕ) → (p ≡ m.offset - b.start → ⊥) → begins_at p qs ≡ begins_at p rs

  -- the word is the immediate number, where it has four bytes; else it is 0, as that number is
  one_mark : (m : UnitMark) (rs : List Spelled) → Refills ss rs → MarkFits m → (qs : List Spelled) × OneMark m rs qs
  one_mark m rs h f = by (words_in_text f.here.text).at_end refl
    where
      by : (o : Option ℕ) → (words_in_text f.here.text).at_end ≡ o → (qs : List Spelled) × OneMark m rs qs
      by None e = (
        rs,
        record {
          refills = h;
          bytes = ap (λ (w : WholeWords). word_put_at (option_map_or (λ at. Some (m.offset - b.start + at)) w.at_end None) (word_of m) (code_bytes rs)) f.words
              ∙ ap (λ (o : Option ℕ). word_put_at (option_map_or (λ at. Some (m.offset - b.start + at)) o None) (word_of m) (code_bytes rs)) e;
          mark = refills_narrow ss rs (m.offset - b.start) h f.here f.there e ∙ f.zero_number ∙ ap (λ w. Some (w % 2 ^ 32)) (sym (f.wide e));
          others = λ p ne. refl;
        },
      )
      by (Some k) e =
          let q = mark_code laws ss rs (m.offset - b.start) k (word_of m) f.here h f.there e in
          let d = q.1 in (
            q.0,
            record {
              refills = d.refills;
              bytes = ap (λ (w : WholeWords). word_put_at (option_map_or (λ at. Some (m.offset - b.start + at)) w.at_end None) (word_of m) (code_bytes rs)) f.words
                  ∙ ap (λ (o : Option ℕ). word_put_at (option_map_or (λ at. Some (m.offset - b.start + at)) o None) (word_of m) (code_bytes rs)) e ∙ d.bytes;
              mark = d.mark (ap is_some f.zero_number);
              others = d.others;
            },
          )

  -- the marked words put in
  pub record MarksDone (ms : List UnitMark) (least : ℕ) (rs qs : List Spelled) : Type 0 where
    pub refills : Refills ss qs
    pub bytes : marked_code t places b ms (code_bytes rs) ≡ code_bytes qs
    pub marks : Each (λ (m : UnitMark). marked_number_at (m.offset - b.start) qs ≡ Some (word_of m % 2 ^ 32)) ms
    pub others : (p : ℕ) → p + b.start < least → begins_at p qs ≡ begins_at p rs

  -- all of them put in, one after another
  pub marks_code : (ms : List UnitMark) (least : ℕ) (rs : List Spelled) → Refills ss rs → EachAfter (λ (n : ℕ) (m : UnitMark). m.offset + 1) (λ later n m. (n ≤ m.offset) × MarkFits m) least ms
      → (qs : List Spelled) × MarksDone ms least rs qs
  unfolding marked_number_at
  marks_code [] least rs h e = (rs, record { refills = h; bytes = refl; marks = tt; others = λ p lt. refl })
  marks_code (m ∷ ms) least rs h e =
      let one = one_mark m rs h e.0.1 in
      let first = one.1 in
      let more = marks_code ms (m.offset + 1) one.0 first.refills e.1 in
      let later = more.1 in
      let low = e.0.1.low in (
        more.0,
        record {
          refills = later.refills;
          bytes = ap (marked_code t places b ms) first.bytes ∙ later.bytes;
          marks = (ap (λ (x : Option Inst). option_map_or marked_number x None) (later.others (m.offset - b.start) (omega (arith, low))) ∙ first.mark, later.marks);
          others = λ p lt. later.others p (omega (arith, lt, e.0.0)) ∙ first.others p (λ is. omega (arith, lt, e.0.0, is, low));
        },
      )
