-- Code whose holes are filled, one after another: its instructions are as long, with other words.
use Rattle.std.specs.Prelude.{is_some, ◌==◌, ◌%◌, ◌||◌}
use Rattle.std.specs.Option.{option_map_or}
use Rattle.std.proofs.Common.{◌≡◌, ℕ, zero, suc, ◌+◌, ◌-◌, ◌<◌, ◌≤◌, ◌^◌, true, cond, eqb, ltb, List, [], ◌∷◌, ◌++◌, length, take, drop, Option, Some, None, ◌⊎◌, inl, inr, refl, sym, ap, ◌∙◌, append_assoc, arith}
use Rattle.std.proofs.lemmas.Bool.{false≢true, cases_eq, cases_lt, ne_eqb, lt-ltb, le-ltb, eqb-true, and_parts, or_cases}
use Rattle.std.proofs.lemmas.List.{take-append-le, drop-append-le}
use Rattle.std.proofs.lemmas.Option.{same_Some}
use Rattle.ia32_code.specs.declared.instruction.Inst.{Inst}
use Rattle.ia32_code.specs.declared.word_offsets.WholeWords.{WholeWords}
use Rattle.ia32_code.specs.Spells.{Spells}
use Rattle.file_fields.specs.Parts.{Each}
use Rattle.file_fields.specs.Grammar.{bytes_number}
use Rattle.tal_image.specs.Image.{number_bytes}
use Rattle.tal_image.specs.Conditions.{Spelled, begins_at, marked_number, marked_number_at}
use Rattle.tal_image.specs.Fields.{code_bytes}
use Rattle.unit_files.specs.Conditions.{words_in_text, is_that_place, hole_in, hole_at}
use Rattle.image_linker.specs.LinkedCode.{word_put}
use Rattle.image_linker.proofs.Formed.Fills.{CodeLaws, Refill, refill_both, refill_within, refill_end, within_room, end_room}
use Rattle.image_linker.proofs.Formed.Instructions.{spelled_at, at_front, inside, behind, size, size_cons}

-- each instruction with other words
abbrev pub Refills : List Spelled → List Spelled → Type 0
Refills [] [] = Unit {0}
Refills [] (r ∷ rs) = ⊥
Refills (s ∷ ss) [] = ⊥
Refills (s ∷ ss) (r ∷ rs) = Refill s r × Refills ss rs

-- each instruction is spelled by its bytes
abbrev pub AllSpelled : List Spelled → Type 0
AllSpelled code = Each (λ (s : Spelled). Spells s.text s.means) code

-- ---- a word put into bytes that are joined

-- into the first bytes
with_left : (at w : ℕ) (xs ys : List ℕ) → at + 4 ≤ length xs → word_put at w (xs ++ ys) ≡ word_put at w xs ++ ys
with_left at w xs ys fits =
    ap (λ t. t ++ (number_bytes w ++ drop (at + 4) (xs ++ ys))) (take-append-le at xs ys (omega arith)) ∙ ap (λ t. take at xs ++ (number_bytes w ++ t)) (drop-append-le (at + 4) xs ys fits)
    ∙ ap (λ t. take at xs ++ t) (sym (append_assoc (number_bytes w) (drop (at + 4) xs) ys)) ∙ sym (append_assoc (take at xs) (number_bytes w ++ drop (at + 4) xs) ys)

-- one byte further on
with_step : (at w x : ℕ) (xs : List ℕ) → word_put (suc at) w (x ∷ xs) ≡ x ∷ word_put at w xs
with_step at w x xs = let e : suc at + 4 ≡ suc (at + 4) = omega arith in ap (λ n. (x ∷ take at xs) ++ (number_bytes w ++ drop n (x ∷ xs))) e

-- into those behind them
with_right : (at w : ℕ) (xs ys : List ℕ) → length xs ≤ at → word_put at w (xs ++ ys) ≡ xs ++ word_put (at - length xs) w ys
with_right at w [] ys fits = let e : at ≡ at - 0 = omega arith in ap (λ n. word_put n w ys) e
with_right zero w (x ∷ xs) ys fits = absurd (omega arith)
with_right (suc at) w (x ∷ xs) ys fits =
    let e : at - length xs ≡ suc at - suc (length xs) = omega arith in
    with_step at w x (xs ++ ys) ∙ ap (λ t. x ∷ t) (with_right at w xs ys (omega arith)) ∙ ap (λ n. x ∷ (xs ++ word_put n w ys)) e

-- ---- what stays

-- the code is as long
pub refills_long : (ss rs : List Spelled) → Refills ss rs → size rs ≡ size ss
refills_long [] [] h = refl
refills_long [] (r ∷ rs) h = absurd h
refills_long (s ∷ ss) [] h = absurd h
refills_long (s ∷ ss) (r ∷ rs) h = size_cons r rs ∙ ap (λ n. n + size rs) h.0.long ∙ ap (λ n. length s.text + n) (refills_long ss rs h.1) ∙ sym (size_cons s ss)

-- the same instructions begin, with other words
record SameAt (ss rs : List Spelled) (o : ℕ) : Type 0 where
  begins : is_some (begins_at o rs) ≡ is_some (begins_at o ss)
  marks : is_some (marked_number_at o rs) ≡ is_some (marked_number_at o ss)
  narrow : (s : Spelled) → spelled_at o ss ≡ Some s → (words_in_text s.text).at_end ≡ None → marked_number_at o rs ≡ marked_number_at o ss

-- at each offset the same instruction begins
same_at : (ss rs : List Spelled) (o : ℕ) → Refills ss rs → SameAt ss rs o
unfolding begins_at marked_number_at spelled_at
same_at [] [] o h = record { begins = refl; marks = refl; narrow = λ s e n. refl }
same_at [] (r ∷ rs) o h = absurd h
same_at (s ∷ ss) [] o h = absurd h
same_at (s ∷ ss) (r ∷ rs) o h = by (cases_eq o 0) (cases_lt o (length s.text)) (same_at ss rs (o - length s.text) h.1)
  where
    place : cond (eqb o 0) (Some r.means) (cond (ltb o (length r.text)) None (begins_at (o - length r.text) rs)) ≡ cond (eqb o 0) (Some r.means) (cond (ltb o (length s.text)) None (begins_at (o - length s.text) rs))
    place = ap (λ n. cond (eqb o 0) (Some r.means) (cond (ltb o n) None (begins_at (o - n) rs))) h.0.long

    by : (o ≡ 0) ⊎ (o ≡ 0 → ⊥) → (o < length s.text) ⊎ (length s.text ≤ o) → SameAt ss rs (o - length s.text) → SameAt (s ∷ ss) (r ∷ rs) o
    by (inl e) l later =
        let here = at_front o (length r.text) (Some r.means) None (begins_at (o - length r.text) rs) e in
        let there = at_front o (length s.text) (Some s.means) None (begins_at (o - length s.text) ss) e in
        record {
          begins = ap is_some here ∙ sym (ap is_some there);
          marks = ap (λ (x : Option Inst). is_some (option_map_or marked_number x None)) here ∙ h.0.marked ∙ sym (ap (λ (x : Option Inst). is_some (option_map_or marked_number x None)) there);
          narrow = λ q is none.
              let same : s ≡ q = same_Some s q (sym (at_front o (length s.text) (Some s) None (spelled_at (o - length s.text) ss) e) ∙ is) in
              ap (λ (x : Option Inst). option_map_or marked_number x None) here ∙ h.0.narrow (ap (λ (x : Spelled). (words_in_text x.text).at_end) same ∙ none)
              ∙ sym (ap (λ (x : Option Inst). option_map_or marked_number x None) there);
        }
    by (inr ne) (inl l) later =
        let some : 0 < o = omega (arith, ne) in
        let here = place ∙ inside o (length s.text) (Some r.means) None (begins_at (o - length s.text) rs) some l in
        let there = inside o (length s.text) (Some s.means) None (begins_at (o - length s.text) ss) some l in
        record {
          begins = ap is_some here ∙ sym (ap is_some there);
          marks = ap (λ (x : Option Inst). is_some (option_map_or marked_number x None)) here ∙ sym (ap (λ (x : Option Inst). is_some (option_map_or marked_number x None)) there);
          narrow = λ q is none. ap (λ (x : Option Inst). option_map_or marked_number x None) here ∙ sym (ap (λ (x : Option Inst). option_map_or marked_number x None) there);
        }
    by (inr ne) (inr ge) later =
        let some : 0 < o = omega (arith, ne) in
        let here = place ∙ behind o (length s.text) (Some r.means) None (begins_at (o - length s.text) rs) some ge in
        let there = behind o (length s.text) (Some s.means) None (begins_at (o - length s.text) ss) some ge in
        record {
          begins = ap is_some here ∙ later.begins ∙ sym (ap is_some there);
          marks = ap (λ (x : Option Inst). is_some (option_map_or marked_number x None)) here ∙ later.marks ∙ sym (ap (λ (x : Option Inst). is_some (option_map_or marked_number x None)) there);
          narrow = λ q is none.
              ap (λ (x : Option Inst). option_map_or marked_number x None) here ∙ later.narrow q (sym (behind o (length s.text) (Some s) None (spelled_at (o - length s.text) ss) some ge) ∙ is) none
              ∙ sym (ap (λ (x : Option Inst). option_map_or marked_number x None) there);
        }

-- as many begin
pub refills_begin : (ss rs : List Spelled) (o : ℕ) → Refills ss rs → is_some (begins_at o rs) ≡ is_some (begins_at o ss)
refills_begin ss rs o h = (same_at ss rs o h).begins

-- that number stays where it has no four bytes
pub refills_narrow : (ss rs : List Spelled) (o : ℕ) → Refills ss rs → (s : Spelled) → spelled_at o ss ≡ Some s → (words_in_text s.text).at_end ≡ None → marked_number_at o rs ≡ marked_number_at o ss
refills_narrow ss rs o h = (same_at ss rs o h).narrow

-- ---- filling

-- the place that passes is this one
that_place : (p : Option ℕ) (k : ℕ) → is_that_place p k ≡ true → p ≡ Some k
that_place None k h = absurd (false≢true h)
that_place (Some n) k h = ap Some (eqb-true n k h)

module _ (laws : CodeLaws) where
  -- a word put into an instruction where one of its holes was
  refill_hole : (s r : Spelled) (o w : ℕ) → Refill s r → hole_in s.text o ≡ true → (q : Spelled) × Refill s q × (q.text ≡ word_put o w r.text) × (o + 4 ≤ length r.text)
  unfolding hole_in
  refill_hole s r o w h hole =
      let place = (and_parts (is_that_place (words_in_text s.text).within o || is_that_place (words_in_text s.text).at_end o) (bytes_number (take 4 (drop o s.text)) == 0) hole).0 in
      by (or_cases (is_that_place (words_in_text s.text).within o) (is_that_place (words_in_text s.text).at_end o) place)
    where
      by : (is_that_place (words_in_text s.text).within o ≡ true) ⊎ (is_that_place (words_in_text s.text).at_end o ≡ true) → (q : Spelled) × Refill s q × (q.text ≡ word_put o w r.text) × (o + 4 ≤ length r.text)
      by (inl p) =
          let at = ap (λ (x : WholeWords). x.within) h.words ∙ that_place (words_in_text s.text).within o p in
          let m = refill_within laws r o w h.spells at in
          let q : Spelled = record { text = word_put o w r.text; means = m.0 } in
          (q, refill_both s r q h m.1, refl, within_room laws r.text r.means h.spells o at)
      by (inr p) =
          let at = ap (λ (x : WholeWords). x.at_end) h.words ∙ that_place (words_in_text s.text).at_end o p in
          let m = refill_end laws r o w h.spells at in
          let q : Spelled = record { text = word_put o w r.text; means = m.0 } in
          (q, refill_both s r q h m.1, refl, end_room laws r.text r.means h.spells o at)

  -- and into code
  pub fill_code : (ss rs : List Spelled) (o w : ℕ) → Refills ss rs → hole_at o ss ≡ true → (qs : List Spelled) × Refills ss qs × (word_put o w (code_bytes rs) ≡ code_bytes qs)
  unfolding hole_at
  fill_code [] rs o w h hole = absurd (false≢true hole)
  fill_code (s ∷ ss) [] o w h hole = absurd h
  fill_code (s ∷ ss) (r ∷ rs) o w h hole = by (cases_lt o (length s.text)) (λ e. fill_code ss rs (o - length s.text) w h.1 e)
    where
      by : (o < length s.text) ⊎ (length s.text ≤ o) → (hole_at (o - length s.text) ss ≡ true → (qs : List Spelled) × Refills ss qs × (word_put (o - length s.text) w (code_bytes rs) ≡ code_bytes qs))
          → (qs : List Spelled) × Refills (s ∷ ss) qs × (word_put o w (r.text ++ code_bytes rs) ≡ code_bytes qs)
      by (inl l) later =
          let here : hole_in s.text o ≡ true = sym (ap (λ b. cond b (hole_in s.text o) (hole_at (o - length s.text) ss)) (lt-ltb o (length s.text) l)) ∙ hole in
          let q = refill_hole s r o w h.0 here in
          (q.0 ∷ rs, (q.1, h.1), with_left o w r.text (code_bytes rs) q.3 ∙ ap (λ t. t ++ code_bytes rs) (sym q.2))
      by (inr ge) later =
          let there : hole_at (o - length s.text) ss ≡ true = sym (ap (λ b. cond b (hole_in s.text o) (hole_at (o - length s.text) ss)) (le-ltb o (length s.text) ge)) ∙ hole in
          let q = later there in
          (r ∷ q.0, (h.0, q.1), with_right o w r.text (code_bytes rs) (omega (arith, ge, h.0.long)) ∙ ap (λ n. r.text ++ word_put (o - n) w (code_bytes rs)) h.0.long ∙ ap (λ t. r.text ++ t) q.2)

-- a marked word put in: it is the immediate number, and nothing else changes
pub record Marked (ss rs qs : List Spelled) (o place w : ℕ) : Type 0 where
  pub refills : Refills ss qs
  pub bytes : word_put place w (code_bytes rs) ≡ code_bytes qs
  pub mark : is_some (marked_number_at o ss) ≡ true → marked_number_at o qs ≡ Some (w % 2 ^ 32)
  pub others : (p : ℕ) → (p ≡ o → ⊥) → begins_at p qs ≡ begins_at p rs

module _ (laws : CodeLaws) where
  -- a word put at the end of the instruction at an offset
  pub mark_code : (ss rs : List Spelled) (o k w : ℕ) (s : Spelled) → Refills ss rs → spelled_at o ss ≡ Some s → (words_in_text s.text).at_end ≡ Some k → (qs : List Spelled) × Marked ss rs qs o (o + k) w
  unfolding spelled_at marked_number_at begins_at
  mark_code [] rs o k w t h e at = absurd cc
  mark_code (s ∷ ss) [] o k w t h e at = absurd h
  mark_code (s ∷ ss) (r ∷ rs) o k w t h e at = by (cases_eq o 0) (cases_lt o (length s.text)) (λ is. mark_code ss rs (o - length s.text) k w t h.1 is at)
    where
      by : (o ≡ 0) ⊎ (o ≡ 0 → ⊥) → (o < length s.text) ⊎ (length s.text ≤ o) → (spelled_at (o - length s.text) ss ≡ Some t → (qs : List Spelled) × Marked ss rs qs (o - length s.text) (o - length s.text + k) w)
          → (qs : List Spelled) × Marked (s ∷ ss) (r ∷ rs) qs o (o + k) w
      by (inl z) l later =
          let same : s ≡ t = same_Some s t (sym (at_front o (length s.text) (Some s) None (spelled_at (o - length s.text) ss) z) ∙ e) in
          let place = ap (λ (x : WholeWords). x.at_end) h.0.words ∙ ap (λ (x : Spelled). (words_in_text x.text).at_end) same ∙ at in
          let m = refill_end laws r k w h.0.spells place in
          let q : Spelled = record { text = word_put k w r.text; means = m.0 } in
          let long : length q.text ≡ length r.text = m.1.long in
          let plus : o + k ≡ k = omega (arith, z) in (
            q ∷ rs,
            record {
              refills = (refill_both s r q h.0 m.1, h.1);
              bytes = ap (λ n. word_put n w (r.text ++ code_bytes rs)) plus ∙ with_left k w r.text (code_bytes rs) (end_room laws r.text r.means h.0.spells k place);
              mark = λ some.
                  ap (λ (x : Option Inst). option_map_or marked_number x None) (at_front o (length q.text) (Some q.means) None (begins_at (o - length q.text) rs) z)
                  ∙ m.2 (h.0.marked ∙ sym (ap (λ (x : Option Inst). is_some (option_map_or marked_number x None)) (at_front o (length s.text) (Some s.means) None (begins_at (o - length s.text) ss) z)) ∙ some);
              others = λ p ne.
                  ap (λ b. cond b (Some q.means) (cond (ltb p (length q.text)) None (begins_at (p - length q.text) rs))) (ne_eqb p 0 (λ i. ne (i ∙ sym z)))
                  ∙ ap (λ n. cond (ltb p n) None (begins_at (p - n) rs)) long
                  ∙ sym (ap (λ b. cond b (Some r.means) (cond (ltb p (length r.text)) None (begins_at (p - length r.text) rs))) (ne_eqb p 0 (λ i. ne (i ∙ sym z))));
            },
          )
      by (inr ne) (inl l) later =
          let some : 0 < o = omega (arith, ne) in
          absurd (let none : ◌≡◌ {A = Option Spelled} None (Some t) = sym (inside o (length s.text) (Some s) None (spelled_at (o - length s.text) ss) some l) ∙ e in cc)
      by (inr ne) (inr ge) later =
          let some : 0 < o = omega (arith, ne) in
          let q = later (sym (behind o (length s.text) (Some s) None (spelled_at (o - length s.text) ss) some ge) ∙ e) in
          let m = q.1 in
          let off : o + k - length r.text ≡ o - length s.text + k = omega (arith, ge, h.0.long) in (
            r ∷ q.0,
            record {
              refills = (h.0, m.refills);
              bytes = with_right (o + k) w r.text (code_bytes rs) (omega (arith, ge, h.0.long)) ∙ ap (λ n. r.text ++ word_put n w (code_bytes rs)) off ∙ ap (λ b. r.text ++ b) m.bytes;
              mark = λ is.
                  ap (λ (x : Option Inst). option_map_or marked_number x None) (ap (λ n. cond (eqb o 0) (Some r.means) (cond (ltb o n) None (begins_at (o - n) q.0))) h.0.long ∙ behind o (length s.text) (Some r.means) None (begins_at (o - length s.text) q.0) some ge)
                  ∙ m.mark (sym (ap (λ (x : Option Inst). is_some (option_map_or marked_number x None)) (behind o (length s.text) (Some s.means) None (begins_at (o - length s.text) ss) some ge)) ∙ is);
              others = λ p ne_p. other p ne_p q.0 m.others (cases_lt p (length r.text));
            },
          )
        where
          other : (p : ℕ) → (p ≡ o → ⊥) → (qs : List Spelled) → ((x : ℕ) → (x ≡ o - length s.text → ⊥) → begins_at x qs ≡ begins_at x rs) → (p < length r.text) ⊎ (length r.text ≤ p)
              → cond (eqb p 0) (Some r.means) (cond (ltb p (length r.text)) None (begins_at (p - length r.text) qs)) ≡ cond (eqb p 0) (Some r.means) (cond (ltb p (length r.text)) None (begins_at (p - length r.text) rs))
          other p ne_p qs same (inl lt) = rw (lt-ltb p (length r.text) lt) refl
          other p ne_p qs same (inr low) =
              ap (λ (x : Option Inst). cond (eqb p 0) (Some r.means) (cond (ltb p (length r.text)) None x)) (same (p - length r.text) (λ i. ne_p (omega (arith, i, ge, low, h.0.long))))
