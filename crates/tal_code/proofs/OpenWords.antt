-- An instruction's bytes with 0 in its holes spell an instruction.
use Rattle.std.proofs.Common.{◌≡◌, ◌<◌, ◌^◌, ℕ, ◌+◌, List, [], ◌∷◌, ◌++◌, length, take, drop, Option, Some, None, refl, sym, ap, subst, ◌∙◌, arith, ◌⊎◌, inl, inr}
use Rattle.std.specs.Prelude.{option_map}
use Rattle.std.specs.Option.{option_and_then, option_or}
use Rattle.std.specs.Int.{w32, to_le_bytes}
use Rattle.std.proofs.lemmas.List.{append_assoc, take_at, drop_at}
use Rattle.ia32_code.specs.declared.spelling.Spelling.{Spelling}
use Rattle.ia32_code.specs.declared.row.Trailing.{Trailing}
use Rattle.ia32_code.specs.declared.row.Trailing.TheVariants.{Nothing, Byte, Word}
use Rattle.ia32_code.specs.Table.{line}
use Rattle.ia32_code.specs.Spells.{Filled, text}
use Rattle.ia32_code.specs.WholeWords.{WordPlace, Within, AtEnd, Filling, whole_word, word_offset, end_word, Fillable, EndStays}
use Rattle.tal_operands.specs.declared.operands.Hole.{Hole}
use Rattle.tal_operands.specs.declared.instructions.Instruction.{Instruction}
use Rattle.tal_code.specs.declared.holes.HolePlace.{HolePlace}
use Rattle.tal_code.specs.declared.holes.HoledCode.{HoledCode}
use Rattle.tal_code.specs.Holes.{spelling_for, spelled_as, hole_place, with_places, holed_code, zero_word, zeroed, zeroed_hole, open_bytes, IsOpen}

-- The bytes with 0 in the word at a place, by the bytes before it and behind it.
pub zeroed_between : (before behind t : List ℕ) (word : ℕ) → t ≡ before ++ to_le_bytes w32 word ++ behind
    → zeroed (length before) t ≡ before ++ to_le_bytes w32 0 ++ behind
unfolding zeroed
zeroed_between before behind t word is =
    let parts : t ≡ before ++ (to_le_bytes w32 word ++ behind) = is ∙ append_assoc before (to_le_bytes w32 word) behind in
    let front : take (length before) t ≡ before = ap (take (length before)) parts ∙ take_at before (to_le_bytes w32 word ++ behind) (length before) refl in
    let rest : drop (length before) t ≡ to_le_bytes w32 word ++ behind = ap (drop (length before)) parts ∙ drop_at before (to_le_bytes w32 word ++ behind) (length before) refl in
    let end : drop 4 (drop (length before) t) ≡ behind = ap (drop 4) rest ∙ drop_at (to_le_bytes w32 word) behind 4 refl in
    rw (front, end) (sym (append_assoc before (to_le_bytes w32 0) behind))

-- What a word becomes when it is cleared: a filled row again.
pub record Cleared (place : WordPlace) (s : Spelling) (k : ℕ) : Type 0 where
  pub word : Filling
  pub there : whole_word place s ≡ Some word
  pub at : k ≡ length word.before
  pub filled : Filled (word.with 0)
  pub bytes : zeroed k (text s) ≡ text (word.with 0)

-- A word that is there may be cleared.
pub clears : (place : WordPlace) (s : Spelling) (k : ℕ) → Filled s
    → ((place : WordPlace) (s : Spelling) (f : Filling) → Filled s → whole_word place s ≡ Some f → Fillable s f)
    → word_offset place s ≡ Some k → Cleared place s k
clears place s k filled fits is = by_word (whole_word place s) refl
  where
    one : (a b : ℕ) → Some a ≡ Some b → b ≡ a
    one a b e = cc

    by_word : (o : Option Filling) → whole_word place s ≡ o → Cleared place s k
    by_word None none = absurd (nothing (sym (ap (option_map (λ (f : Filling). length f.before)) none) ∙ is))
      where
        nothing : None ≡ Some k → ⊥
        nothing e = cc
    by_word (Some f) some =
        let can = fits place s f filled some in
        let at : k ≡ length f.before = one (length f.before) k (sym (ap (option_map (λ (f : Filling). length f.before)) some) ∙ is) in
        record {
          word = f;
          there = some;
          at = at;
          filled = can.filled 0 (omega arith);
          bytes = ap (λ n. zeroed n (text s)) at ∙ zeroed_between f.before f.behind (text s) f.word can.has ∙ sym (can.text_is 0);
        }

-- What one fits all: any word may stand in a whole word.
abbrev pub AnyFits : Type 0
AnyFits = (place : WordPlace) (s : Spelling) (f : Filling) → Filled s → whole_word place s ≡ Some f → Fillable s f

-- And another word within leaves the one at the end.
abbrev pub EndsStay : Type 0
EndsStay = (s : Spelling) (inner outer : Filling) (word : ℕ) → Filled s → whole_word Within s ≡ Some inner → whole_word AtEnd s ≡ Some outer → EndStays s inner outer word

-- What is there is one thing.
one : {A : Type 0} (a b : A) → Some a ≡ Some b → a ≡ b
one a b e = cc

-- The word at the end has its place by the row and the form alone.
end_place : (s : Spelling) (t : Trailing) (f : Filling) → (line s.row).trailing ≡ t → end_word s t ≡ Some f → word_offset AtEnd (f.with 0) ≡ Some (length f.before)
unfolding whole_word
end_place s Nothing f is e = cc
end_place s Byte f is e = cc
end_place s Word f is e = subst (λ (f : Filling). word_offset AtEnd (f.with 0) ≡ Some (length f.before)) (one _ f e) (rw is refl)

-- a filled row for the bytes, in which the word at the end is where it was
pub record Step (s : Spelling) (bytes : List ℕ) : Type 0 where
  pub next : Spelling
  pub filled : Filled next
  pub text_is : bytes ≡ text next
  pub stays : (k : ℕ) → word_offset AtEnd s ≡ Some k → word_offset AtEnd next ≡ Some k

-- The word at the end is cleared.
end_step : (s : Spelling) (k : ℕ) → Filled s → AnyFits → word_offset AtEnd s ≡ Some k → Step s (zeroed k (text s))
unfolding whole_word
end_step s k filled fits is =
    let c = clears AtEnd s k filled fits is in
    record {
      next = c.word.with 0;
      filled = c.filled;
      text_is = c.bytes;
      stays = λ j at. end_place s (line s.row).trailing c.word refl c.there ∙ ap Some (sym c.at) ∙ sym is ∙ at;
    }

-- The word within is cleared.
inner_step : (s : Spelling) (k : ℕ) → Filled s → AnyFits → EndsStay → word_offset Within s ≡ Some k → Step s (zeroed k (text s))
inner_step s k filled fits ends is =
    let c = clears Within s k filled fits is in
    record {
      next = c.word.with 0;
      filled = c.filled;
      text_is = c.bytes;
      stays = λ j at. stays c (whole_word AtEnd s) refl j at;
    }
  where
    stays : (c : Cleared Within s k) (o : Option Filling) → whole_word AtEnd s ≡ o → (j : ℕ) → word_offset AtEnd s ≡ Some j → word_offset AtEnd (c.word.with 0) ≡ Some j
    stays c None none j at = absurd (nothing (sym (ap (option_map (λ (f : Filling). length f.before)) none) ∙ at))
      where
        nothing : None ≡ Some j → ⊥
        nothing e = cc
    stays c (Some g) some j at =
        let e = ends s c.word g 0 filled c.there some in
        ap (option_map (λ (f : Filling). length f.before)) e.there ∙ ap Some e.place ∙ sym (ap (option_map (λ (f : Filling). length f.before)) some) ∙ at

-- a hole's place, where there is one
abbrev pub IsAt : Option HolePlace → Option ℕ → Type 0
IsAt None place = Unit {0}
IsAt (Some p) place = place ≡ Some p.at

-- A hole that is placed lies there.
pub placed_at : (h : Option Hole) (place : Option ℕ) (o : Option HolePlace) → hole_place h place ≡ Some o → IsAt o place
unfolding hole_place
placed_at None place o e = subst (λ o. IsAt o place) (one None o e) tt
placed_at (Some h) None o e = cc
placed_at (Some h) (Some k) o e = subst (λ o. IsAt o (Some k)) (one (Some (record { at = k; hole = h })) o e) refl

-- The hole of an address is cleared.
near_step : (s : Spelling) (o : Option HolePlace) → Filled s → AnyFits → EndsStay → IsAt o (option_or (word_offset Within s) (word_offset AtEnd s)) → Step s (zeroed_hole o (text s))
unfolding zeroed_hole
near_step s None filled fits ends at = record { next = s; filled = filled; text_is = refl; stays = λ k is. is }
near_step s (Some p) filled fits ends at = by_place (word_offset Within s) refl
  where
    by_place : (o : Option ℕ) → word_offset Within s ≡ o → Step s (zeroed p.at (text s))
    by_place None none = end_step s p.at filled fits (sym (ap (λ o. option_or o (word_offset AtEnd s)) none) ∙ at)
    by_place (Some k) some = inner_step s p.at filled fits ends (some ∙ sym (ap (λ o. option_or o (word_offset AtEnd s)) some) ∙ at)

-- Both holes are cleared.
pub opened_text : (s : Spelling) (c : HoledCode) → c.bytes ≡ text s → Filled s → AnyFits → EndsStay
    → IsAt c.near (option_or (word_offset Within s) (word_offset AtEnd s)) → IsAt c.far (word_offset AtEnd s) → IsOpen c
unfolding open_bytes zeroed_hole
opened_text s c bytes filled fits ends near far = by_far c.far refl far
  where
    by_far : (o : Option HolePlace) → c.far ≡ o → IsAt o (word_offset AtEnd s) → IsOpen c
    by_far None none at =
        let a = near_step s c.near filled fits ends near in
        record { spelling = a.next; filled = a.filled; bytes = rw (none, bytes) a.text_is }
    by_far (Some p) some at =
        let a = near_step s c.near filled fits ends near in
        let b = end_step a.next p.at a.filled fits (a.stays p.at at) in
        record { spelling = b.next; filled = b.filled; bytes = rw (some, bytes, a.text_is) b.text_is }

-- What has places is opened.
pub with_places_opens : (i : Instruction) (s : Spelling) (c : HoledCode) → Filled s → AnyFits → EndsStay → with_places i (spelled_as s) ≡ Some c → IsOpen c
unfolding with_places spelled_as
with_places_opens i s c filled fits ends e = by_near (hole_place i.near (option_or (word_offset Within s) (word_offset AtEnd s))) refl e
  where
    far_of : Option HolePlace → Option (Option HolePlace) → Option HoledCode
    far_of near o = option_map (λ far. record { bytes = text s; near = near; far = far }) o

    by_far : (near : Option HolePlace) (o : Option (Option HolePlace)) → hole_place i.far (word_offset AtEnd s) ≡ o
        → IsAt near (option_or (word_offset Within s) (word_offset AtEnd s)) → far_of near o ≡ Some c → IsOpen c
    by_far near None is at e = cc
    by_far near (Some far) is at e =
        subst IsOpen (one (record { bytes = text s; near = near; far = far }) c e)
        (opened_text s (record { bytes = text s; near = near; far = far }) refl filled fits ends at (placed_at i.far (word_offset AtEnd s) far is))

    by_near : (o : Option (Option HolePlace)) → hole_place i.near (option_or (word_offset Within s) (word_offset AtEnd s)) ≡ o
        → option_and_then (λ near. far_of near (hole_place i.far (word_offset AtEnd s))) o ≡ Some c → IsOpen c
    by_near None is e = cc
    by_near (Some near) is e = by_far near (hole_place i.far (word_offset AtEnd s)) refl (placed_at i.near _ near is) e

-- An instruction that has a canonical spelling is opened.
pub opens : (i : Instruction) (c : HoledCode) → ((s : Spelling) → spelling_for i.words ≡ Some s → Filled s) → AnyFits → EndsStay → holed_code i ≡ Some c → IsOpen c
unfolding holed_code
opens i c filled fits ends e = by_spelling (spelling_for i.words) refl e
  where
    by_spelling : (o : Option Spelling) → spelling_for i.words ≡ o → option_and_then (λ s. with_places i (spelled_as s)) o ≡ Some c → IsOpen c
    by_spelling None is e = cc
    by_spelling (Some s) is e = with_places_opens i s c (filled s is) fits ends e
