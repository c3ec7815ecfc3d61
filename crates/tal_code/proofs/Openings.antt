-- Where the holes lie in the bytes of an instruction.
use Rattle.std.proofs.Common.{◌≡◌, ℕ, ◌+◌, ◌≤◌, [], ◌++◌, length, take, drop, Bool, true, false, ◌&&◌, ◌||◌, Option, Some, None, is_some, refl, sym, ap, subst, ◌∙◌, arith}
use Rattle.std.specs.Prelude.{◌==◌, option_map, IfSome}
use Rattle.std.specs.Option.{option_or}
use Rattle.std.specs.Int.{w32, to_le_bytes}
use Rattle.std.proofs.lemmas.List.{append_assoc, take_at, drop_at, length-append, append-nil}
use Rattle.ia32_code.specs.declared.spelling.Spelling.{Spelling}
use Rattle.ia32_code.specs.Spells.{Filled, text}
use Rattle.ia32_code.specs.WholeWords.{WordPlace, Within, AtEnd, Filling, word_offset, word_offsets, Fillable}
use Rattle.ia32_code.specs.Reading.{spelling_at}
use Rattle.ia32_code.specs.Decoding.{ReadBack}
use Rattle.file_fields.specs.Grammar.{bytes_number}
use Rattle.unit_files.specs.Conditions.{words_read, words_in_text, is_that_place, hole_in}
use Rattle.tal_code.specs.declared.holes.HolePlace.{HolePlace}
use Rattle.tal_code.specs.declared.holes.HoledCode.{HoledCode}
use Rattle.tal_code.specs.Holes.{zeroed, zeroed_hole, open_bytes}
use Rattle.tal_code.proofs.Clearing.{IsWordAt, end_cleared, inner_cleared, inner_kept, in_order, inner_row, end_row}
use Rattle.tal_code.proofs.Spellings.{some_is_one}
use Rattle.tal_code.proofs.OpenWords.{AnyFits, EndsStay, Cleared, clears, IsAt}

-- ---- words of 0 are holes

-- The whole words of a spelling's bytes are those of the spelling.
pub words_are : (s : Spelling) → Filled s → ReadBack → words_in_text (text s) ≡ word_offsets s
words_are s filled read = ap words_read (ap spelling_at (sym (append-nil (text s))) ∙ read s [] filled)

-- It has one where a word is.
pub has_word : (place : WordPlace) (s : Spelling) (k v : ℕ) → IsWordAt place s k v → word_offset place s ≡ Some k
has_word place s k v w = ap (option_map (λ (f : Filling). length f.before)) w.there ∙ ap Some w.at

-- The bytes at a word are its bytes.
bytes_there : (place : WordPlace) (s : Spelling) (k : ℕ) → Filled s → AnyFits → IsWordAt place s k 0 → take 4 (drop k (text s)) ≡ to_le_bytes w32 0
bytes_there place s k filled fits w =
    let f = w.filling in
    let has = Fillable.has (fits place s f filled w.there) in
    ap (λ n. take 4 (drop n (text s))) (sym w.at)
    ∙ ap (λ x. take 4 (drop (length f.before) x)) (has ∙ append_assoc f.before (to_le_bytes w32 f.word) f.behind)
    ∙ ap (take 4) (drop_at f.before (to_le_bytes w32 f.word ++ f.behind) (length f.before) refl)
    ∙ take_at (to_le_bytes w32 f.word) f.behind 4 refl
    ∙ ap (to_le_bytes w32) w.is

-- It lies within them.
pub word_inside : (place : WordPlace) (s : Spelling) (k v : ℕ) → Filled s → AnyFits → IsWordAt place s k v → k + 4 ≤ length (text s)
word_inside place s k v filled fits w =
    let f = w.filling in
    let has = Fillable.has (fits place s f filled w.there) in
    let n : length (text s) ≡ length f.before + 4 + length f.behind =
    ap length has ∙ length-append (f.before ++ to_le_bytes w32 f.word) f.behind ∙ ap (λ n. n + length f.behind) (length-append f.before (to_le_bytes w32 f.word)) in
    let at = w.at in
    omega (arith, n, at)

-- it is one of two places
this_one : (k : ℕ) → (k == k) ≡ true
this_one k = grind arith

-- A word of 0 is a hole.
pub is_hole : (place : WordPlace) (s : Spelling) (k : ℕ) → Filled s → AnyFits → ReadBack → IsWordAt place s k 0 → hole_in (text s) k ≡ true
unfolding hole_in
is_hole place s k filled fits read w =
    rw (words_are s filled read, bytes_there place s k filled fits w) (by_place place w)
  where
    either : (b : Bool) → (b || true) ≡ true
    either true = refl
    either false = refl

    both : (a : Bool) → a ≡ true → (a && true) ≡ true
    both a e = rw e refl

    by_place : (place : WordPlace) → IsWordAt place s k 0 → ((is_that_place (word_offset Within s) k || is_that_place (word_offset AtEnd s) k) && bytes_number (to_le_bytes w32 0) == 0) ≡ true
    by_place Within w = both _ (rw (has_word Within s k 0 w, this_one k) refl)
    by_place AtEnd w = both _ (rw (has_word AtEnd s k 0 w, this_one k) (either (is_that_place (word_offset Within s) k)))

-- ---- holes are cleared

-- The bytes with 0 in the holes are those of a spelling of the same row, in which they are words of 0.
pub record Opened (s : Spelling) (c : HoledCode) : Type 0 where
  pub next : Spelling
  pub filled : Filled next
  pub bytes : open_bytes c ≡ text next
  pub row : next.row ≡ s.row
  -- the number stays, or is cleared
  pub zero : s.number ≡ 0 → next.number ≡ 0
  pub cleared : is_some c.far ≡ true → next.number ≡ 0
  pub near : IfSome c.near (λ p. (place : WordPlace) × IsWordAt place next p.at 0)
  pub far : IfSome c.far (λ p. IsWordAt AtEnd next p.at 0)
  pub order : (p q : HolePlace) → c.near ≡ Some p → c.far ≡ Some q → p.at + 4 ≤ q.at

-- The bytes with no, one and two holes.
without : (c : HoledCode) → c.near ≡ None → c.far ≡ None → open_bytes c ≡ c.bytes
unfolding open_bytes zeroed_hole
without c near far = rw (near, far) refl

with_near : (c : HoledCode) (p : HolePlace) → c.near ≡ Some p → c.far ≡ None → open_bytes c ≡ zeroed p.at c.bytes
unfolding open_bytes zeroed_hole
with_near c p near far = rw (near, far) refl

with_far : (c : HoledCode) (p : HolePlace) → c.near ≡ None → c.far ≡ Some p → open_bytes c ≡ zeroed p.at c.bytes
unfolding open_bytes zeroed_hole
with_far c p near far = rw (near, far) refl

with_both : (c : HoledCode) (p q : HolePlace) → c.near ≡ Some p → c.far ≡ Some q → open_bytes c ≡ zeroed q.at (zeroed p.at c.bytes)
unfolding open_bytes zeroed_hole
with_both c p q near far = rw (near, far) refl

-- What is where: the word at a place of a spelling that was cleared is 0.
at_end_0 : (s : Spelling) (k : ℕ) (c : Cleared AtEnd s k) → IsWordAt AtEnd (c.word.with 0) k 0
at_end_0 s k c = subst (λ k. IsWordAt AtEnd (c.word.with 0) k 0) (sym c.at) (end_cleared s c.word c.there)

within_0 : (s : Spelling) (k : ℕ) (c : Cleared Within s k) → IsWordAt Within (c.word.with 0) k 0
within_0 s k c = subst (λ k. IsWordAt Within (c.word.with 0) k 0) (sym c.at) (inner_cleared s c.word c.there)

-- an option that is none is not some
pub some_not : {A : Type 0} (o : Option A) → o ≡ None → is_some o ≡ true → ⊥
some_not None e x = cc
some_not (Some a) e x = cc

pub if_none : {A : Type 0} (P : A → Type 0) (o : Option A) → o ≡ None → IfSome o P
if_none P None e = tt
if_none P (Some a) e = cc

pub if_some : {A : Type 0} (P : A → Type 0) (o : Option A) (a : A) → o ≡ Some a → P a → IfSome o P
if_some P o a e p = subst (λ o. IfSome o P) (sym e) p

-- The holes of an address and at the end are cleared; where there are both, the one of the address is the word within.
pub opened : (s : Spelling) (c : HoledCode) → c.bytes ≡ text s → Filled s → AnyFits → EndsStay
    → IsAt c.near (option_or (word_offset Within s) (word_offset AtEnd s)) → IsAt c.far (word_offset AtEnd s)
    → ((p q : HolePlace) → c.near ≡ Some p → c.far ≡ Some q → is_some (word_offset Within s) ≡ true) → Opened s c
opened s c bytes filled fits ends near_at far_at both = by_holes c.near c.far refl refl near_at far_at
  where
    end_alone : (p : HolePlace) → word_offset AtEnd s ≡ Some p.at → Cleared AtEnd s p.at
    end_alone p at = clears AtEnd s p.at filled fits at

    by_near : (p : HolePlace) (o : Option ℕ) → word_offset Within s ≡ o → c.near ≡ Some p → c.far ≡ None → option_or o (word_offset AtEnd s) ≡ Some p.at → Opened s c
    by_near p None none near far at =
        let k = end_alone p at in
        let row = end_row s k.word 0 k.there in
        record {
          next = k.word.with 0;
          filled = k.filled;
          bytes = with_near c p near far ∙ ap (zeroed p.at) bytes ∙ k.bytes;
          row = ap (λ (x : Spelling). x.row) row;
          zero = λ z. ap (λ (x : Spelling). x.number) row;
          cleared = λ x. ap (λ (x : Spelling). x.number) row;
          near = if_some _ c.near p near (AtEnd, at_end_0 s p.at k);
          far = if_none _ c.far far;
          order = λ x y a b. absurd (some_not c.far far (ap is_some b));
        }
    by_near p (Some j) some near far at =
        let k = clears Within s p.at filled fits (some ∙ at) in
        let row = inner_row s k.word 0 k.there in
        record {
          next = k.word.with 0;
          filled = k.filled;
          bytes = with_near c p near far ∙ ap (zeroed p.at) bytes ∙ k.bytes;
          row = row.0;
          zero = λ z. row.1 ∙ z;
          cleared = λ x. absurd (some_not c.far far x);
          near = if_some _ c.near p near (Within, within_0 s p.at k);
          far = if_none _ c.far far;
          order = λ x y a b. absurd (some_not c.far far (ap is_some b));
        }

    end_stays : (p q : HolePlace) (k : Cleared Within s p.at) → word_offset AtEnd s ≡ Some q.at → word_offset AtEnd (k.word.with 0) ≡ Some q.at
    end_stays p q k at =
        let e = clears AtEnd s q.at filled fits at in
        let x = ends s k.word e.word 0 filled k.there e.there in
        ap (option_map (λ (f : Filling). length f.before)) x.there ∙ ap Some (x.place ∙ sym e.at)

    by_both : (p q : HolePlace) (o : Option ℕ) → word_offset Within s ≡ o → is_some o ≡ true → c.near ≡ Some p → c.far ≡ Some q
        → option_or o (word_offset AtEnd s) ≡ Some p.at → word_offset AtEnd s ≡ Some q.at → Opened s c
    by_both p q None none is near far at there = cc
    by_both p q (Some j) some is near far at there =
        let k = clears Within s p.at filled fits (some ∙ at) in
        let e = clears AtEnd (k.word.with 0) q.at k.filled fits (end_stays p q k there) in
        let row = inner_row s k.word 0 k.there in
        let last = end_row (k.word.with 0) e.word 0 e.there in
        let inner : IsWordAt Within (e.word.with 0) p.at 0 = subst (λ x. IsWordAt Within x p.at 0) (sym last) (inner_kept (k.word.with 0) 0 p.at 0 (within_0 s p.at k)) in
        let outer = at_end_0 (k.word.with 0) q.at e in
        record {
          next = e.word.with 0;
          filled = e.filled;
          bytes = with_both c p q near far ∙ ap (λ x. zeroed q.at (zeroed p.at x)) bytes ∙ ap (zeroed q.at) k.bytes ∙ e.bytes;
          row = ap (λ (x : Spelling). x.row) last ∙ row.0;
          zero = λ z. ap (λ (x : Spelling). x.number) last;
          cleared = λ x. ap (λ (x : Spelling). x.number) last;
          near = if_some _ c.near p near (Within, inner);
          far = if_some _ c.far q far outer;
          order = λ x y a b. subst (λ (x : HolePlace). x.at + 4 ≤ y.at) (some_is_one p x (sym near ∙ a)) (subst (λ (y : HolePlace). p.at + 4 ≤ y.at) (some_is_one q y (sym far ∙ b)) (in_order (e.word.with 0) p.at q.at 0 0 inner outer));
        }

    by_holes : (n f : Option HolePlace) → c.near ≡ n → c.far ≡ f → IsAt n (option_or (word_offset Within s) (word_offset AtEnd s)) → IsAt f (word_offset AtEnd s) → Opened s c
    by_holes None None near far at there =
        record {
          next = s;
          filled = filled;
          bytes = without c near far ∙ bytes;
          row = refl;
          zero = λ z. z;
          cleared = λ x. absurd (some_not c.far far x);
          near = if_none _ c.near near;
          far = if_none _ c.far far;
          order = λ x y a b. absurd (some_not c.far far (ap is_some b));
        }
    by_holes None (Some q) near far at there =
        let k = end_alone q there in
        let row = end_row s k.word 0 k.there in
        record {
          next = k.word.with 0;
          filled = k.filled;
          bytes = with_far c q near far ∙ ap (zeroed q.at) bytes ∙ k.bytes;
          row = ap (λ (x : Spelling). x.row) row;
          zero = λ z. ap (λ (x : Spelling). x.number) row;
          cleared = λ x. ap (λ (x : Spelling). x.number) row;
          near = if_none _ c.near near;
          far = if_some _ c.far q far (at_end_0 s q.at k);
          order = λ x y a b. absurd (some_not c.near near (ap is_some a));
        }
    by_holes (Some p) None near far at there = by_near p (word_offset Within s) refl near far at
    by_holes (Some p) (Some q) near far at there = by_both p q (word_offset Within s) refl (both p q near far) near far at there
