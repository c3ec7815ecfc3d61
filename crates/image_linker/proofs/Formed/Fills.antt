-- A hole of an instruction filled, and its marked immediate number.
use Rattle.std.specs.Prelude.{option_map, is_some, ◌%◌, ◌/◌}
use Rattle.std.specs.Int.{w32, to_le_bytes}
use Rattle.std.proofs.Common.{◌≡◌, ℕ, ◌+◌, ◌<◌, ◌≤◌, ◌^◌, true, List, [], ◌∷◌, ◌++◌, length, take, drop, Option, Some, None, inl, inr, refl, sym, ap, ◌∙◌, append_assoc, arith}
use Rattle.std.proofs.lemmas.Bool.{false≢true}
use Rattle.std.proofs.lemmas.List.{append-nil, length-append, take_at, drop_at}
use Rattle.ia32_code.specs.declared.instruction.Inst.{Inst}
use Rattle.ia32_code.specs.declared.spelling.Spelling.{Spelling}
use Rattle.ia32_code.specs.declared.word_offsets.WholeWords.{WholeWords}
use Rattle.ia32_code.specs.Spells.{Spells, Filled, text, meaning}
use Rattle.ia32_code.specs.Reading.{spelling_at}
use Rattle.ia32_code.specs.Decoding.{ReadBack}
use Rattle.ia32_code.specs.WholeWords.{WordPlace, Within, AtEnd, Filling, whole_word, Fillable, word_offset, word_offsets}
use Rattle.tal_image.specs.Image.{number_bytes}
use Rattle.tal_image.specs.Conditions.{Spelled, marked_number}
use Rattle.unit_files.specs.Conditions.{words_read, words_in_text}
use Rattle.image_linker.specs.LinkedCode.{word_put}
use Rattle.image_linker.proofs.Formed.Words.{within_places, end_places, within_mark, end_marks}

-- what is known of spellings
pub record CodeLaws : Type 0 where
  pub fillable : (place : WordPlace) (spelling : Spelling) (filling : Filling) → Filled spelling → whole_word place spelling ≡ Some filling → Fillable spelling filling
  pub read : ReadBack
  pub long : (t : List ℕ) (i : Inst) → Spells t i → (0 < length t) × (length t ≤ 11)

-- the second instruction is the first with other words in its holes
pub record Refill (s r : Spelled) : Type 0 where
  pub spells : Spells r.text r.means
  pub long : length r.text ≡ length s.text
  pub words : words_in_text r.text ≡ words_in_text s.text
  pub marked : is_some (marked_number r.means) ≡ is_some (marked_number s.means)
  pub narrow : (words_in_text s.text).at_end ≡ None → marked_number r.means ≡ marked_number s.means

-- an instruction is itself with no other words
pub refill_none : (s : Spelled) → Spells s.text s.means → Refill s s
refill_none s sp = record { spells = sp; long = refl; words = refl; marked = refl; narrow = λ e. refl }

-- with other words, and others again
pub refill_both : (s r q : Spelled) → Refill s r → Refill r q → Refill s q
refill_both s r q a b = record {
  spells = b.spells;
  long = b.long ∙ a.long;
  words = b.words ∙ a.words;
  marked = b.marked ∙ a.marked;
  narrow = λ e. b.narrow (ap (λ (w : WholeWords). w.at_end) a.words ∙ e) ∙ a.narrow e;
}

-- a word's bytes are those of its lower 32 bits
low_word : (n : ℕ) → number_bytes n ≡ number_bytes (n % 2 ^ 32)
low_word n =
    let a : n % 256 ≡ n % 4294967296 % 256 = omega arith in
    let b : n / 256 % 256 ≡ n % 4294967296 / 256 % 256 = omega arith in
    let c : n / 65536 % 256 ≡ n % 4294967296 / 65536 % 256 = omega arith in
    let d : n / 16777216 % 256 ≡ n % 4294967296 / 16777216 % 256 = omega arith in
    ap (λ x. x ∷ n / 256 % 256 ∷ n / 65536 % 256 ∷ n / 16777216 % 256 ∷ []) a ∙ ap (λ x. n % 4294967296 % 256 ∷ x ∷ n / 65536 % 256 ∷ n / 16777216 % 256 ∷ []) b
    ∙ ap (λ x. n % 4294967296 % 256 ∷ n % 4294967296 / 256 % 256 ∷ x ∷ n / 16777216 % 256 ∷ []) c ∙ ap (λ x. n % 4294967296 % 256 ∷ n % 4294967296 / 256 % 256 ∷ n % 4294967296 / 65536 % 256 ∷ x ∷ []) d

-- a word put between bytes
put : (before le behind : List ℕ) (k w : ℕ) → length before ≡ k → length le ≡ 4 → word_put k w ((before ++ le) ++ behind) ≡ (before ++ number_bytes w) ++ behind
put before le behind k w e l =
    let front : take k ((before ++ le) ++ behind) ≡ before = ap (take k) (append_assoc before le behind) ∙ take_at before (le ++ behind) k e in
    let back : drop (k + 4) ((before ++ le) ++ behind) ≡ behind = drop_at (before ++ le) behind (k + 4) (length-append before le ∙ omega (arith, e, l)) in
    ap (λ xs. xs ++ (number_bytes w ++ drop (k + 4) ((before ++ le) ++ behind))) front ∙ ap (λ xs. before ++ (number_bytes w ++ xs)) back ∙ sym (append_assoc before (number_bytes w) behind)

-- the whole word at a place
at_offset : (o : Option Filling) (k : ℕ) → option_map (λ (f : Filling). length f.before) o ≡ Some k → (f : Filling) × (o ≡ Some f) × (length f.before ≡ k)
at_offset None k e = absurd cc
at_offset (Some f) k e = (f, refl, cc)

module _ (laws : CodeLaws) where
  -- the whole words of bytes are those of their spelling
  pub words_spelled : (t : List ℕ) (i : Inst) (sp : Spells t i) → words_in_text t ≡ word_offsets sp.spelling
  words_spelled t i sp =
      ap words_in_text sp.text_is ∙ ap (λ b. words_read (spelling_at b)) (sym (append-nil (text sp.spelling))) ∙ ap words_read (laws.read sp.spelling [] sp.fits)

  -- the bytes with another word are the spelling with it
  fill_text : (place : WordPlace) (t : List ℕ) (i : Inst) (sp : Spells t i) (f : Filling) (k w : ℕ) → whole_word place sp.spelling ≡ Some f → length f.before ≡ k → word_put k w t ≡ text (f.with (w % 2 ^ 32))
  fill_text place t i sp f k w h e =
      let fill = laws.fillable place sp.spelling f sp.fits h in
      ap (word_put k w) (sp.text_is ∙ fill.has) ∙ put f.before (to_le_bytes w32 f.word) f.behind k w e refl
      ∙ ap (λ b. (f.before ++ b) ++ f.behind) (low_word w) ∙ sym (fill.text_is (w % 2 ^ 32))

  -- they spell what the spelling means
  fill_spells : (place : WordPlace) (t : List ℕ) (i : Inst) (sp : Spells t i) (f : Filling) (k w : ℕ) → whole_word place sp.spelling ≡ Some f → length f.before ≡ k → Spells (word_put k w t) (meaning (f.with (w % 2 ^ 32)))
  fill_spells place t i sp f k w h e =
      let fill = laws.fillable place sp.spelling f sp.fits h in
      record { spelling = f.with (w % 2 ^ 32); fits = fill.filled (w % 2 ^ 32) (omega arith); text_is = fill_text place t i sp f k w h e; meaning_is = refl }

  -- they are as long
  fill_long : (place : WordPlace) (t : List ℕ) (i : Inst) (sp : Spells t i) (f : Filling) (k w : ℕ) → whole_word place sp.spelling ≡ Some f → length f.before ≡ k → length (word_put k w t) ≡ length t
  fill_long place t i sp f k w h e =
      let fill = laws.fillable place sp.spelling f sp.fits h in
      let now = fill_text place t i sp f k w h e ∙ fill.text_is (w % 2 ^ 32) in
      let was = sp.text_is ∙ fill.has in
      ap length now ∙ length-append (f.before ++ to_le_bytes w32 (w % 2 ^ 32)) f.behind ∙ ap (λ n. n + length f.behind) (length-append f.before (to_le_bytes w32 (w % 2 ^ 32)) ∙ sym (length-append f.before (to_le_bytes w32 f.word)))
      ∙ sym (length-append (f.before ++ to_le_bytes w32 f.word) f.behind) ∙ ap length (sym was)

  -- a whole word lies in its instruction
  pub word_room : (place : WordPlace) (t : List ℕ) (i : Inst) (sp : Spells t i) (k : ℕ) → word_offset place sp.spelling ≡ Some k → k + 4 ≤ length t
  word_room place t i sp k h =
      let f = at_offset (whole_word place sp.spelling) k h in
      let fill = laws.fillable place sp.spelling f.0 sp.fits f.1 in
      let long = ap length (sp.text_is ∙ fill.has) ∙ length-append (f.0.before ++ to_le_bytes w32 f.0.word) f.0.behind ∙ ap (λ n. n + length f.0.behind) (length-append f.0.before (to_le_bytes w32 f.0.word)) in
      let before = f.2 in
      omega (arith, long, before)

  -- the word within does
  pub within_room : (t : List ℕ) (i : Inst) → Spells t i → (k : ℕ) → (words_in_text t).within ≡ Some k → k + 4 ≤ length t
  within_room t i sp k h = word_room Within t i sp k (sym (ap (λ (x : WholeWords). x.within) (words_spelled t i sp)) ∙ h)

  -- so does the word at the end
  pub end_room : (t : List ℕ) (i : Inst) → Spells t i → (k : ℕ) → (words_in_text t).at_end ≡ Some k → k + 4 ≤ length t
  end_room t i sp k h = word_room AtEnd t i sp k (sym (ap (λ (x : WholeWords). x.at_end) (words_spelled t i sp)) ∙ h)

  -- a word put within an instruction
  pub refill_within : (s : Spelled) (k w : ℕ) → Spells s.text s.means → (words_in_text s.text).within ≡ Some k → (m : Inst) × Refill s (record { text = word_put k w s.text; means = m }) × (marked_number m ≡ marked_number s.means)
  unfolding fill_spells
  refill_within s k w sp h =
      let places = words_spelled s.text s.means sp in
      let f = at_offset (whole_word Within sp.spelling) k (sym (ap (λ (x : WholeWords). x.within) places) ∙ h) in
      let spells = fill_spells Within s.text s.means sp f.0 k w f.1 f.2 in
      let mark = within_mark sp.spelling f.0 (w % 2 ^ 32) f.1 ∙ ap marked_number (sym sp.meaning_is) in (
        meaning (f.0.with (w % 2 ^ 32)),
        record {
          spells = spells;
          long = fill_long Within s.text s.means sp f.0 k w f.1 f.2;
          words = words_spelled (word_put k w s.text) (meaning (f.0.with (w % 2 ^ 32))) spells ∙ within_places sp.spelling f.0 (w % 2 ^ 32) f.1 ∙ sym places;
          marked = ap is_some mark;
          narrow = λ e. mark;
        },
        mark,
      )

  -- a word put at the end of an instruction: it is the marked number, if there is one
  pub refill_end : (s : Spelled) (k w : ℕ) → Spells s.text s.means → (words_in_text s.text).at_end ≡ Some k
      → (m : Inst) × Refill s (record { text = word_put k w s.text; means = m }) × (is_some (marked_number s.means) ≡ true → marked_number m ≡ Some (w % 2 ^ 32))
  unfolding fill_spells
  refill_end s k w sp h =
      let places = words_spelled s.text s.means sp in
      let f = at_offset (whole_word AtEnd sp.spelling) k (sym (ap (λ (x : WholeWords). x.at_end) places) ∙ h) in
      let spells = fill_spells AtEnd s.text s.means sp f.0 k w f.1 f.2 in
      let m = meaning (f.0.with (w % 2 ^ 32)) in
      let marks = end_marks sp.spelling f.0 (w % 2 ^ 32) f.1 in
      let means : marked_number s.means ≡ marked_number (meaning sp.spelling) = ap marked_number sp.meaning_is in (
        m,
        record {
          spells = spells;
          long = fill_long AtEnd s.text s.means sp f.0 k w f.1 f.2;
          words = words_spelled (word_put k w s.text) m spells ∙ end_places sp.spelling f.0 (w % 2 ^ 32) f.1 ∙ sym places;
          marked = elim marks [ inl n ↦ ap is_some (n.1 ∙ sym n.0 ∙ sym means) | inr n ↦ ap is_some n.1 ∙ sym (ap is_some (means ∙ n.0)) ];
          narrow = λ e. absurd (let both : ◌≡◌ {A = Option ℕ} None (Some k) = sym e ∙ h in cc);
        },
        λ some. elim marks [ inl n ↦ absurd (false≢true (sym (ap is_some (means ∙ n.0)) ∙ some)) | inr n ↦ n.1 ],
      )
