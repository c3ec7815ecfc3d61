-- What is known of the canonical spelling of an instruction, and of where its whole words lie.
use Rattle.std.proofs.Common.{◌≡◌, ℕ, ◌+◌, ◌<◌, ◌≤◌, List, [], ◌++◌, length, Option, Some, None, Bool, true, false, Result, Ok, Err, refl, sym, subst, ap, ◌∙◌, arith}
use Rattle.std.specs.Prelude.{OnOk, IfSome, option_map, ◌↔◌}
use Rattle.std.specs.Option.{option_and_then}
use Rattle.std.specs.Result.{is_err, IsErrOf}
use Rattle.std.specs.Int.{w32, to_le_bytes}
use Rattle.std.proofs.lemmas.List.{length-append}
use Rattle.ia32_code.specs.declared.instruction.Inst.{Inst}
use Rattle.ia32_code.specs.declared.spelling.Spelling.{Spelling}
use Rattle.ia32_code.specs.Spells.{Spells, Filled, text, meaning}
use Rattle.ia32_code.specs.Canonical.{Canonical, canonical_row, canonical_length, text_length, Appends}
use Rattle.ia32_code.specs.declared.encoding.CodeFault.{CodeFault}
use Rattle.ia32_code.specs.declared.encoding.CodeFault.TheVariants.{NoSpelling, Full}
use Rattle.code_words.specs.declared.words.Words.{Words}
use Rattle.code_words.specs.Meaning.{meant_by}
use Rattle.tal_code.specs.Holes.{spelling_for, spelled_as, WordsWithin}
use Rattle.ia32_code.specs.Order.{IsFirst}
use Rattle.ia32_code.specs.WholeWords.{WordPlace, Within, AtEnd, Filling, whole_word, word_offset, word_offsets, Fillable}
use Rattle.ia32_code.specs.declared.word_offsets.WholeWords.{WholeWords}

-- What is there is one thing.
pub some_is_one : {A : Type 0} (x y : A) → Some x ≡ Some y → x ≡ y
some_is_one x y e = cc

-- The canonical spelling of an instruction is a row of the table with parts that fit.
pub canonical_is_filled : (i : Inst) (c : Spelling) → canonical_row i ≡ Some c → Spells (text c) i
    → ((s : Spelling) → Filled s → IsFirst s) → Filled c
canonical_is_filled i c row spells first =
    let f = first spells.spelling spells.fits in
    let e : Some f.first ≡ Some c = sym f.canonical ∙ ap canonical_row (sym spells.meaning_is) ∙ row in
    subst Filled (some_is_one f.first c e) f.filled

-- The canonical spelling for words, whose bytes these are.
pub record SpelledAs (w : Words) (bytes : List ℕ) : Type 0 where
  pub spelling : Spelling
  pub for : spelling_for w ≡ Some spelling
  pub filled : Filled spelling
  pub text_is : bytes ≡ text spelling

-- What the encoder appends is the canonical spelling.
pub appended : (w : Words) (i : Inst) (room bytes : List ℕ) → room ≡ [] → meant_by w ≡ Some i → Appends i room bytes
    → IfSome (Canonical i) (λ t. Spells t i) → ((s : Spelling) → Filled s → IsFirst s) → SpelledAs w bytes
unfolding spelling_for
appended w i room bytes empty means (t, is, bytes_are) spells first = by_row (canonical_row i) refl
  where
    by_row : (o : Option Spelling) → canonical_row i ≡ o → SpelledAs w bytes
    by_row None e = absurd_none (sym (ap (option_map text) e) ∙ is)
      where
        absurd_none : None ≡ Some t → SpelledAs w bytes
        absurd_none x = cc
    by_row (Some c) e =
        let text_of : Canonical i ≡ Some (text c) = ap (option_map text) e in
        record {
          spelling = c;
          for = ap (option_and_then canonical_row) means ∙ e;
          filled = canonical_is_filled i c e (subst (λ o. IfSome o (λ t. Spells t i)) text_of spells) first;
          text_is = bytes_are ∙ ap (λ front. front ++ t) empty ∙ some_is_one t (text c) (sym is ∙ text_of);
        }

-- Where the encoder has no spelling, there is none for the words.
pub none_for : (w : Words) (i : Inst) → meant_by w ≡ Some i → Canonical i ≡ None → spelling_for w ≡ None
unfolding spelling_for
none_for w i means none = ap (option_and_then canonical_row) means ∙ by_row (canonical_row i) refl
  where
    by_row : (o : Option Spelling) → canonical_row i ≡ o → canonical_row i ≡ None
    by_row None e = e
    by_row (Some c) e = cc

-- What the encoder refuses has no spelling: 16 bytes are room for each.
pub refused : (r : Result (Unit {0}) CodeFault) (i : Inst) (room : List ℕ) → room ≡ [] → is_err r ≡ true
    → (IsErrOf r NoSpelling ↔ (Canonical i ≡ None)) → (IsErrOf r Full ↔ (16 < length room + canonical_length i))
    → IfSome (Canonical i) (λ t. Spells t i) → ((t : List ℕ) (j : Inst) → Spells t j → (0 < length t) × (length t ≤ 11)) → Canonical i ≡ None
refused (Ok x) i room empty e none full spells short = cc
refused (Err NoSpelling) i room empty e none full spells short = none.0 refl
refused (Err Full) i room empty e none full spells short = by_text (Canonical i) refl (full.0 refl) spells
  where
    by_text : (o : Option (List ℕ)) → Canonical i ≡ o → 16 < length room + text_length (Canonical i) → IfSome (Canonical i) (λ t. Spells t i) → Canonical i ≡ None
    by_text None is more spells = is
    by_text (Some t) is more spells =
        let few = short t i (subst (λ o. IfSome o (λ t. Spells t i)) is spells) in
        let many : 16 < length room + length t = subst (λ o. 16 < length room + text_length o) is more in
        let zero : length room ≡ 0 = ap length empty in
        absurd (omega (arith, few.1, many, zero))

-- A word with bytes before it ends within the bytes.
parts : (before : List ℕ) (word : ℕ) (behind t : List ℕ) → t ≡ before ++ to_le_bytes w32 word ++ behind → length before + 4 ≤ length t
parts before word behind t is =
    let n : length t ≡ length before + 4 + length behind =
    ap length is ∙ length-append (before ++ to_le_bytes w32 word) behind ∙ ap (λ n. n + length behind) (length-append before (to_le_bytes w32 word)) in
    omega (arith, n)

-- A whole word lies within the bytes.
pub word_within : (place : WordPlace) (s : Spelling) → Filled s
    → ((place : WordPlace) (s : Spelling) (f : Filling) → Filled s → whole_word place s ≡ Some f → Fillable s f)
    → IfSome (word_offset place s) (λ (k : ℕ). k + 4 ≤ length (text s))
word_within place s filled fits = by_word (whole_word place s) refl
  where
    by_word : (o : Option Filling) → whole_word place s ≡ o → IfSome (option_map (λ (f : Filling). length f.before) o) (λ (k : ℕ). k + 4 ≤ length (text s))
    by_word None is = tt
    by_word (Some f) is = parts f.before f.word f.behind (text s) (Fillable.has (fits place s f filled is))

-- What the encoder did not refuse, it appended.
pub is_ok_of : (r : Result (Unit {0}) CodeFault) (P : Type 0) → is_err r ≡ false → OnOk r P → P
is_ok_of (Ok x) P e p = p
is_ok_of (Err x) P e p = cc

-- The bytes and the places of a canonical spelling.
pub spelled_some : (w : Words) (bytes : List ℕ) (places : WholeWords) (s : SpelledAs w bytes) → places ≡ word_offsets s.spelling
    → Some (record { bytes = bytes; places = places }) ≡ option_map spelled_as (spelling_for w)
unfolding spelled_as
spelled_some w bytes places s is = rw (is, s.for, s.text_is) refl

-- Its whole words lie within.
pub words_within : (w : Words) (bytes : List ℕ) (places : WholeWords) (s : SpelledAs w bytes) → places ≡ word_offsets s.spelling
    → ((place : WordPlace) (s : Spelling) (f : Filling) → Filled s → whole_word place s ≡ Some f → Fillable s f)
    → WordsWithin (record { bytes = bytes; places = places })
words_within w bytes places s is fits = rw (is, s.text_is) (record {
  within = word_within Within s.spelling s.filled fits;
  at_end = word_within AtEnd s.spelling s.filled fits;
})

-- Words without a meaning have no spelling.
pub meaningless : (w : Words) → meant_by w ≡ None → option_map spelled_as (spelling_for w) ≡ None
unfolding spelling_for
meaningless w none = ap (λ o. option_map spelled_as (option_and_then canonical_row o)) none

-- A canonical spelling has places of its whole words.
pub placeless : {A : Type 0} (o : Option WholeWords) (places : WholeWords) (x y : A) → o ≡ Some places → o ≡ None → x ≡ y
placeless o places x y some none = absurd (nowhere (sym some ∙ none))
  where
    nowhere : Some places ≡ None → ⊥
    nowhere e = cc

-- The canonical spelling for words is a row of the table with parts that fit.
pub filled_for : (w : Words) (i : Inst) (s : Spelling) → meant_by w ≡ Some i → IfSome (Canonical i) (λ t. Spells t i)
    → ((s : Spelling) → Filled s → IsFirst s) → spelling_for w ≡ Some s → Filled s
unfolding spelling_for
filled_for w i s means spells first is =
    let row : canonical_row i ≡ Some s = sym (ap (option_and_then canonical_row) means) ∙ is in
    canonical_is_filled i s row (subst (λ o. IfSome o (λ t. Spells t i)) (ap (option_map text) row) spells) first
