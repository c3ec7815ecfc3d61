-- What is kept of the bytes of the code says where its holes lie, and which instructions end with a whole word.
use Rattle.std.proofs.Common.{◌≡◌, ℕ, zero, suc, ◌+◌, ◌-◌, ◌<◌, ◌≤◌, Bool, true, false, ◌&&◌, List, [], ◌∷◌, ◌++◌, length, take, drop, Some, refl, sym, ap, ◌∙◌, append_assoc, arith, ⊎_elim}
use Rattle.std.specs.Prelude.{nat_lt, ◌==◌, is_some, slice_index, slice_index_or, if◌then◌else◌}
use Rattle.std.specs.Int.{w32, from_le_bytes}
use Rattle.std.proofs.lemmas.Bool.{cases_lt}
use Rattle.std.proofs.lemmas.Bool.Decides.{nat_tests}
use Rattle.std.proofs.lemmas.List.{append-nil}
use Rattle.ia32_code.specs.declared.instruction.Inst.{Inst}
use Rattle.ia32_code.specs.declared.spelling.Spelling.{Spelling}
use Rattle.ia32_code.specs.declared.word_offsets.WholeWords.{WholeWords}
use Rattle.ia32_code.specs.declared.decoding.Decoded.TheVariants.{One}
use Rattle.ia32_code.specs.Spells.{Spells, Filled, text}
use Rattle.ia32_code.specs.Decoding.{ReadBack}
use Rattle.ia32_code.specs.Reading.{spelling_at}
use Rattle.ia32_code.specs.WholeWords.{word_offsets}
use Rattle.tal_image.specs.Conditions.{Spelled}
use Rattle.tal_image.specs.Fields.{code_bytes}
use Rattle.tal_image.specs.CodeReading.{StandAt}
use Rattle.unit_files.specs.declared.code_places.CodeByte.{CodeByte}
use Rattle.unit_files.specs.Conditions.{words_read, words_in_text, hole_in, hole_at, wide_at}
use Rattle.unit_files.specs.CodeWords.{byte_by, bytes_from, instruction_bytes, code_table, code_byte_at, AreSpelled}

-- ---- bytes of one instruction

-- four bytes from the first on, of which those that are missing are 0
pub four_bytes : (bytes : List ℕ) → from_le_bytes w32 (slice_index bytes 0 ∷ slice_index bytes 1 ∷ slice_index bytes 2 ∷ slice_index bytes 3 ∷ []) ≡ from_le_bytes w32 (take 4 bytes)
four_bytes [] = refl
four_bytes (a ∷ []) = refl
four_bytes (a ∷ b ∷ []) = refl
four_bytes (a ∷ b ∷ c ∷ []) = refl
four_bytes (a ∷ b ∷ c ∷ d ∷ bytes) = refl

-- one byte more
pub one_byte_more : (f : ℕ → CodeByte) (k n : ℕ) → bytes_from f k (suc n) ≡ bytes_from f k n ++ f (k + n) ∷ []
one_byte_more f k zero = ap (λ (m : ℕ). f m ∷ []) (let e : k ≡ k + 0 = omega arith in e)
one_byte_more f k (suc n) =
    ap (λ (xs : List CodeByte). f k ∷ xs) (one_byte_more f (suc k) n ∙ ap (λ (m : ℕ). bytes_from f (suc k) n ++ f m ∷ []) (let e : suc k + n ≡ k + suc n = omega arith in e))

-- the same, behind others
pub put_more : (f : ℕ → CodeByte) (old : List CodeByte) (n : ℕ) → (old ++ bytes_from f 0 n) ++ f n ∷ [] ≡ old ++ bytes_from f 0 (n + 1)
put_more f old n =
    append_assoc old (bytes_from f 0 n) (f n ∷ [])
    ∙ sym (ap (λ (xs : List CodeByte). old ++ xs) (ap (bytes_from f 0) (let e : n + 1 ≡ suc n = omega arith in e) ∙ one_byte_more f 0 n ∙ ap (λ (m : ℕ). bytes_from f 0 n ++ f m ∷ []) (let e : 0 + n ≡ n = omega arith in e)))

-- what is kept of a byte is found there, and behind these bytes the others
module _ (f : ℕ → CodeByte) (other : CodeByte) where
  at_byte : (n m k : ℕ) (rest : List CodeByte) → k < n → slice_index_or (bytes_from f m n ++ rest) k other ≡ f (m + k)
  at_byte zero m k rest h = absurd (omega arith)
  at_byte (suc n) m zero rest h = ap f (let e : m ≡ m + 0 = omega arith in e)
  at_byte (suc n) m (suc k) rest h = at_byte n (suc m) k rest (omega arith) ∙ ap f (let e : suc m + k ≡ m + suc k = omega arith in e)

  past_bytes : (n m k : ℕ) (rest : List CodeByte) → n ≤ k → slice_index_or (bytes_from f m n ++ rest) k other ≡ slice_index_or rest (k - n) other
  past_bytes zero m k rest h = ap (λ (i : ℕ). slice_index_or rest i other) (let e : k ≡ k - 0 = omega arith in e)
  past_bytes (suc n) m zero rest h = absurd (omega arith)
  past_bytes (suc n) m (suc k) rest h =
      past_bytes n (suc m) k rest (omega arith) ∙ ap (λ (i : ℕ). slice_index_or rest i other) (let e : k - n ≡ suc k - suc n = omega arith in e)

-- ---- bytes of instructions one after another

-- where no byte is known of
abbrev nothing_known : CodeByte
nothing_known = record { hole = false; wide = false }

-- what is known of a byte of the first instruction, and of one behind it
abbrev known : Spelled → ℕ → CodeByte
known s k = byte_by (words_in_text s.text) s.text k

within_first : (s : Spelled) (code : List Spelled) (k : ℕ) → k < length s.text → code_byte_at (code_table (s ∷ code)) k ≡ known s k
within_first s code k h = at_byte (known s) nothing_known (length s.text) 0 k (code_table code) h ∙ ap (known s) (let e : 0 + k ≡ k = omega arith in e)

behind_first : (s : Spelled) (code : List Spelled) (k : ℕ) → length s.text ≤ k → code_byte_at (code_table (s ∷ code)) k ≡ code_byte_at (code_table code) (k - length s.text)
behind_first s code k h = past_bytes (known s) nothing_known (length s.text) 0 k (code_table code) h

-- a hole lies where one is kept
pub hole_same : (code : List Spelled) (k : ℕ) → hole_at k code ≡ (code_byte_at (code_table code) k).hole
unfolding hole_at hole_in byte_by
hole_same [] k = refl
hole_same (s ∷ code) k =
    ⊎_elim
    (λ (low : k < length s.text). let t : nat_lt k (length s.text) ≡ true = grind (arith, nat_tests) in rw t (sym (ap (λ (b : CodeByte). b.hole) (within_first s code k low))))
    (λ (high : length s.text ≤ k).
    let t : nat_lt k (length s.text) ≡ false = grind (arith, nat_tests) in
    rw t (hole_same code (k - length s.text) ∙ sym (ap (λ (b : CodeByte). b.hole) (behind_first s code k high))))
    (cases_lt k (length s.text))

-- the first of two tests
first_test : (a x : Bool) → (if a then x else false) ≡ (a && x)
first_test true x = refl
first_test false x = refl

-- an instruction that ends with a whole word begins where one is kept
pub wide_same : (file : List ℕ) (at : ℕ) (code : List Spelled) → StandAt file at code → (k : ℕ) → wide_at k code ≡ (code_byte_at (code_table code) k).wide
unfolding wide_at byte_by
wide_same file at [] h k = refl
wide_same file at (s ∷ code) h k =
    let n = length s.text in
    let some = h.0 in
    ⊎_elim
    (λ (low : k < n).
    let t : nat_lt k n ≡ true = grind (arith, nat_tests) in
    rw t (first_test (k == 0) (is_some (words_in_text s.text).at_end) ∙ sym (ap (λ (b : CodeByte). b.wide) (within_first s code k low))))
    (λ (high : n ≤ k).
    let z : (k == 0) ≡ false = grind (arith, nat_tests) in
    let t : nat_lt k n ≡ false = grind (arith, nat_tests) in
    rw (z, t) (wide_same file (at + n) code h.3 (k - n) ∙ sym (ap (λ (b : CodeByte). b.wide) (behind_first s code k high))))
    (cases_lt k n)

-- instructions that stand in a file are spelled
pub spelled : (file : List ℕ) (at : ℕ) (code : List Spelled) → StandAt file at code → AreSpelled code
spelled file at [] h = tt
spelled file at (s ∷ code) h = (h.2, spelled file (at + length s.text) code h.3)

-- ---- going over the code

-- the whole words of bytes that spell an instruction
pub words_are : ReadBack → (bytes : List ℕ) (i : Inst) (s : Spells bytes i) → words_in_text bytes ≡ word_offsets s.spelling
words_are law bytes i s = ap words_read (ap spelling_at (s.text_is ∙ sym (append-nil (text s.spelling))) ∙ law s.spelling [] s.fits)

-- one answer has one length, and one value
one_length : (i j : Inst) (n m : ℕ) → One i n ≡ One j m → n ≡ m
one_length i j n m e = cc

one_value : (x y : WholeWords) → Some x ≡ Some y → x ≡ y
one_value x y e = cc

-- the first of some bytes
take_front : (t more : List ℕ) → take (length t) (t ++ more) ≡ t
take_front [] more = refl
take_front (b ∷ t) more = ap (λ (z : List ℕ). b ∷ z) (take_front t more)

-- the instruction at the front of bytes, and its whole words
pub first_is : ReadBack → (bytes front t more : List ℕ) (i j : Inst) (len : ℕ) (words : WholeWords) → Spells t i → bytes ≡ t ++ more → One j len ≡ One i (length t)
    → front ≡ take len bytes → ((s : Spelling) (rest : List ℕ) → Filled s → front ≡ text s ++ rest → Some words ≡ Some (word_offsets s)) → (front ≡ t) × (words ≡ words_in_text t)
first_is law bytes front t more i j len words s e one cut found =
    let same : front ≡ t = cut ∙ ap (λ (n : ℕ). take n bytes) (one_length j i len (length t) one) ∙ ap (take (length t)) e ∙ take_front t more in (
      same,
      one_value words (word_offsets s.spelling) (found s.spelling [] s.fits (same ∙ s.text_is ∙ sym (append-nil (text s.spelling))))
          ∙ sym (words_are law t i s),
    )

-- So much is known of code that is instructions; these bytes of it are still to be gone over.
abbrev pub TableLeft : List ℕ → List CodeByte → List ℕ → Type 0
TableLeft code table rest = (all : List Spelled) → AreSpelled all → code ≡ code_bytes all
    → (left : List Spelled) × AreSpelled left × (rest ≡ code_bytes left) × (code_table all ≡ table ++ code_table left)

-- the bytes begin with this instruction, if with any
abbrev BeginsWith : List ℕ → List ℕ → WholeWords → Type 0
BeginsWith rest bytes words = (t more : List ℕ) (i : Inst) → Spells t i → rest ≡ t ++ more → (bytes ≡ t) × (words ≡ words_in_text t)

-- the bytes behind some
drop_front : (t more : List ℕ) → drop (length t) (t ++ more) ≡ more
drop_front [] more = refl
drop_front (b ∷ t) more = drop_front t more

-- one instruction more
pub table_on : (code : List ℕ) (table : List CodeByte) (rest bytes : List ℕ) (words : WholeWords) → TableLeft code table rest
    → 0 < length bytes → length bytes ≤ length rest → BeginsWith rest bytes words → TableLeft code (table ++ instruction_bytes words bytes) (drop (length bytes) rest)
table_on code table rest bytes words left some few begins all are same = go (left all are same)
  where
    go : (x : (more : List Spelled) × AreSpelled more × (rest ≡ code_bytes more) × (code_table all ≡ table ++ code_table more))
        → (more : List Spelled) × AreSpelled more × (drop (length bytes) rest ≡ code_bytes more) × (code_table all ≡ (table ++ instruction_bytes words bytes) ++ code_table more)
    go ([], _, e, _) = let l = ap (λ (z : List ℕ). length z) e in absurd (omega (arith, l, some, few))
    go (s ∷ more, h, e, k) =
        let one = begins s.text (code_bytes more) s.means h.0 e in (
          more,
          h.1,
          ap (λ (t : List ℕ). drop (length t) rest) one.0 ∙ ap (drop (length s.text)) e ∙ drop_front s.text (code_bytes more),
          k ∙ sym (append_assoc table (instruction_bytes (words_in_text s.text) s.text) (code_table more))
              ∙ sym (ap (λ (t : List ℕ). (table ++ instruction_bytes words t) ++ code_table more) one.0 ∙ ap (λ (w : WholeWords). (table ++ instruction_bytes w s.text) ++ code_table more) one.1),
        )

-- no instruction more
pub table_done : (code : List ℕ) (table : List CodeByte) (rest : List ℕ) → TableLeft code table rest
    → ((t more : List ℕ) (i : Inst) → Spells t i → rest ≡ t ++ more → ⊥)
    → (all : List Spelled) → AreSpelled all → code ≡ code_bytes all → table ≡ code_table all
table_done code table rest left none all are same = go (left all are same)
  where
    go : (x : (more : List Spelled) × AreSpelled more × (rest ≡ code_bytes more) × (code_table all ≡ table ++ code_table more)) → table ≡ code_table all
    go ([], _, _, k) = sym (k ∙ append-nil table)
    go (s ∷ more, h, e, _) = absurd (none s.text (code_bytes more) s.means h.0 e)
