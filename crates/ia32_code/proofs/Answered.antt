-- What a caller of the reader is told.
use Rattle.std.proofs.Common.{◌≡◌, ℕ, suc, ◌+◌, ◌-◌, ◌<◌, ◌≤◌, List, [], ◌∷◌, ◌++◌, length, take, drop, get_or, Result, Ok, Err, refl, sym, ap, subst, ◌∙◌, append_assoc, arith}
use Rattle.std.proofs.lemmas.List.{length-append, take-append-drop, take_at}
use Rattle.ia32_code.specs.declared.instruction.Inst.{Inst}
use Rattle.ia32_code.specs.declared.spelling.Spelling.{Spelling}
use Rattle.ia32_code.specs.declared.decoding.Decoded.{Decoded}
use Rattle.ia32_code.specs.declared.decoding.Decoded.TheVariants as answer
use Rattle.ia32_code.specs.declared.reading.Stop.{Stop}
use Rattle.ia32_code.specs.declared.reading.Stop.TheVariants.{Short, Unknown}
use Rattle.ia32_code.specs.Spells.{Filled, meaning, Spells}
use Rattle.ia32_code.specs.Decoding.{HasFront, IsCut, Answers, decoded_as, decoded, DecodedLaw, FrontLaw}
use Rattle.ia32_code.specs.Reading.{spelling_at}
use Rattle.ia32_code.proofs.TakesFront.{IsBytes}
use Rattle.ia32_code.proofs.ReadIsSpelled.{SpelledBy, spells_meaning, front, goes_on, no_more, spelled_again, prefix_law}
use Rattle.ia32_code.proofs.Lengths.{spelling_length}

-- what is below 256 at each place is bytes
bytes_fit : (t : List ℕ) → ((i : ℕ) → get_or t i 0 < 256) → IsBytes t
bytes_fit [] h = tt
bytes_fit (b ∷ t) h = (h 0, bytes_fit t (λ i. h (suc i)))

-- ---- an instruction and what follows it

-- what is said of the bytes before the rest
pub record FrontOf (bytes : List ℕ) (s : Spelling) (rest : List ℕ) : Type 0 where
  pub fits : Filled s
  pub shorter : length rest ≤ length bytes
  pub some : 0 < length bytes - length rest
  pub short : length bytes - length rest ≤ 11
  pub spells : Spells (take (length bytes - length rest) bytes) (meaning s)

-- bytes that begin with a spelling
front_parts : (bytes t rest : List ℕ) (s : Spelling) → bytes ≡ t ++ rest → SpelledBy t s → FrontOf bytes s rest
front_parts bytes t rest s e h =
    let spells = spells_meaning t s h in
    let len : length bytes ≡ length t + length rest = ap length e ∙ length-append t rest in
    let n : length bytes - length rest ≡ length t = omega arith in
    let l = spelling_length t (meaning s) spells in
    record { fits = h.fits; shorter = omega arith; some = omega arith; short = omega arith; spells = rw (n, e, take_at t rest (length t) refl) spells }

-- bytes at whose front the reader finds a spelling
pub front_facts : (bytes : List ℕ) (s : Spelling) (rest : List ℕ) → ((k : ℕ) → get_or bytes k 0 < 256) → spelling_at bytes ≡ Ok (s, rest) → FrontOf bytes s rest
front_facts bytes s rest fits e = let f = front bytes s rest (bytes_fit bytes fits) e in front_parts bytes f.0 rest s f.1 f.2

-- a prefix that is a spelling is read
pub read_front : (bytes : List ℕ) → (h : HasFront bytes) → spelling_at bytes ≡ Ok (h.2.spelling, drop h.1 bytes)
read_front bytes h = ap spelling_at (sym (take-append-drop h.1 bytes)) ∙ spelled_again (take h.1 bytes) (drop h.1 bytes) h.0 h.2

-- ---- the answer to bytes

-- it is that of what was read
pub decoded_is : (bytes : List ℕ) (read : Result (Spelling × List ℕ) Stop) → spelling_at bytes ≡ read → decoded bytes ≡ decoded_as (length bytes) read
unfolding decoded
decoded_is bytes read e = ap (λ (r : Result (Spelling × List ℕ) Stop). decoded_as (length bytes) r) e

-- what was read is an answer
answers : (bytes : List ℕ) (r : Result (Spelling × List ℕ) Stop) → ((k : ℕ) → get_or bytes k 0 < 256) → spelling_at bytes ≡ r → Answers bytes (decoded_as (length bytes) r)
answers bytes (Ok x) fits e = let f = front_facts bytes x.0 x.1 fits e in (f.some, omega arith, f.spells)
answers bytes (Err Short) fits e = let g = goes_on bytes (bytes_fit bytes fits) e in ((g.1, g.0, g.2, g.3), λ h. let again = read_front bytes h in cc)
answers bytes (Err Unknown) fits e = (λ h. let again = read_front bytes h in cc, λ h. no_more bytes e h.1 h.0 h.3)

-- it tells what they begin with
pub decoded_answers : DecodedLaw
unfolding decoded
decoded_answers bytes fits = answers bytes (spelling_at bytes) fits refl

-- bytes that begin with a spelling are decoded as its instruction
pub spelled_front : FrontLaw
spelled_front text more inst s =
    let e = decoded_is (text ++ more) (Ok (s.spelling, more)) (spelled_again text more inst s) in
    let n : length (text ++ more) - length more ≡ length text = omega (arith, length-append text more) in
    e ∙ ap (λ (m : ℕ). answer.One (meaning s.spelling) m) n ∙ ap (λ (i : Inst). answer.One i (length text)) (sym s.meaning_is)

-- the right part of an empty list is empty
empty_right : (s t : List ℕ) → s ++ t ≡ [] → t ≡ []
empty_right [] t e = e
empty_right (b ∷ s) t e = absurd cc

-- of bytes that are cut there is one answer
cut_short : (bytes : List ℕ) (d : Decoded) → Answers bytes d → IsCut bytes → d ≡ answer.Short
cut_short bytes (answer.One i n) a cut =
    let parts : take n bytes ++ (drop n bytes ++ cut.1) ≡ bytes ++ cut.1 = sym (append_assoc (take n bytes) (drop n bytes) cut.1) ∙ ap (λ (x : List ℕ). x ++ cut.1) (take-append-drop n bytes) in
    absurd (cut.2 (empty_right (drop n bytes) cut.1 (prefix_law (take n bytes) (bytes ++ cut.1) (drop n bytes ++ cut.1) i cut.0 a.2 cut.3 parts).0))
cut_short bytes answer.Short a cut = refl
cut_short bytes answer.Unknown a cut = absurd (a.1 cut)

-- what is told of an answer
pub record Told (bytes : List ℕ) (d : Decoded) : Type 0 where
  pub answers : Answers bytes d
  pub spelled : (text more : List ℕ) (inst : Inst) → Spells text inst → bytes ≡ text ++ more → d ≡ answer.One inst (length text)
  pub cut : IsCut bytes → d ≡ answer.Short

-- it is told of the answer to bytes
pub told : (bytes : List ℕ) (d : Decoded) → ((k : ℕ) → get_or bytes k 0 < 256) → d ≡ decoded bytes → Told bytes d
told bytes d fits one =
    let a = subst (Answers bytes) (sym one) (decoded_answers bytes fits) in
    record { answers = a; spelled = λ text more inst s e. one ∙ ap decoded e ∙ spelled_front text more inst s; cut = cut_short bytes d a }
