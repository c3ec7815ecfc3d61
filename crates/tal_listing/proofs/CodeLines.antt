-- The lines of code, from the front.
use Rattle.std.proofs.Common.{◌≡◌, ℕ, zero, suc, ◌+◌, ◌-◌, ◌<◌, ◌≤◌, Option, None, List, [], ◌∷◌, ◌++◌, length, take, drop, refl, sym, ap, ◌∙◌, arith, append_assoc, append-nil}
use Rattle.ia32_code.specs.declared.instruction.Inst.{Inst}
use Rattle.ia32_code.specs.declared.decoding.Decoded.{Decoded}
use Rattle.ia32_code.specs.declared.decoding.Decoded.TheVariants.{One}
use Rattle.ia32_code.specs.Decoding.{decoded, instruction_of}
use Rattle.tal_listing.specs.Lines.{CodeLine, lines_then, lines_from, line_text, code_text}

-- The bytes of an instruction that was listed are passed over.
lines_from-skip : (k address : ℕ) (bytes : List ℕ) → k ≤ length bytes → lines_from k address bytes ≡ lines_from 0 (address + k) (drop k bytes)
unfolding lines_from
lines_from-skip zero address bytes h = ap (λ (n : ℕ). lines_from zero n bytes) (omega arith)
lines_from-skip (suc k) address [] h = absurd (omega arith)
lines_from-skip (suc k) address (b ∷ bytes) h =
    let e : (address + 1) + k ≡ address + suc k = omega arith in
    lines_from-skip k (address + 1) bytes (omega arith) ∙ ap (λ (n : ℕ). lines_from zero n (drop k bytes)) e

-- The instruction at the front has the first line.
pub lines_from-front : (address : ℕ) (bytes : List ℕ) (i : Inst) (n : ℕ) → decoded bytes ≡ One i n → 0 < n → n ≤ length bytes
    → lines_from 0 address bytes ≡ record { address = address; bytes = take n bytes; inst = i } ∷ lines_from 0 (address + n) (drop n bytes)
unfolding lines_from
lines_from-front address bytes i zero e some fits = absurd (omega arith)
lines_from-front address [] i (suc n) e some fits = absurd (omega arith)
lines_from-front address (b ∷ bytes) i (suc n) e some fits =
    let line : CodeLine = record { address = address; bytes = take (suc n) (b ∷ bytes); inst = i } in
    let k : (address + 1) + n ≡ address + suc n = omega arith in
    let s = lines_from-skip n (address + 1) bytes (omega arith) ∙ ap (λ (m : ℕ). lines_from zero m (drop n bytes)) k in
    let m : suc n - 1 ≡ n = omega arith in
    ap (λ (d : Decoded). lines_then address (b ∷ bytes) (λ inside. lines_from inside (address + 1) bytes) (instruction_of d)) e
    ∙ ap (λ (y : ℕ). line ∷ lines_from y (address + 1) bytes) m ∙ ap (λ (t : List CodeLine). line ∷ t) s

-- Where no instruction is at the front there are no more lines.
pub lines_from-end : (address : ℕ) (bytes : List ℕ) → instruction_of (decoded bytes) ≡ None → lines_from 0 address bytes ≡ []
unfolding lines_from
lines_from-end address [] e = refl
lines_from-end address (b ∷ bytes) e = ap (λ (o : Option (Inst × ℕ)). lines_then address (b ∷ bytes) (λ inside. lines_from inside (address + 1) bytes) o) e

-- A line that was written is one less to write.
pub line_is_written : (whole out new : List ℕ) (address at : ℕ) (bytes first later : List ℕ) (i : Inst) (n : ℕ) → decoded bytes ≡ One i n → 0 < n → n ≤ length bytes
    → first ≡ take n bytes → later ≡ drop n bytes → at ≡ address + n → new ≡ out ++ line_text (record { address = address; bytes = first; inst = i })
    → out ++ code_text address bytes ≡ whole → new ++ code_text at later ≡ whole
unfolding code_text
line_is_written whole out new address at bytes first later i n front some fits is_first is_later is_at is_new done =
    rw (is_new, is_first, is_later, is_at, append_assoc) (rw (lines_from-front address bytes i n front some fits) at done)

-- Where no instruction is at the front, all is written.
pub all_is_written : (whole out : List ℕ) (address : ℕ) (bytes : List ℕ) → instruction_of (decoded bytes) ≡ None → out ++ code_text address bytes ≡ whole → out ≡ whole
unfolding code_text
all_is_written whole out address bytes front done = sym (append-nil out) ∙ (rw (lines_from-end address bytes front) at done)
