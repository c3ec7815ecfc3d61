-- What is known of every value that fields stand for is known of what is read.
use Rattle.std.proofs.Common.{◌≡◌, ℕ, ◌+◌, ◌≤◌, List, length, take, drop, Ok, subst, arith}
use Rattle.std.specs.Prelude.{nat_le}
use Rattle.std.proofs.lemmas.Bool.Decides.{nat_tests}
use Rattle.ia32_code.specs.declared.instruction.Inst.{Inst}
use Rattle.ia32_code.specs.declared.decoding.Decoded.{Decoded}
use Rattle.ia32_code.specs.declared.decoding.Decoded.TheVariants as answer
use Rattle.ia32_code.specs.Decoding.{decoded}
use Rattle.file_fields.specs.declared.fault.ImageFault.TheVariants.{Bad}
use Rattle.file_fields.specs.Grammar.{Grammar, done, chunk, instruction}
use Rattle.file_fields.specs.Reading.{chunk_at, after_decoding, run}
use Rattle.file_fields.specs.Reach.{Most}
use Rattle.unit_files.proofs.Reading.Steps.{bind_inverse, ok_pair, passed, short_take}

-- an instruction that was read is no longer than its room, and what comes then was read
along : {A : Type 0} (d : Decoded) (next : List ℕ → Inst → Grammar A) (room : ℕ) (file : List ℕ) (at : ℕ) (y : A × ℕ)
    → after_decoding d (λ len i. run (next (take len (drop at file)) i) file (at + len)) room at (length file) ≡ Ok y
    → (len : ℕ) × (i : Inst) × (length (take len (drop at file)) ≤ room) × (run (next (take len (drop at file)) i) file (at + len) ≡ Ok y)
along answer.Short next room file at y q = absurd cc
along answer.Unknown next room file at y q = absurd cc
along (answer.One i len) next room file at y q =
    let one = passed (nat_le len room) (run (next (take len (drop at file)) i) file (at + len)) (Bad at 23) y q in
    let short = short_take len (drop at file) in
    let le : len ≤ room = (let t = one.0 in grind (arith, nat_tests)) in
    (len, i, omega (arith, short, le), one.1)

pub known : {A : Type 0} (Is : A → Type 0) (g : Grammar A) (n : ℕ) → Most Is g n → (file : List ℕ) (at : ℕ) (x : A) (end : ℕ) → run g file at ≡ Ok (x, end) → Is x
known {A} Is (done y) n m file at x end e = subst Is (ok_pair y x at end e).0 m
known Is (chunk k ok fault next) n m file at x end e =
    let one = bind_inverse (chunk_at k file at) _ (x, end) e in
    let two = passed (ok one.0.0) (run (next one.0.0) file one.0.1) (fault one.0.0 at) (x, end) one.2 in
    known Is (next one.0.0) m.0 (m.2 one.0.0 two.0) file one.0.1 x end two.1
known {A} Is (instruction room next) n m file at x end e =
    let one = along (decoded (drop at file)) next room file at (x, end) e in
    let most = m (take one.0 (drop at file)) one.1 one.2 in
    known Is (next (take one.0 (drop at file)) one.1) most.0 most.2 file (at + one.0) x end one.3
