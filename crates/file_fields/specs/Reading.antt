-- Reading a file from left to right, with the first fault that is met. A reader promises what `run` gives of a grammar.
use Rattle.std.specs.Prelude.{◌≡◌, ℕ, ◌+◌, List, length, take, drop, Result, Ok, Err, Bool, cond, nat_lt, nat_le}
use Rattle.ia32_code.specs.declared.instruction.Inst.{Inst}
use Rattle.ia32_code.specs.declared.decoding.Decoded.{Decoded}
use Rattle.ia32_code.specs.declared.decoding.Decoded.TheVariants as answer
use Rattle.ia32_code.specs.Decoding.{decoded}
use Rattle.file_fields.specs.declared.fault.ImageFault.{ImageFault}
use Rattle.file_fields.specs.declared.fault.ImageFault.TheVariants.{Magic, Version, Short, Rest, Bad, NoMemory}
use Rattle.file_fields.specs.Grammar.{Grammar, done, chunk, instruction, bytes_number}

-- what is read, and what is read then
infixl 10 ◌▸◌
abbrev pub ◌▸◌ : {A B : Type 0} → Result A ImageFault → (A → Result B ImageFault) → Result B ImageFault
(Ok x) ▸ f = f x
(Err e) ▸ f = Err e

-- Reading takes the file and a place in it, and gives a value and the next place.
abbrev pub Reads : Type 0 → Type 0
Reads A = List ℕ → ℕ → Result (A × ℕ) ImageFault

-- want of memory may come at any time; every other fault is the file's
abbrev pub Fails : {Y : Type 0} → ImageFault → Result Y ImageFault → Type 0
Fails NoMemory read = Unit {0}
Fails Magic read = read ≡ Err Magic
Fails Version read = read ≡ Err Version
Fails (Short at) read = read ≡ Err (Short at)
Fails (Rest at) read = read ≡ Err (Rest at)
Fails (Bad at field) read = read ≡ Err (Bad at field)

-- what a method of the reader gives, and where it then is
abbrev pub GivesAt : {X : Type 0} → Result X ImageFault → Result (X × ℕ) ImageFault → ℕ → Type 0
GivesAt (Ok x) read at = read ≡ Ok (x, at)
GivesAt (Err e) read at = Fails e read

-- the same, where the value is seen by a view
abbrev pub GivesView : {X Y : Type 0} → (X → Y) → Result X ImageFault → Result (Y × ℕ) ImageFault → ℕ → Type 0
GivesView view (Ok x) read at = read ≡ Ok (view x, at)
GivesView view (Err e) read at = Fails e read

-- so many bytes
abbrev pub chunk_at : ℕ → Reads (List ℕ)
chunk_at n file at = cond (nat_lt (length (drop at file)) n) (Err (Short (length file))) (Ok (take n (drop at file), at + n))

-- a number
abbrev pub any_number_at : Reads ℕ
any_number_at file at = chunk_at 4 file at ▸ λ t. Ok (bytes_number t.0, t.1)

-- a number under the condition with this number
abbrev pub checked_at : (ℕ → Bool) → ℕ → Reads ℕ
checked_at ok condition file at = any_number_at file at ▸ λ n. cond (ok n.0) (Ok n) (Err (Bad at condition))

-- two numbers as one field
abbrev pub pair_at : Reads (ℕ × ℕ)
pair_at file at = chunk_at 8 file at ▸ λ t. Ok ((bytes_number (take 4 t.0), bytes_number (drop 4 t.0)), t.1)

-- what comes after the answer to bytes that have so many bytes of room, at a place of a file with so many bytes
abbrev pub after_decoding : {A : Type 0} → Decoded → (ℕ → Inst → Result A ImageFault) → ℕ → ℕ → ℕ → Result A ImageFault
after_decoding (answer.One i len) next room at all = cond (nat_le len room) (next len i) (Err (Bad at 23))
after_decoding answer.Short next room at all = Err (Short all)
after_decoding answer.Unknown next room at all = Err (Bad at 23)

-- the fields of a grammar
abbrev pub run : {A : Type 0} → Grammar A → Reads A
run (done x) file at = Ok (x, at)
run (chunk n ok fault next) file at = chunk_at n file at ▸ λ t. cond (ok t.0) (run (next t.0) file t.1) (Err (fault t.0 at))
run (instruction room next) file at =
    after_decoding (decoded (drop at file)) (λ len i. run (next (take len (drop at file)) i) file (at + len)) room at (length file)
