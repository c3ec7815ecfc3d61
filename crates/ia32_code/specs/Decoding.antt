-- What decoding answers, and the prefix law by which there is one answer.
use Rattle.std.specs.Prelude.{◌≡◌, ◌≢◌, ℕ, ◌-◌, ◌<◌, ◌≤◌, List, [], ◌++◌, length, take, slice_index, Option, Some, None, Result, Ok, Err}
use Rattle.ia32_code.specs.declared.instruction.Inst.{Inst}
use Rattle.ia32_code.specs.declared.spelling.Spelling.{Spelling}
use Rattle.ia32_code.specs.declared.decoding.Decoded.{Decoded}
use Rattle.ia32_code.specs.declared.decoding.Decoded.TheVariants.{One, Short, Unknown}
use Rattle.ia32_code.specs.Spells.{Filled, text, Spells, meaning}
use Rattle.ia32_code.specs.declared.reading.Stop.{Stop}
use Rattle.ia32_code.specs.declared.reading.Stop.TheVariants as stop
use Rattle.ia32_code.specs.Reading.{spelling_at}

-- a prefix of the bytes spells an instruction
abbrev pub HasFront : List ℕ → Type 0
HasFront bytes = (i : Inst) × (len : ℕ) × Spells (take len bytes) i

-- the bytes are a proper prefix of a spelling
abbrev pub IsCut : List ℕ → Type 0
IsCut bytes = (i : Inst) × (more : List ℕ) × (more ≢ []) × Spells (bytes ++ more) i

-- what each answer says of the bytes
abbrev pub Answers : List ℕ → Decoded → Type 0
Answers bytes (One i len) = (0 < len) × (len ≤ length bytes) × Spells (take len bytes) i
Answers bytes Short = IsCut bytes × (HasFront bytes → ⊥)
Answers bytes Unknown = (HasFront bytes → ⊥) × (IsCut bytes → ⊥)

-- no spelling is a proper prefix of another, and none is of two instructions
abbrev pub PrefixLaw : Type 0
PrefixLaw = (s t more : List ℕ) (i j : Inst) → Spells s i → Spells t j → s ++ more ≡ t → (more ≡ []) × (i ≡ j)

-- what was read of so many bytes, as an answer
abbrev pub decoded_as : ℕ → Result (Spelling × List ℕ) Stop → Decoded
decoded_as n (Ok x) = One (meaning x.0) (n - length x.1)
decoded_as n (Err stop.Short) = Short
decoded_as n (Err stop.Unknown) = Unknown

-- the answer to the bytes: it is one, and `Answers` says what it tells
unfoldable pub decoded : List ℕ → Decoded
decoded bytes = decoded_as (length bytes) (spelling_at bytes)

-- The answer to bytes tells what they begin with.
abbrev pub DecodedLaw : Type 0
DecodedLaw = (bytes : List ℕ) → ((k : ℕ) → slice_index bytes k < 256) → Answers bytes (decoded bytes)

-- Bytes that begin with a spelling are decoded as its instruction.
abbrev pub FrontLaw : Type 0
FrontLaw = (text more : List ℕ) (inst : Inst) → Spells text inst → decoded (text ++ more) ≡ One inst (length text)

-- Bytes that begin with a spelling are read as it.
abbrev pub ReadBack : Type 0
ReadBack = (spelling : Spelling) (more : List ℕ) → Filled spelling → spelling_at (text spelling ++ more) ≡ Ok (spelling, more)

-- the instruction of an answer, with its length
abbrev pub instruction_of : Decoded → Option (Inst × ℕ)
instruction_of (One i len) = Some (i, len)
instruction_of Short = None
instruction_of Unknown = None
