-- A file as fields in their order, each with a condition that looks at earlier fields alone, and the first field that breaks
-- its condition or in which the file ends. Two kinds of fields suffice: so many bytes, and an instruction.
use Rattle.std.specs.Prelude.{◌≡◌, ◌≢◌, ℕ, zero, suc, ◌<◌, ◌≤◌, Bool, true, false, List, [], ◌∷◌, ◌++◌, length, slice_index, nat_le, ◌&&◌, take, drop, ◌⊎◌}
use Rattle.std.specs.Int.{w32, from_le_bytes, to_le_bytes}
use Rattle.ia32_code.specs.declared.instruction.Inst.{Inst}
use Rattle.ia32_code.specs.Spells.{Spells}
use Rattle.ia32_code.specs.Decoding.{IsCut}
use Rattle.file_fields.specs.declared.fault.ImageFault.{ImageFault}
use Rattle.file_fields.specs.declared.fault.ImageFault.TheVariants.{Short, Rest, Bad}

-- what comes next in a file that stands for an A
pub data Grammar (A : Type 0) : Type 0 where
  -- the end, and what the file stands for
  done : A → Grammar A
  -- so many bytes with their condition, the fault of bytes that break it at a place, and what comes then
  chunk : ℕ → (List ℕ → Bool) → (List ℕ → ℕ → ImageFault) → (List ℕ → Grammar A) → Grammar A
  -- an instruction of so many bytes at most, and what comes then
  instruction : ℕ → (List ℕ → Inst → Grammar A) → Grammar A

-- a number is four bytes, the lowest first
abbrev pub number_bytes : ℕ → List ℕ
number_bytes n = to_le_bytes w32 n

-- the number of four bytes
abbrev pub bytes_number : List ℕ → ℕ
bytes_number bytes = from_le_bytes w32 bytes

-- a number of 32 bits with its condition, the fault where it breaks that, and what comes then
abbrev pub with_number : {A : Type 0} → (ℕ → Bool) → (ℕ → ImageFault) → (ℕ → Grammar A) → Grammar A
with_number ok fault next = chunk 4 (λ t. ok (bytes_number t)) (λ t at. fault at) (λ t. next (bytes_number t))

-- two numbers as one field, likewise; the fault may look at them
abbrev pub pair : {A : Type 0} → (ℕ → ℕ → Bool) → (ℕ → ℕ → ℕ → ImageFault) → (ℕ → ℕ → Grammar A) → Grammar A
pair ok fault next =
    chunk 8 (λ t. ok (bytes_number (take 4 t)) (bytes_number (drop 4 t)))
    (λ t at. fault (bytes_number (take 4 t)) (bytes_number (drop 4 t)) at)
    (λ t. next (bytes_number (take 4 t)) (bytes_number (drop 4 t)))

-- one part of a file, and what comes then
unfoldable pub then_with : {A B : Type 0} → Grammar A → (A → Grammar B) → Grammar B
then_with (done x) f = f x
then_with (chunk n ok fault next) f = chunk n ok fault (λ t. then_with (next t) f)
then_with (instruction room next) f = instruction room (λ t i. then_with (next t i) f)

-- so many rows one after another. A row may look at how many come after it, and at what is kept of those before it
abbrev pub many : {S A : Type 0} → ℕ → (ℕ → S → Grammar A) → (S → A → S) → S → Grammar (List A)
many zero row step kept = done []
many (suc later) row step kept = then_with (row later kept) (λ x. then_with (many later row step (step kept x)) (λ xs. done (x ∷ xs)))

-- so many rows that look at nothing but themselves
abbrev pub each : {A : Type 0} → ℕ → Grammar A → Grammar (List A)
each n row = many {S = ℕ} n (λ later kept. row) (λ kept x. kept) 0

-- a number under a condition, with the fault where it breaks that
abbrev pub field : (ℕ → Bool) → (ℕ → ImageFault) → Grammar ℕ
field ok fault = with_number ok fault (λ n. done n)

-- a number under the condition with this number
abbrev pub checked : (ℕ → Bool) → ℕ → Grammar ℕ
checked ok condition = field ok (λ at. Bad at condition)

-- a number from one to another
abbrev pub between : ℕ → ℕ → ℕ → Bool
between low high n = nat_le low n && nat_le n high

-- a field as it stands in a file
pub data Field : Type 0 where
  Chunk : List ℕ → Field
  Instruction : List ℕ → Inst → Field

-- the bytes of a field
abbrev pub field_text : Field → List ℕ
field_text (Chunk t) = t
field_text (Instruction t i) = t

-- the bytes of fields one after another
abbrev pub fields_text : List Field → List ℕ
fields_text [] = []
fields_text (f ∷ fs) = field_text f ++ fields_text fs

-- each of the numbers is a byte
abbrev pub AreBytes : List ℕ → Type 0
AreBytes bytes = (i : ℕ) → slice_index bytes i < 256

-- the field meets what comes next, and then that comes
abbrev pub Meets : {A : Type 0} → Grammar A → Field → Grammar A → Type 0
Meets (chunk n ok fault next) (Chunk t) after = (length t ≡ n) × AreBytes t × (ok t ≡ true) × (after ≡ next t)
Meets (instruction room next) (Instruction t i) after = Spells t i × (length t ≤ room) × (after ≡ next t i)
Meets (done x) f after = ⊥
Meets (chunk n ok fault next) (Instruction t i) after = ⊥
Meets (instruction room next) (Chunk t) after = ⊥

-- the fields are sound, and after them this comes
abbrev pub Sound : {A : Type 0} → Grammar A → List Field → Grammar A → Type 0
Sound g [] after = g ≡ after
Sound {A} g (f ∷ fs) after = (mid : Grammar A) × Meets g f mid × Sound mid fs after

-- the file ends inside the field that comes next: the bytes that are left are too few, or are cut off inside a spelling
abbrev pub EndsInside : {A : Type 0} → Grammar A → List ℕ → Type 0
EndsInside (done x) bytes = ⊥
EndsInside (chunk n ok fault next) bytes = length bytes < n
EndsInside (instruction room next) bytes = IsCut bytes

-- the field that comes next is whole, and breaks its condition at this place with this fault; condition 23 is that an
-- instruction begins which ends within its function
abbrev pub Breaks : {A : Type 0} → Grammar A → ℕ → List ℕ → ImageFault → Type 0
Breaks (done x) at bytes f = (bytes ≢ []) × (f ≡ Rest at)
Breaks (chunk n ok fault next) at bytes f = (n ≤ length bytes) × (ok (take n bytes) ≡ false) × (f ≡ fault (take n bytes) at)
Breaks (instruction room next) at bytes f = ((t : List ℕ) (i : Inst) (rest : List ℕ) → Spells t i → bytes ≡ t ++ rest → length t ≤ room → ⊥)
    × (IsCut bytes → ⊥) × (f ≡ Bad at 23)

-- The fault of the first field after the longest sound list: the file ends inside it, whatever its condition, or it breaks that.
pub record FaultOf {A : Type 0} (g : Grammar A) (file : List ℕ) (fault : ImageFault) : Type 0 where
  pub fields : List Field
  pub bytes : List ℕ
  pub after : Grammar A
  pub parts : file ≡ fields_text fields ++ bytes
  pub sound : Sound g fields after
  pub fails : (EndsInside after bytes × (fault ≡ Short (length file))) ⊎ Breaks after (length (fields_text fields)) bytes fault

-- The file is sound fields and nothing else, and they stand for x.
pub record SoundFile {A : Type 0} (g : Grammar A) (file : List ℕ) (x : A) : Type 0 where
  pub fields : List Field
  pub parts : file ≡ fields_text fields
  pub sound : Sound g fields (done x)
