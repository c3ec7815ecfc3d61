-- Bytes that pass through a reader or a writer. Where its bytes are known, exactly these pass; over real files and
-- streams nothing is known.
use Rattle.std.specs.Prelude.{ℕ, ◌≡◌, List, ◌++◌, length, Option, Some, None, Result, Ok, Err, ◌==◌, if◌then◌else◌}
use Rattle.std.specs.Io.KnownBytes.{Appends, Consumes, IsAtEnd}
use Rattle.outside.specs.FileMaps.{IsFront}

-- One read took some of the bytes that are left, which went behind those that were there. It took none only at the end.
pub record TakesPiece (left_before left_after : Option (List ℕ)) (had has : List ℕ) (count : ℕ) : Type 0 where
  pub piece : List ℕ
  pub taken : Consumes left_before left_after piece
  pub behind : has ≡ had ++ piece
  pub counted : length piece ≡ count
  pub at_end : count ≡ 0 → IsAtEnd left_after

-- How many bytes one write took. One that failed, and one that took nothing, took none.
abbrev pub taken : {E : Type 0} → Result ℕ E → Option ℕ
taken (Ok count) = if count == 0 then None else Some count
taken (Err _) = None

-- A writer took a front of these bytes.
abbrev pub AppendsFront : Option (List ℕ) → Option (List ℕ) → List ℕ → Type 0
AppendsFront before after bytes = (front : List ℕ) × IsFront front bytes × Appends before after front

-- A file was created, and took these bytes.
abbrev pub CreatedTakes : {F E : Type 0} → (F → Option (List ℕ)) → Result F E → Result F E → List ℕ → Type 0
CreatedTakes contents (Ok before) (Ok after) bytes = Appends (contents before) (contents after) bytes
CreatedTakes contents (Ok before) (Err _) bytes = ⊥
CreatedTakes contents (Err _) after bytes = ⊥
