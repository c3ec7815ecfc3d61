-- What the table of frames keeps, and the list of rows that it stands for.
use Rattle.std.specs.Prelude.{ℕ, ◌≡◌, ◌<◌, ◌^◌, List, [], ◌∷◌, length, get_or, All}
use Rattle.tal_types.specs.declared.FrameRow.{FrameRow}
use Rattle.frame_tables.specs.FrameRows.{RowAt, different_rows}

-- A row as it is kept: its registers, its number of slots and its references.
abbrev pub row_kept : ℕ × ℕ × ℕ → FrameRow
row_kept k = record { regs = k.0; slots = k.1; refs = k.2 }

-- The row of a number, among the rows that are kept.
abbrev pub row_numbered : List FrameRow → ℕ → FrameRow
row_numbered rows n = get_or rows n (record { regs = 0; slots = 0; refs = 0 })

-- The rows at these addresses, which have these numbers.
abbrev pub addressed_rows : List FrameRow → List ℕ → List ℕ → List RowAt
addressed_rows rows [] ns = []
addressed_rows rows (a ∷ as') [] = []
addressed_rows rows (a ∷ as') (n ∷ ns) = record { pc = a; row = row_numbered rows n } ∷ addressed_rows rows as' ns

-- Addresses rise.
abbrev pub Rises : List ℕ → Type 0
Rises xs = (i j : ℕ) → i < j → j < length xs → get_or xs i 0 < get_or xs j 0

-- Addresses rise, and each has the number of a row that is kept. Each different row is kept once, and numbers of rows
-- have 32 bits.
pub record IsFrameTable (rows : List FrameRow) (addresses numbers : List ℕ) : Type 0 where
  pub paired : length addresses ≡ length numbers
  pub rising : Rises addresses
  pub few : length rows < 2 ^ 32
  pub known : All (λ n. n < length rows) numbers
  pub different : rows ≡ different_rows (addressed_rows rows addresses numbers)
