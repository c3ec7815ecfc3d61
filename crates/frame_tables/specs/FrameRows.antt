-- Rows of frames by the addresses of instructions.
use Rattle.std.specs.Prelude.{ℕ, Bool, ◌&&◌, ◌==◌, List, [], ◌∷◌, ◌++◌, map, fold, Option, Some, None, if◌then◌else◌}
use Rattle.std.specs.List.{list_any}
use Rattle.tal_types.specs.declared.FrameRow.{FrameRow}

-- The row at the address of an instruction.
pub record RowAt : Type 0 where
  pub pc : ℕ
  pub row : FrameRow

-- The row at an address; None where no instruction begins.
abbrev pub frame_row_at : List RowAt → ℕ → Option FrameRow
frame_row_at [] pc = None
frame_row_at (r ∷ rs) pc = if r.pc == pc then Some r.row else frame_row_at rs pc

-- Two rows say the same.
abbrev pub same_row : FrameRow → FrameRow → Bool
same_row a b = a.regs == b.regs && a.slots == b.slots && a.refs == b.refs

-- These rows and this one, which is not put there twice.
abbrev pub with_row : List FrameRow → FrameRow → List FrameRow
with_row rows row = if list_any (same_row row) rows then rows else rows ++ row ∷ []

-- The rows of a table, each different one once, in the order of their first addresses.
abbrev pub different_rows : List RowAt → List FrameRow
different_rows table = fold with_row [] (map (λ r. r.row) table)
