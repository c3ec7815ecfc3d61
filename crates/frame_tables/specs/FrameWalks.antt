-- The reference words of a stack. Its words are given from the top: a frame is its slots and then one word, which is the
-- place where the frame below goes on, or 0 and the last word.
use Rattle.std.specs.Prelude.{ℕ, ◌≡◌, ◌+◌, ◌⊎◌, ◌==◌, nat_lt, List, [], ◌∷◌, Option, Some, None, IsSomeAnd, option_map, unwrap_or, MatchBool, if◌then◌else◌}
use Rattle.std.specs.Int.{bit_at}
use Rattle.tal_types.specs.declared.FrameRow.{FrameRow}
use Rattle.frame_tables.specs.FrameRows.{RowAt, frame_row_at}

-- From a slot of a frame with this row on these are the words of a stack: the slots that are left, and then 0 as the last
-- word, or the place of a row that fits the words after it in the same way.
abbrev pub IsStackFrom : List RowAt → FrameRow → ℕ → List ℕ → Type 0
IsStackFrom table row slot [] = ⊥
IsStackFrom table row slot (w ∷ ws) =
    MatchBool (nat_lt slot row.slots)
    (IsStackFrom table row (slot + 1) ws)
    (((w ≡ 0) × (ws ≡ [])) ⊎ IsSomeAnd (frame_row_at table w) (λ r. IsStackFrom table r 0 ws))

-- These are the words of a stack whose top frame goes on at this place.
abbrev pub IsStack : List RowAt → ℕ → List ℕ → Type 0
IsStack table place words = IsSomeAnd (frame_row_at table place) (λ r. IsStackFrom table r 0 words)

-- From a slot of a frame with this row on, the words of slots whose bit is set, and then those of the frames below.
abbrev pub frame_references_from : List RowAt → FrameRow → ℕ → List ℕ → List ℕ
frame_references_from table row slot [] = []
frame_references_from table row slot (w ∷ ws) =
    if nat_lt slot row.slots
    then (if bit_at row.refs slot == 1 then w ∷ frame_references_from table row (slot + 1) ws else frame_references_from table row (slot + 1) ws)
    else unwrap_or (option_map (λ r. frame_references_from table r 0 ws) (frame_row_at table w)) []

-- The reference words of a stack whose top frame goes on at this place.
abbrev pub references : List RowAt → ℕ → List ℕ → List ℕ
references table place words = unwrap_or (option_map (λ r. frame_references_from table r 0 words) (frame_row_at table place)) []

-- Of the slots of a frame from this one on, the words whose bit is set.
abbrev pub chosen : ℕ → ℕ → List ℕ → List ℕ
chosen refs slot [] = []
chosen refs slot (w ∷ ws) = if bit_at refs slot == 1 then w ∷ chosen refs (slot + 1) ws else chosen refs (slot + 1) ws

-- A step of a list of words still to come: it gives the first, or there is none.
abbrev pub GivesNext : Option ℕ → List ℕ → List ℕ → Type 0
GivesNext None before after = (before ≡ []) × (after ≡ [])
GivesNext (Some w) before after = before ≡ w ∷ after
