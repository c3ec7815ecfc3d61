use Rattle.std.proofs.Common.{ℕ, ◌<◌, length}
use Rattle.std.specs.List.{slice_index_or}
use Rattle.typed_machine.specs.Placing.{WordsApart}
use Rattle.typed_machine.proofs.places.are_apart.Given as goal

-- the blocks before this one are apart from all later ones
abbrev pub invariant-loop-at : goal.invariant-loop-at
invariant-loop-at l =
    (i j : ℕ) (d : ℕ × ℕ) → i < l.at → i < j → j < length l.blocks → WordsApart (slice_index_or l.blocks i d) (slice_index_or l.blocks j d)
