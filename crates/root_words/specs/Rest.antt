-- What is still to be listed. The contracts of no public call speak in these words.
use Rattle.std.specs.Prelude.{ℕ, List, drop}
use Rattle.stack_states.specs.declared.stack_state.StackState.{StackState}
use Rattle.frame_tables.specs.FrameRows.{RowAt}
use Rattle.root_words.specs.Listing.{states_words, AreWalkable}

-- the root words of the stacks from stack n on
abbrev pub rest_words : List RowAt → List ℕ → ℕ → List StackState → List ℕ
rest_words table words n states = states_words table words n (drop n states)

-- they can be walked
abbrev pub WalkableFrom : List RowAt → List ℕ → ℕ → List StackState → Type 0
WalkableFrom table words n states = AreWalkable table words n (drop n states)
