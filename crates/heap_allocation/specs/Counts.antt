use Rattle.std.specs.Prelude.{ℕ, ◌↔◌, List}
use Rattle.object_layout.specs.Classes.{ShapesView}
use Rattle.free_index.specs.Lists.{In, Once}
use Rattle.mark_sweep.specs.Reached.{Reached}

-- The reached blocks, one by one.

-- the list has the place of each reached block once, and nothing else
pub record ListsReached (s : ShapesView) (words list places : List ℕ) : Type 0 where
  pub once : Once places
  pub each : (i : ℕ) → In i places ↔ Reached s words list i
