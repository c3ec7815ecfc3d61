-- A list of no words is good, and reaches nothing.
use Rattle.std.proofs.Common.{ℕ, List, []}
use Rattle.object_layout.specs.Classes.{ShapesView}
use Rattle.mark_sweep.specs.Reached.{AllGood, Reached}
use Rattle.mark_sweep.specs.Reached.Reached.{listed, named}

-- it reaches no block
reached-none : (s : ShapesView) (words : List ℕ) (i : ℕ) → Reached s words [] i → ⊥
reached-none s words i (listed _ m g) = absurd m
reached-none s words i (named j k _ r q e g) = reached-none s words j r

-- so all that it reaches is good
pub all_good_none : (s : ShapesView) (words : List ℕ) → AllGood s words []
all_good_none s words = record { roots = λ w m. absurd m; fields = λ j k r q. absurd (reached-none s words j r) }
