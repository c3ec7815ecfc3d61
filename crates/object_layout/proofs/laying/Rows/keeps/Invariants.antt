use Rattle.std.proofs.Common.{◌≡◌, ℕ, ◌<◌, get_or}
use Rattle.object_layout.specs.Classes.{signatures_of}
use Rattle.object_layout.specs.Layout.{given_rows}
use Rattle.object_layout.proofs.laying.Rows.keeps.Given as goal

abbrev pub invariant-loop-slot : goal.invariant-loop-slot
invariant-loop-slot l = (k : ℕ) → k < l.slot → get_or (signatures_of (given_rows l.self) l.inherited) k 0 ≡ get_or (signatures_of (given_rows l.self) l.methods) k 0
