use Rattle.std.proofs.Common.{◌≡◌, ℕ, ◌<◌, true, get_or}
use Rattle.tal_types.specs.declared.types.Ty.{Ty}
use Rattle.tal_types.specs.Types.{sub}
use Rattle.tal_types.proofs.order.all_sub.Given as goal

abbrev pub invariant-loop-i : goal.invariant-loop-i
invariant-loop-i l = (k : ℕ) (d e : Ty) → k < l.i → sub l.shapes (get_or l.ts k d) (get_or l.us k e) ≡ true
