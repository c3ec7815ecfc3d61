use Rattle.std.proofs.Common.{◌≡◌, ℕ, ◌+◌, ◌<◌, ◌≤◌, length, get_or}
use Rattle.tal_types.specs.declared.types.Ty.TheVariants.{Junk}
use Rattle.tal_flow.proofs.known.shift_up.Given as goal

abbrev pub invariant-loop-i : goal.invariant-loop-i
invariant-loop-i l = record {
  long : length l.slots ≡ 64;
  low : l.i < 64;
  moved : (k : ℕ) → l.i ≤ k → k < 63 → get_or l.slots (k + 1) Junk ≡ get_or l.fn.slots k Junk;
  kept : (k : ℕ) → k ≤ l.i → get_or l.slots k Junk ≡ get_or l.fn.slots k Junk;
}

abbrev pub decreases-loop-i : goal.decreases-loop-i
decreases-loop-i l = l.i
