use Rattle.std.proofs.Common.{◌≡◌, ℕ, ◌+◌, ◌<◌, ◌≤◌, length, get_or}
use Rattle.tal_types.specs.declared.types.Ty.TheVariants.{Junk}
use Rattle.tal_flow.proofs.known.shift_down.Given as goal

abbrev pub invariant-loop-i : goal.invariant-loop-i
invariant-loop-i l = record {
  long : length l.slots ≡ 64;
  moved : (k : ℕ) → k < l.i → get_or l.slots k Junk ≡ get_or l.fn.slots (k + l.n) Junk;
  kept : (k : ℕ) → l.i ≤ k → get_or l.slots k Junk ≡ get_or l.fn.slots k Junk;
}
