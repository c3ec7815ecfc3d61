use Rattle.std.proofs.Common.{◌≡◌, ℕ, ◌≤◌, length, take, get_or}
use Rattle.tal_types.specs.declared.types.Ty.TheVariants.{Junk}
use Rattle.tal_types.proofs.contexts.fill.Given as goal

abbrev pub invariant-loop-i : goal.invariant-loop-i
invariant-loop-i l = record {
  long : length l.all ≡ 64;
  slots : take l.i l.all ≡ take l.i l.slots;
  rest : (k : ℕ) → length l.slots ≤ k → get_or l.all k Junk ≡ Junk;
}
