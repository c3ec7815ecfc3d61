use Rattle.std.proofs.Common.{◌≡◌, ℕ, ◌<◌, ◌≤◌, length, get_or}
use Rattle.tal_types.specs.declared.types.Ty.TheVariants.{Junk}
use Rattle.tal_types.proofs.contexts.clear.Given as goal

abbrev pub invariant-loop-i : goal.invariant-loop-i
invariant-loop-i l = record {
  long : length l.all ≡ 64;
  here : (k : ℕ) → l.from ≤ k → k < l.i → get_or l.all k Junk ≡ Junk;
  rest : (k : ℕ) → l.to ≤ k → get_or l.all k Junk ≡ Junk;
}
