use Rattle.std.proofs.Common.{◌≡◌, ◌++◌, drop}
use Rattle.tal_image.specs.Kept.{owners}
use Rattle.tal_image.proofs.index.owners.Given as goal

abbrev pub invariant-loop-function : goal.invariant-loop-function
invariant-loop-function l = record {
  counted : l.next ≡ l.function-index;
  rest : l.all.items ++ owners l.next (drop l.function-index l.functions) ≡ owners 0 l.functions;
}
