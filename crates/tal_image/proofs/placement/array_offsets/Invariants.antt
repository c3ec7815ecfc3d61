use Rattle.std.proofs.Common.{◌≡◌, ◌≤◌, ◌+◌, ◌++◌, drop}
use Rattle.std.specs.List.{sum_by}
use Rattle.tal_image.specs.Conditions.{array_room}
use Rattle.tal_image.specs.Kept.{array_offsets}
use Rattle.tal_image.proofs.placement.array_offsets.Given as goal

abbrev pub invariant-loop-array : goal.invariant-loop-array
invariant-loop-array l = record {
  rest : l.offsets.items ++ array_offsets l.offset (drop l.array-index l.arrays) ≡ array_offsets 0 l.arrays;
  room : l.offset + sum_by array_room (drop l.array-index l.arrays) ≤ 65536;
}
