use Rattle.std.proofs.Common.{◌≡◌, take}
use Rattle.unit_files.specs.Unit.{own_functions}
use Rattle.unit_files.proofs.unit_reader.own_functions.Given as goal

abbrev pub invariant-loop-f : goal.invariant-loop-f
invariant-loop-f l = l.own.items ≡ own_functions (take l.f-index l.functions)
