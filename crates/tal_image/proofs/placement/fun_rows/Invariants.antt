use Rattle.std.proofs.Common.{◌≡◌, ◌≤◌, ◌+◌, ◌++◌, drop}
use Rattle.std.specs.List.{sum_by}
use Rattle.tal_image.specs.declared.parts.FunctionPart.{FunctionPart}
use Rattle.object_layout.specs.Areas.{code_start}
use Rattle.tal_image.specs.Conditions.{fun_rows}
use Rattle.tal_image.proofs.placement.fun_rows.Given as goal

abbrev pub invariant-loop-function : goal.invariant-loop-function
invariant-loop-function l = record {
  rest : l.funs.items ++ fun_rows l.address (drop l.function-index l.functions) ≡ fun_rows code_start l.functions;
  room : l.address + sum_by (λ (f : FunctionPart). f.length) (drop l.function-index l.functions) ≤ code_start + 1048576;
}
