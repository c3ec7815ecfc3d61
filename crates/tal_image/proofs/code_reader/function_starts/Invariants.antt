use Rattle.std.proofs.Common.{◌≡◌, take}
use Rattle.tal_image.specs.CodeReading.{function_starts}
use Rattle.tal_image.proofs.code_reader.function_starts.Given as goal

abbrev pub invariant-loop-function : goal.invariant-loop-function
invariant-loop-function l = l.starts.items ≡ function_starts (take l.function-index l.functions)
