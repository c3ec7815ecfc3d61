use Rattle.std.proofs.Common.{◌≡◌, ◌≤◌, drop}
use Rattle.tal_image.specs.CodeReading.{bodies_at, starts_behind, code_at}
use Rattle.tal_image.proofs.code_reader.code.Given as goal

abbrev pub invariant-loop-function : goal.invariant-loop-function
invariant-loop-function l = record {
  read : starts_behind l.starts.items (bodies_at (drop l.function-index l.functions) l.reader.file.now l.reader.at) ≡ code_at l.functions l.fn.reader.file.now l.fn.reader.at;
  onward : l.fn.reader.at ≤ l.reader.at;
  file : l.reader.file ≡ l.fn.reader.file;
}
