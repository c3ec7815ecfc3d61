use Rattle.std.proofs.Common.{◌≡◌, ◌-◌, ℕ, List, drop, map}
use Rattle.tal_image.specs.Conditions.{method_fits}
use Rattle.file_fields.specs.Grammar.{checked}
use Rattle.file_fields.specs.Reading.{run}
use Rattle.tal_image.specs.Fields.{method_list}
use Rattle.tal_image.specs.ClassReading.{function_signature}
use Rattle.file_fields.specs.Composed.{RowsLeft}
use Rattle.tal_image.proofs.class_reader.methods.Given as goal

abbrev pub invariant-loop-i : goal.invariant-loop-i
invariant-loop-i l = record {
  read : RowsLeft l.methods (l.count - l.i) (λ later kept. checked (method_fits l.functions kept) 20) (λ (kept : List ℕ) f. drop 1 kept) (drop l.i (map (function_signature l.functions) l.above)) l.reader.file.now l.reader.at (run (method_list l.functions l.count (map (function_signature l.functions) l.above)) l.fn.reader.file.now l.fn.reader.at);
  file : l.reader.file ≡ l.fn.reader.file;
}
