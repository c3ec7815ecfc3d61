use Rattle.std.proofs.Common.{◌≡◌, ◌++◌}
use Rattle.unit_files.specs.CodeWords.{byte_by, bytes_from}
use Rattle.unit_files.proofs.code_places.put_instruction.Given as goal

abbrev pub invariant-loop-place : goal.invariant-loop-place
invariant-loop-place l = l.table.items ≡ l.fn.table.items ++ bytes_from (byte_by l.words l.text) 0 l.place
