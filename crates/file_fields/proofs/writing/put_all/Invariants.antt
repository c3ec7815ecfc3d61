use Rattle.std.proofs.Common.{◌≡◌, ◌++◌, take}
use Rattle.std.specs.List.{flat_map}
use Rattle.file_fields.proofs.writing.put_all.Given as goal

abbrev pub invariant-loop-part : goal.invariant-loop-part
invariant-loop-part g l = l.file.items ≡ l.fn.file.items ++ flat_map g.T.Part.bytes (take l.part-index l.parts)
