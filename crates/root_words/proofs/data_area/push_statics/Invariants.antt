use Rattle.std.proofs.Common.{◌≡◌, ◌++◌, map, take}
use Rattle.object_layout.specs.Classes.{is_reference}
use Rattle.root_words.proofs.data_area.push_statics.Given as goal

abbrev pub invariant-loop-ty : goal.invariant-loop-ty
invariant-loop-ty l = l.marks.items ≡ l.fn.marks.items ++ map is_reference (take l.ty-index l.types)
