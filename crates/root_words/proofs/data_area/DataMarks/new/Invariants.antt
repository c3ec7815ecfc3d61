use Rattle.std.specs.List.{flat_map}
use Rattle.std.proofs.Common.{◌≡◌, ◌++◌, drop}
use Rattle.tal_image.specs.Shown.{shown}
use Rattle.root_words.specs.DataArea.{array_marks, data_marks}
use Rattle.root_words.proofs.data_area.DataMarks.new.Given as goal

abbrev pub invariant-loop-d : goal.invariant-loop-d
invariant-loop-d l = l.marks.items ++ flat_map (array_marks (shown l.image).shapes) (drop l.d l.image.arrays) ≡ data_marks l.image
