use Rattle.std.proofs.Common.{◌≡◌, ◌-◌, ◌≤◌, ◌++◌, length, replicate, take}
use Rattle.tal_image.specs.Shown.{data_words}
use Rattle.word_machine.proofs.memory.static_words.Given as goal

abbrev pub invariant-loop-word : goal.invariant-loop-word
invariant-loop-word l = record {
  within : l.i ≤ length (data_words l.image);
  so_far : l.words.items ≡ replicate (length l.image.statics) 0 ++ take l.i (data_words l.image);
}

abbrev pub decreases-loop-word : goal.decreases-loop-word
decreases-loop-word l = length (data_words l.image) - l.i
