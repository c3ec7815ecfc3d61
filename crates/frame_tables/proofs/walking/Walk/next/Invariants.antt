use Rattle.std.proofs.Common.{◌≡◌, ◌⊎◌, [], length}
use Rattle.frame_tables.specs.FrameWalks.{frame_references_from, IsStackFrom}
use Rattle.frame_tables.proofs.walking.Walk.next.Given as goal

-- What is still to come is what was to come at first, and the words are still those of a stack.
abbrev pub invariant-loop-word : goal.invariant-loop-word
invariant-loop-word l =
    let w = l.self-inside in
    let first = l.initial.self-inside in
    (w.frames.now ≡ first.frames.now) ×
    (frame_references_from w.frames.now w.row w.slot w.words.now ≡ frame_references_from first.frames.now first.row first.slot first.words.now) ×
    (IsStackFrom w.frames.now w.row w.slot w.words.now ⊎ (w.words.now ≡ []))

abbrev pub decreases-loop-word : goal.decreases-loop-word
decreases-loop-word l = length l.self-inside.words.now
