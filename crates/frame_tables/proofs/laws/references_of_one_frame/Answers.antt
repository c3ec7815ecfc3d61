use Rattle.std.proofs.Common.{◌∙◌, ap, ◌++◌, append-nil}
use Rattle.frame_tables.specs.FrameWalks.{chosen}
use Rattle.frame_tables.proofs.Frames.{references-frame, references-nil}
use Rattle.frame_tables.proofs.laws.references_of_one_frame.Goals as goal

pub returns : goal.returns
returns c table place row slots found whole =
    references-frame table place row slots _ 0 found whole ∙
    (ap (λ l. chosen row.refs 0 slots ++ l) (references-nil table 0) ∙ append-nil (chosen row.refs 0 slots))
