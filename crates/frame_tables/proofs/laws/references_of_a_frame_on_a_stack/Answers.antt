use Rattle.frame_tables.proofs.Frames.{references-frame}
use Rattle.frame_tables.proofs.laws.references_of_a_frame_on_a_stack.Goals as goal

pub returns : goal.returns
returns c = references-frame
