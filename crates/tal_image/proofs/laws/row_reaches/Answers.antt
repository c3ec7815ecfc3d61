use Rattle.tal_image.proofs.Meaning.Ends.{rows_reach}
use Rattle.tal_image.proofs.laws.row_reaches.Goals as goal

pub returns : goal.returns
returns c = rows_reach
