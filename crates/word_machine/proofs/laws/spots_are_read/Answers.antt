use Rattle.tal_image.specs.Shown.{shown}
use Rattle.word_machine.proofs.Reading.{spot-read}
use Rattle.word_machine.proofs.laws.spots_are_read.Goals as goal

pub returns : goal.returns
unfolding shown
returns c = λ image live s cpu m g. spot-read g (record { blocks = c.block_laws.ensures; listed = c.blocks_listed.ensures }) (c.formed_images_tell.ensures image g.well_typed.formed).classes
