use Rattle.tal_image.specs.Shown.{shown}
use Rattle.word_machine.proofs.Writing.{spot-is-written}
use Rattle.word_machine.proofs.laws.spots_are_written.Goals as goal

pub returns : goal.returns
unfolding shown
returns c = λ image live s cpu m g. spot-is-written g (record { blocks = c.block_laws.ensures; listed = c.blocks_listed.ensures }) (c.formed_images_tell.ensures image g.well_typed.formed).classes
