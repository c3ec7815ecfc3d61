use Rattle.tal_image.specs.Shown.{shown}
use Rattle.word_machine.proofs.Stacks.{values-pushed}
use Rattle.word_machine.proofs.laws.values_are_pushed.Goals as goal

pub returns : goal.returns
unfolding shown
returns c = λ image live s cpu m g few. values-pushed g (c.formed_images_tell.ensures image g.well_typed.formed).classes few
