use Rattle.tal_image.specs.Shown.{shown}
use Rattle.word_machine.proofs.Stacks.{empty-free}
use Rattle.word_machine.proofs.laws.empty_stacks_are_free.Goals as goal

pub returns : goal.returns
unfolding shown
returns c = λ image live s m w typed stands n empty v after written.
    empty-free image live s m w typed stands (c.formed_images_tell.ensures image w.formed).classes n empty v after written
