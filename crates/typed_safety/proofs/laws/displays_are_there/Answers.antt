use Rattle.typed_safety.proofs.DisplayWords.{display-words}
use Rattle.typed_safety.proofs.laws.displays_are_there.Goals as goal

pub returns : goal.returns
returns c = λ image typed live s. display-words image live (c.accepted_runs.ensures image typed) (c.formed_images_tell.ensures image typed.formed) s
