use Rattle.tal_image.specs.Shown.{shown}
use Rattle.tal_checker.specs.Instructions.{instructions}
use Rattle.tal_checker.specs.WellTyped.{strongest_at}
use Rattle.tal_checker.proofs.StrongestLaw.{image-heads}
use Rattle.tal_checker.proofs.laws.one_head.Goals as goal

pub returns : goal.returns
unfolding strongest_at
returns c = λ image pc. c.one_head.ensures.strongest (shown image) (image-heads image) (instructions image.code) pc
