use Rattle.std.proofs.Common.{◌∙◌, length, arith}
use Rattle.kernel_machine.proofs.Showing.{words-are, statics-there, statics-shown, statics-few}
use Rattle.kernel_machine.proofs.machine.MachineShown.statics.Goals as goal

pub overflow_cast-statics : goal.overflow_cast-statics
overflow_cast-statics c = omega (arith, statics-shown c.image-image.result.now _ c.statics.ensures, statics-few (length c.image-image.result.now.statics) c.formed.ensures.condition_7)

pub statics-requires-2-clause-few : goal.statics-requires-2-clause-few
statics-requires-2-clause-few c = omega (arith, statics-shown c.image-image.result.now _ c.statics.ensures, statics-few (length c.image-image.result.now.statics) c.formed.ensures.condition_7)

pub statics-requires-2-clause-mapped : goal.statics-requires-2-clause-mapped
statics-requires-2-clause-mapped c = rw (statics-shown c.image-image.result.now _ c.statics.ensures, c.image-image.ensures.value) (statics-there _ _ c.self.invariant)

pub returns : goal.returns
returns c =
    let count = rw c.image-image.ensures.value at (statics-shown c.image-image.result.now _ c.statics.ensures) in
    rw (← c.self.view_is) (words-are _ _ _ c.statics-2.result.now (c.statics-2.ensures.count ∙ count)
    (λ k low. c.statics-2.ensures.each k (omega (arith, low, count))))
