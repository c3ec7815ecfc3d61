use Rattle.std.proofs.Common.{ℕ, refl}
use Rattle.tal_image.specs.declared.parts.ArrayPart.{ArrayPart}
use Rattle.tal_image.specs.Conditions.{array_room}
use Rattle.tal_image.specs.Kept.{array_offsets}
use Rattle.tal_image.proofs.Finding.RunningRows.{one_more, no_more, room_more}
use Rattle.tal_image.proofs.placement.array_offsets.Goals as goal

pub loop-array-preserved : goal.loop-array-preserved
unfolding array_offsets
loop-array-preserved c =
    let row : ℕ → ArrayPart → ℕ = λ at a. at in
    let i = c.loop-array.array-index in
    let arrays = c.args.arrays.now in
    record {
      rest = rw (c.in_ok-push.ensures.items, c.array-item.is) (one_more array_offsets row array_room (λ at. refl) (λ at a arrays. refl) c.loop-array.offsets.items (array_offsets 0 arrays) c.loop-array.offset i arrays c.array-item.result c.loop-array-test.true c.loop-array.invariant.rest);
      room = rw c.array-item.is (room_more array_offsets row array_room (λ at. refl) (λ at a arrays. refl) c.loop-array.offset i 65536 arrays c.array-item.result c.loop-array-test.true c.loop-array.invariant.room);
    }

pub returns : goal.returns
unfolding array_offsets
returns c =
    no_more array_offsets (λ (at : ℕ) (a : ArrayPart). at) array_room (λ at. refl) (λ at a arrays. refl) c.loop-array.offsets.items (array_offsets 0 c.args.arrays.now) c.loop-array.offset c.loop-array.array-index c.args.arrays.now c.loop-array-test.false c.loop-array.invariant.rest
