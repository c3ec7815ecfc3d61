use Rattle.std.proofs.Common.{◌≡◌}
use Rattle.object_layout.specs.Classes.{IsShape}
use Rattle.object_layout.specs.declared.rows.Shape.{Shape}
use Rattle.mark_sweep.specs.Objects.{shape_named, shape_word}
use Rattle.heap_allocation.proofs.FreshObjects.{good_after, reached-after, reached-again}
use Rattle.heap_allocation.proofs.laws.allocations_stay_good.Goals as goal

pub returns : goal.returns
returns c s before list after shape elements at l there f good kept p =
    let few : (x : Shape) → IsShape s x → shape_named (shape_word x) ≡ x = λ x h. c.shapes_come_back.ensures s x l.few_classes h in (
      good_after c.block_laws.ensures s before list after f good kept few shape there elements at p,
      λ i. (
        reached-after c.block_laws.ensures s before list after f good kept few shape there elements at p i,
        reached-again c.block_laws.ensures s before list after f good kept few shape there elements at p i,
      ),
    )
