use Rattle.std.proofs.Common.{◌++◌, refl, ap, ◌∙◌, arith}
use Rattle.object_layout.proofs.Sound.{class-sound}
use Rattle.object_layout.proofs.RowFaults.{depth-inherited, laid_inherited}
use Rattle.object_layout.proofs.laying.Rows.laid_out.Goals as goal

pub overflow_cast-lineage : goal.overflow_cast-lineage
overflow_cast-lineage c = omega (arith, (class-sound _ _ c.requires.sound).few_classes)

pub bounds-lineage-above : goal.bounds-lineage-above
bounds-lineage-above c = omega (arith, depth-inherited _ _ _ c.requires.above, (class-sound _ _ c.requires.sound).shallow)

pub returns : goal.returns
returns c =
    laid_inherited _ _ c.args.above c.row-row.result.now _ c.requires.above c.row-row.ensures c.requires.sound
    c.in_ok-copied.ensures refl refl (c.in_ok-joined.ensures ∙ ap (λ xs. c.args.above.fields.now ++ xs) c.items.ensures)
