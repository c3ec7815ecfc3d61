use Rattle.std.proofs.Common.{◌≡◌, length, ◌∙◌, ap, None, inl, inr, refl, arith}
use Rattle.object_layout.specs.Classes.{ShapesView}
use Rattle.object_layout.specs.Faults.{first_fault}
use Rattle.tal_image.specs.Image.{parts_of}
use Rattle.tal_image.specs.Shown.{shapes_of}
use Rattle.tal_image.proofs.Classes.ClassTables.{no_fault}
use Rattle.tal_image.proofs.image.shapes.Goals as goal
use Rattle.tal_image.proofs.image.shapes.Goals.{in-NoMemory, in_default}

pub returns-in-Ok : goal.returns-in-Ok
unfolding shapes_of
returns-in-Ok c =
    let many : c.len.result ≡ length c.args.rows.now.sigs.items = omega arith in
    c.in-Ok.ensures.accepted.1 ∙ rw (c.deref.ensures.value, c.deref-2.ensures.value, c.requires.funs, many) refl

-- the rows of an image have no fault, so that nothing but memory can be wanting
pub prove-unreachable-requires : goal.prove-unreachable-requires
unfolding shapes_of
prove-unreachable-requires c =
    let many : c.len.result ≡ length c.args.rows.now.sigs.items = omega arith in
    let given : ShapesView = record { classes = c.deref.result.now; kinds = c.deref-2.result.now; funs = c.args.funs.now; sigs = c.len.result } in
    let rows : given ≡ shapes_of (parts_of c.args.rows.now) = rw (c.deref.ensures.value, c.deref-2.ensures.value, c.requires.funs, many) refl in
    let none : first_fault given ≡ None = ap first_fault rows ∙ no_fault (parts_of c.args.rows.now) c.requires.formed in
    elim c.in-Err.ensures.refused [
      | inl e ↦ elim c.match-matches.branch [ in-NoMemory w ↦ absurd (cc (w.matches-is, c.if-prove.true)) | in_default w ↦ grind arith ]
      | inr e ↦ cc (none, e)
    ]
