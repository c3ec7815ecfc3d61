use Rattle.std.proofs.Common.{◌<◌, None, Some, sym, ◌∙◌, arith}
use Rattle.tal_image.specs.declared.parts.MarkPart.{MarkPart}
use Rattle.object_layout.specs.Areas.{code_start}
use Rattle.tal_image.specs.Image.{parts_of}
use Rattle.tal_image.specs.Shown.{shown}
use Rattle.tal_image.proofs.Finding.KeptRows.{marks_rise}
use Rattle.tal_image.proofs.Finding.Annotations.{mark_in-before, mark_in-at, mark_in-nowhere}
use Rattle.tal_image.proofs.Finding.Indexes.{index-at}
use Rattle.tal_image.proofs.look_ups.ImageImageView.mark_at.Goals as goal

pub returns-in_err-offset : goal.returns-in_err-offset
unfolding shown
returns-in_err-offset c =
    let before : c.args.pc < code_start = omega (arith, c.in_err-offset.ensures) in
    c.from_residual.ensures ∙ sym (mark_in-before c.args.pc c.args.self.now.marks before)

pub returns-in_err-at : goal.returns-in_err-at
unfolding shown
returns-in_err-at c =
    let missing = index-at (λ (m : MarkPart). m.offset) c.self.inside.rows.marks.items c.self.inside.mark_places.items c.in_ok-offset.offset None c.self.invariant.marks (rw (← c.deref.ensures.value) c.in_err-at.ensures) in
    c.from_residual-in_err-at.ensures ∙ rw (← c.self.view_is) (sym (mark_in-nowhere c.self.inside.rows.marks.items c.args.pc c.in_ok-offset.offset c.in_ok-offset.ensures.0 c.in_ok-offset.ensures.1 missing))

pub returns : goal.returns
unfolding shown
returns c =
    let found = index-at (λ (m : MarkPart). m.offset) c.self.inside.rows.marks.items c.self.inside.mark_places.items c.in_ok-offset.offset (Some c.in_ok-at.at) c.self.invariant.marks (rw (← c.deref.ensures.value) c.in_ok-at.ensures) in
    rw (← c.self.view_is) (sym (mark_in-at c.self.inside.rows.marks.items c.args.pc c.in_ok-offset.offset c.in_ok-offset.ensures.0 c.in_ok-offset.ensures.1 c.in_ok-at.at c.index-mark.result.now (marks_rise (parts_of c.self.inside.rows) c.self.invariant.formed) c.index-mark.ensures found))
