use Rattle.std.proofs.Common.{◌<◌, None, Some, sym, ap, ◌∙◌, arith}
use Rattle.tal_types.specs.Contexts.{plain}
use Rattle.tal_image.specs.Image.{BlockPart, parts_of}
use Rattle.object_layout.specs.Areas.{code_start}
use Rattle.tal_image.specs.Shown.{shown}
use Rattle.tal_image.proofs.Finding.KeptRows.{blocks_rise, have_few_slots}
use Rattle.tal_image.proofs.Finding.Annotations.{block_in-before, block_in-at, block_in-nowhere}
use Rattle.tal_image.proofs.Finding.Indexes.{index-at}
use Rattle.tal_image.proofs.look_ups.ImageImageView.annotation_at.Goals as goal

pub returns-in_err-offset : goal.returns-in_err-offset
unfolding shown
returns-in_err-offset c =
    let before : c.args.pc < code_start = omega (arith, c.in_err-offset.ensures) in
    rw c.from_residual.ensures (sym (block_in-before c.args.pc c.args.self.now.blocks before))

pub returns-in_err-at : goal.returns-in_err-at
unfolding shown
returns-in_err-at c =
    let missing = index-at (λ (b : BlockPart). b.offset) c.self.inside.rows.blocks.items c.self.inside.block_places.items c.in_ok-offset.offset None c.self.invariant.blocks (rw (← c.deref.ensures.value) c.in_err-at.ensures) in
    rw (c.from_residual-in_err-at.ensures, ← c.self.view_is) (sym (block_in-nowhere c.self.inside.rows.blocks.items c.args.pc c.in_ok-offset.offset c.in_ok-offset.ensures.0 c.in_ok-offset.ensures.1 missing))

pub invariant_of-result : goal.invariant_of-result
invariant_of-result c =
    let found = index-at (λ (b : BlockPart). b.offset) c.self.inside.rows.blocks.items c.self.inside.block_places.items c.in_ok-offset.offset (Some c.in_ok-at.at) c.self.invariant.blocks (rw (← c.deref.ensures.value) c.in_ok-at.ensures) in
    rw (c.items.ensures, c.index-block.ensures) (record { few = have_few_slots (parts_of c.self.inside.rows) c.self.invariant.formed c.in_ok-at.at c.index-block.result.now found.0 })

pub returns : goal.returns
unfolding shown
returns c =
    let b = c.index-block.result.now in
    let found = index-at (λ (b : BlockPart). b.offset) c.self.inside.rows.blocks.items c.self.inside.block_places.items c.in_ok-offset.offset (Some c.in_ok-at.at) c.self.invariant.blocks (rw (← c.deref.ensures.value) c.in_ok-at.ensures) in
    ap (λ ts. Some (plain b.types ts)) c.items.ensures ∙ rw (← c.self.view_is) (sym (block_in-at c.self.inside.rows.blocks.items c.args.pc c.in_ok-offset.offset c.in_ok-offset.ensures.0 c.in_ok-offset.ensures.1 c.in_ok-at.at b (blocks_rise (parts_of c.self.inside.rows) c.self.invariant.formed) c.index-block.ensures found))
