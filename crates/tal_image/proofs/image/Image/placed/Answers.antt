use Rattle.std.proofs.Common.{◌≤◌, length, refl, ◌∙◌, ap, subst, sym}
use Rattle.std.proofs.lemmas.List.{length-map}
use Rattle.object_layout.specs.Areas.{code_start}
use Rattle.tal_image.specs.Image.{ImageParts, BlockPart, parts_of}
use Rattle.tal_image.specs.declared.parts.MarkPart.{MarkPart}
use Rattle.tal_image.specs.Formed.{Formed}
use Rattle.tal_image.specs.Kept.{owners}
use Rattle.tal_image.proofs.Finding.KeyedRows.{rises-map}
use Rattle.tal_image.proofs.Finding.KeptRows.{upto, blocks_rise, marks_rise}
use Rattle.tal_image.proofs.Finding.Spans.{addresses-spans}
use Rattle.tal_image.proofs.Finding.Indexes.{index-map}
use Rattle.tal_image.proofs.image.Image.placed.Goals as goal

pub owners-requires : goal.owners-requires
owners-requires c =
    let few = upto 1 16384 (length c.args.placed.functions) c.requires.condition_4 in
    rw (c.deref-3.ensures.value) (subst (λ (i : ImageParts). length i.functions ≤ 16384) (sym c.placed.view_is) few)

pub index_of-requires : goal.index_of-requires
index_of-requires c =
    let formed = subst Formed (sym c.placed.view_is) c.requires in
    let blocks = c.placed.inside.rows.blocks.items in
    let few = upto 0 65536 (length blocks) formed.condition_10 in
    rw (c.deref-5.ensures.value, c.in_ok-block_offsets.ensures, c.deref-4.ensures.value)
    (record { few = rw (length-map blocks (λ (b : BlockPart). b.offset)) few; rising = rises-map (λ (b : BlockPart). b.offset) blocks (blocks_rise (parts_of c.placed.inside.rows) formed) })

pub index_of-requires-2 : goal.index_of-requires-2
index_of-requires-2 c =
    let formed = subst Formed (sym c.placed.view_is) c.requires in
    let marks = c.placed.inside.rows.marks.items in
    let few = upto 0 65536 (length marks) formed.condition_11 in
    rw (c.deref-7.ensures.value, c.in_ok-mark_offsets.ensures, c.deref-6.ensures.value)
    (record { few = rw (length-map marks (λ (m : MarkPart). m.offset)) few; rising = rises-map (λ (m : MarkPart). m.offset) marks (marks_rise (parts_of c.placed.inside.rows) formed) })

pub invariant_of-result : goal.invariant_of-result
invariant_of-result c = record {
  formed = subst Formed (sym c.placed.view_is) c.requires;
  shapes = c.in_ok-shapes.ensures;
  starts = c.in_ok-starts.ensures ∙ rw (c.deref-2.ensures.value, c.placed.invariant.funs) (addresses-spans code_start c.placed.inside.rows.functions.items);
  owners = c.in_ok-owners.ensures ∙ ap (owners 0) c.deref-3.ensures.value;
  blocks = index-map (λ (b : BlockPart). b.offset) c.placed.inside.rows.blocks.items c.deref-5.result.now c.in_ok-block_places.block_places.items (rw (c.deref-5.ensures.value, c.in_ok-block_offsets.ensures, c.deref-4.ensures.value) refl) c.in_ok-block_places.ensures;
  marks = index-map (λ (m : MarkPart). m.offset) c.placed.inside.rows.marks.items c.deref-7.result.now c.in_ok-mark_places.mark_places.items (rw (c.deref-7.ensures.value, c.in_ok-mark_offsets.ensures, c.deref-6.ensures.value) refl) c.in_ok-mark_places.ensures;
  offsets = c.placed.invariant.offsets;
}
