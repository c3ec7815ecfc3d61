use Rattle.std.proofs.Common.{length, sym, subst, ◌<◌, arith}
use Rattle.object_layout.specs.Areas.{code_start}
use Rattle.tal_image.specs.Image.{ImageParts, parts_of}
use Rattle.tal_image.proofs.Finding.Spans.{span_at, span_within}
use Rattle.tal_image.proofs.Finding.KeptRows.{length-starts, functions_hold}
use Rattle.tal_image.proofs.image.Image.span.Goals as goal

pub index-start-requires : goal.index-start-requires
index-start-requires c =
    let paired = length-starts c.self.inside c.self.invariant in
    let within : c.args.f < length c.self.inside.rows.functions.items = subst (λ (i : ImageParts). c.args.f < length i.functions) (sym c.self.view_is) c.requires in
    omega arith

pub overflow_add-result : goal.overflow_add-result
overflow_add-result c =
    let fs = c.self.inside.rows.functions.items in
    let within : c.args.f < length fs = subst (λ (i : ImageParts). c.args.f < length i.functions) (sym c.self.view_is) c.requires in
    let there = span_at code_start fs c.args.f c.index-row.result.now c.index-start.result.now within c.index-row.ensures (rw (← c.self.invariant.starts) c.index-start.ensures) in
    let last = span_within code_start fs c.args.f _ there in
    let few = functions_hold (parts_of c.self.inside.rows) c.self.invariant.formed in
    omega arith

pub returns : goal.returns
returns c =
    let fs = c.self.inside.rows.functions.items in
    let within : c.args.f < length fs = subst (λ (i : ImageParts). c.args.f < length i.functions) (sym c.self.view_is) c.requires in
    rw (← c.self.view_is) (span_at code_start fs c.args.f c.index-row.result.now c.index-start.result.now within c.index-row.ensures (rw (← c.self.invariant.starts) c.index-start.ensures))
