use Rattle.std.proofs.Common.{sym, arith}
use Rattle.std.proofs.lemmas.Option.{slice_get_past}
use Rattle.object_layout.specs.Areas.{code_start}
use Rattle.tal_image.specs.Shown.{spans, function_in}
use Rattle.tal_image.proofs.Finding.Spans.{length-spans}
use Rattle.tal_image.proofs.image.Image.function.Goals as goal

pub returns-then-f-len : goal.returns-then-f-len
unfolding function_in
returns-then-f-len c = sym c.span.ensures

pub returns-else-f-len : goal.returns-else-f-len
unfolding function_in
returns-else-f-len c =
    let fs = c.self.inside.rows.functions.items in
    let many = length-spans code_start fs in
    rw (← c.self.view_is) (sym (slice_get_past (spans code_start fs) c.args.f (omega arith)))
