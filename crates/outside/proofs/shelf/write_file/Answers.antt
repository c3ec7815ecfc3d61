use Rattle.std.proofs.Common.{sym, ◌∙◌}
use Rattle.outside.proofs.Places.{set-writes}
use Rattle.outside.proofs.shelf.write_file.Goals as goal

pub returns-then-is_named-clause-places : goal.returns-then-is_named-clause-places
returns-then-is_named-clause-places c =
    let (same, _, split) = c.loop-place.invariant in
    let ps = c.loop-place.places in
    let i = c.loop-place.place-index in
    let wrote = set-writes ps i c.place-item.result c.keep.new.self c.args.name.now c.args.bytes.now (rw same c.loop-place-test.true) (sym c.is_named.ensures ∙ c.if-is_named.true) c.keep.ensures.place in
    wrote ∙ rw same (sym split)
