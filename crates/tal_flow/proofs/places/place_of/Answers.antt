use Rattle.std.proofs.Common.{◌≡◌, true, false, ap, sym, ◌∙◌, arith}
use Rattle.std.proofs.lemmas.Grind.{common_steps}
use Rattle.tal_flow.specs.Places.{PlaceType}
use Rattle.tal_flow.proofs.EdgeRules.{live-context, dead-context}
use Rattle.tal_flow.proofs.places.place_of.Goals as goal
use Rattle.tal_flow.proofs.places.place_of.Goals.{then-is_some-via-then-is_some, then-is_some-via-else-is_some+then-is_some-2}

pub returns-then-not-context : goal.returns-then-not-context
returns-then-not-context c =
    let t = c.if-not-context.true in
    let e : c.args.context.now.dead ≡ false = grind arith in
    c.place_in.ensures ∙ ap (λ x. PlaceType c.args.shapes.now c.args.statics.now x c.args.mem.now) (sym (live-context c.args.context.now e))

pub returns-then-is_some : goal.returns-then-is_some
returns-then-is_some c =
    let t = c.if-not-context.false in
    let e : c.args.context.now.dead ≡ true = grind arith in
    rw (dead-context c.args.context.now e)
    (elim c.then-is_some.branch [
      | then-is_some-via-then-is_some w ↦ grind (arith, common_steps)
      | then-is_some-via-else-is_some+then-is_some-2 w ↦ grind (arith, common_steps)
    ])
