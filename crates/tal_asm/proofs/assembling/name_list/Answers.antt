use Rattle.std.proofs.Common.{◌<◌, ◌∷◌, [], ◌++◌, length, ◌∙◌, ap, arith}
use Rattle.tal_asm.proofs.Taken.{next_name, no_next}
use Rattle.tal_asm.proofs.assembling.name_list.Goals.{in-Some+in_ok-of+in_ok-push, in_default}
use Rattle.tal_asm.proofs.assembling.name_list.Goals as goal

pub loop-number-preserved : goal.loop-number-preserved
loop-number-preserved c =
    let long = c.len-number-end.ensures in
    let lt : c.loop-number.number < length c.args.names.now = omega (arith, c.loop-number-test.true, long) in
    elim c.match-name.branch [
      | in-Some+in_ok-of+in_ok-push w ↦
          ap (λ l. l.items) w.list-is
          ∙ next_name c.args.names.now c.loop-number.list.items w.push.new.self.items c.loop-number.number w.in-Some.name.now c.loop-number.invariant lt w.in-Some.ensures
          (w.in_ok-push.ensures.items ∙ ap (λ n. c.loop-number.list.items ++ n ∷ []) w.in_ok-of.ensures)
      | in_default w ↦ absurd (no_next c.args.names.now c.loop-number.number w.in_default.ensures lt)
    ]
