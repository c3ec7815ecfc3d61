use Rattle.std.proofs.Common.{take, ◌++◌, sym, ◌∙◌}
use Rattle.std.proofs.KnownBytes.{Appends-trans}
use Rattle.outside.proofs.Fronts.{front-grows}
use Rattle.outside.proofs.Outcomes.{taken-some}
use Rattle.outside.proofs.transfer.write_whole.Goals as goal

pub loop-rest-preserved : goal.loop-rest-preserved
loop-rest-preserved g c =
    let (done, split, appended) = c.loop-rest.invariant in
    let rest = c.loop-rest.rest.now in
    let n = c.in-Some.count in
    let took = taken-some c.write.result n (sym c.count_taken.ensures ∙ c.in-Some.is) in
    let all = rw took at c.write.ensures.bytes in
    (done ++ take n rest, front-grows _ done rest n split, Appends-trans _ _ _ _ _ appended all)
