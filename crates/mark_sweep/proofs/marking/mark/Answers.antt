use Rattle.std.proofs.Common.{arith, ◌<◌, ◌≤◌}
use Rattle.mark_sweep.specs.Marking.{left}
use Rattle.mark_sweep.proofs.Keeping.{kept-refl}
use Rattle.mark_sweep.proofs.Steps.{good_placed}
use Rattle.mark_sweep.proofs.Scanning.{taken, waits-none}
use Rattle.mark_sweep.proofs.marking.mark.Goals as goal

pub mark_listed-first-requires-clause-placed : goal.mark_listed-first-requires-clause-placed
mark_listed-first-requires-clause-placed g c = λ w m. good_placed _ _ _ w (kept-refl _) (c.requires.good.roots w m)

pub waiting-init : goal.waiting-init
waiting-init g c = record { waits = c.mark_listed-first.ensures.waits _ c.requires.good; formed = c.mark_listed-first.ensures.formed }

pub link-next-requires : goal.link-next-requires
link-next-requires g c = (taken _ _ _ _ _ c.requires.good c.waiting.invariant.waits (omega (arith, c.waiting-test.true))).begins

pub scan-first-requires-clause-begins : goal.scan-first-requires-clause-begins
scan-first-requires-clause-begins g c = (taken _ _ _ _ _ c.requires.good c.waiting.invariant.waits (omega (arith, c.waiting-test.true))).begins

pub scan-first-requires-clause-placed : goal.scan-first-requires-clause-placed
scan-first-requires-clause-placed g c = (taken _ _ _ _ _ c.requires.good c.waiting.invariant.waits (omega (arith, c.waiting-test.true))).placed

pub waiting-smaller : goal.waiting-smaller
waiting-smaller g c =
    let t = taken _ _ _ _ _ c.requires.good c.waiting.invariant.waits (omega (arith, c.waiting-test.true)) in
    let s = c.scan-first.ensures.scanned _ _ c.requires.good c.requires.formed t.reached (rw c.link-next.ensures.link t.scanned) in
    let l : left c.waiting.heap c.link-next.result < left c.waiting.heap c.waiting.first = rw c.link-next.ensures.link t.less in
    let m : left c.scan-first.new.heap c.scan-first.result ≤ left c.waiting.heap c.link-next.result = s.1 in
    omega arith

pub waiting-preserved : goal.waiting-preserved
waiting-preserved g c =
    let t = taken _ _ _ _ _ c.requires.good c.waiting.invariant.waits (omega (arith, c.waiting-test.true)) in
    let s = c.scan-first.ensures.scanned _ _ c.requires.good c.requires.formed t.reached (rw c.link-next.ensures.link t.scanned) in
    record { waits = s.0; formed = c.scan-first.ensures.formed }

pub returns-clause-marks : goal.returns-clause-marks
returns-clause-marks g c = waits-none _ _ _ _ _ c.waiting.invariant.waits (omega (arith, c.waiting-test.false))
