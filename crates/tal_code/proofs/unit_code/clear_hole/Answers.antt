use Rattle.std.proofs.Common.{arith, ◌≡◌, ◌+◌, ◌-◌, ◌++◌, take, drop, refl, sym, ap, ◌∙◌}
use Rattle.std.proofs.lemmas.List.{take-append-drop}
use Rattle.tal_code.specs.Holes.{zeroed_hole}
use Rattle.tal_code.proofs.Zeroes.{cleared}
use Rattle.tal_code.proofs.unit_code.clear_hole.Goals as goal

pub returns-in-None-clause-bytes : goal.returns-in-None-clause-bytes
unfolding zeroed_hole
returns-in-None-clause-bytes c = rw c.in-None.is (sym (take-append-drop c.args.start c.args.code.now))

pub returns-in-Some-clause-bytes : goal.returns-in-Some-clause-bytes
unfolding zeroed_hole
returns-in-Some-clause-bytes c =
    rw (c.from.ensures, c.in-Some.is)
    (cleared c.args.start c.in-Some.place.at _ c.args.code.now c.copy_from_slice.new.self c.copy_from_slice.ensures.after (omega arith))
