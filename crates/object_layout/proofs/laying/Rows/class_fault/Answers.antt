use Rattle.std.proofs.Common.{arith}
use Rattle.std.proofs.lemmas.Bool.Decides.{nat_tests}
use Rattle.object_layout.proofs.RowFaults.{class_fault-below, fault_below}
use Rattle.object_layout.proofs.laying.Rows.class_fault.Goals as goal

pub returns-then-above-gt7 : goal.returns-then-above-gt7
unfolding fault_below
returns-then-above-gt7 c =
    let e = class_fault-below _ _ _ _ c.requires.above c.row-class.ensures in
    rw e (grind (arith, nat_tests))

pub returns-then-is_too_many : goal.returns-then-is_too_many
unfolding fault_below
returns-then-is_too_many c =
    let e = class_fault-below _ _ _ _ c.requires.above c.row-class.ensures in
    rw e (grind (arith, nat_tests))

pub returns-then-not-has_indexes : goal.returns-then-not-has_indexes
unfolding fault_below
returns-then-not-has_indexes c =
    let e = class_fault-below _ _ _ _ c.requires.above c.row-class.ensures in
    rw e (grind (arith, nat_tests))

pub returns-then-not-keeps : goal.returns-then-not-keeps
unfolding fault_below
returns-then-not-keeps c =
    let e = class_fault-below _ _ _ _ c.requires.above c.row-class.ensures in
    rw e (grind (arith, nat_tests))

pub returns-else-not-keeps : goal.returns-else-not-keeps
unfolding fault_below
returns-else-not-keeps c =
    let e = class_fault-below _ _ _ _ c.requires.above c.row-class.ensures in
    rw e (grind (arith, nat_tests))
