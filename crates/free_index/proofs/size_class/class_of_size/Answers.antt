use Rattle.std.proofs.Common.{arith, sym}
use Rattle.free_index.proofs.SizeClasses.{class_small, class_log, class_most}
use Rattle.free_index.proofs.size_class.class_of_size.Goals as goal

pub returns-then-size-le64-clause-value : goal.returns-then-size-le64-clause-value
returns-then-size-le64-clause-value c = sym (class_small _ c.requires.rows c.requires.some c.if-size-le64.true)

pub returns-else-size-le64-clause-value : goal.returns-else-size-le64-clause-value
returns-else-size-le64-clause-value c = sym (class_log _ _ c.if-size-le64.false c.requires.most c.ilog2.ensures.power_le c.ilog2.ensures.next_power_gt)

pub returns-else-size-le64-clause-few : goal.returns-else-size-le64-clause-few
returns-else-size-le64-clause-few c =
    let e = class_log _ _ c.if-size-le64.false c.requires.most c.ilog2.ensures.power_le c.ilog2.ensures.next_power_gt in
    omega (arith, class_most c.args.size)
