use Rattle.std.proofs.Common.{rules, refl}
use Rattle.quick_step.specs.declared.quick_form.Quick.TheVariants.{Full}
use Rattle.kernel_machine.proofs.KeptForms.{none_kept}
use Rattle.kernel_machine.proofs.prepared.Prepared.new.Goals as goal

pub invariant_of-result : goal.invariant_of-result
invariant_of-result c = none_kept _ _ (record { quick = Full; len = 0 }) refl (search rules)
