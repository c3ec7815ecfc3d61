use Rattle.std.proofs.Common.{refl, ◌∙◌}
use Rattle.heap_cases.proofs.NumberClass.{plain_table, ok_so}
use Rattle.heap_cases.proofs.number_class.number_table.Goals as goal

pub returns : goal.returns
returns c = ok_so _ _ (λ s h. plain_table s (h.1 ∙ rw (c.deref.ensures.value, c.in_ok-rows.ensures) refl)) _ c.of.ensures.accepted
