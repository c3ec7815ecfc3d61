use Rattle.std.proofs.Common.{◌∙◌}
use Rattle.tal_types.proofs.Registers.{all_sub-registers}
use Rattle.tal_types.proofs.order.registers_below.Goals as goal

pub returns : goal.returns
returns c = c.all_sub.ensures ∙ all_sub-registers _ _ _ c.told-a c.told-b
