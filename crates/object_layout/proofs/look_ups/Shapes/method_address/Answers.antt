use Rattle.std.proofs.Common.{sym, ap, ◌∙◌}
use Rattle.std.specs.Option.{option_map_or}
use Rattle.object_layout.specs.declared.rows.FunRow.{FunRow}
use Rattle.object_layout.proofs.LookUps.{address_method}
use Rattle.object_layout.proofs.look_ups.Shapes.method_address.Goals as goal

pub returns-in-Some : goal.returns-in-Some
returns-in-Some c = ap (λ o. option_map_or (λ (row : FunRow). row.address) o 0) c.in-Some.ensures ∙ sym (address_method _ _ _)

pub returns-in-None : goal.returns-in-None
returns-in-None c = ap (λ o. option_map_or (λ (row : FunRow). row.address) o 0) c.in-None.ensures ∙ sym (address_method _ _ _)
