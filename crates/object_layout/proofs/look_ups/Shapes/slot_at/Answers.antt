use Rattle.std.proofs.Common.{ap, sym, ◌∙◌}
use Rattle.std.specs.Option.{option_map}
use Rattle.object_layout.specs.declared.rows.FunRow.{FunRow}
use Rattle.object_layout.proofs.LookUps.{slot_at-no_word, slot_at-method}
use Rattle.object_layout.proofs.look_ups.Shapes.slot_at.Goals as goal

pub returns-in_err-slot : goal.returns-in_err-slot
returns-in_err-slot c = c.from_residual.ensures ∙ sym (slot_at-no_word _ _ _ c.in_err-slot.ensures)

pub returns-in_err-method : goal.returns-in_err-method
returns-in_err-method c =
    c.from_residual-in_err-method.ensures
    ∙ ap (option_map (λ (row : FunRow). row.sig)) c.in_err-method.ensures
    ∙ sym (slot_at-method _ _ _ _ c.in_ok-slot.ensures)

pub returns : goal.returns
returns c = ap (option_map (λ (row : FunRow). row.sig)) c.in_ok-method.ensures ∙ sym (slot_at-method _ _ _ _ c.in_ok-slot.ensures)
