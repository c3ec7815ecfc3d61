use Rattle.std.proofs.Common.{sym, ◌∙◌, arith}
use Rattle.std.proofs.lemmas.Option.{gets}
use Rattle.object_layout.proofs.LookUps.{field_at-no_class, field_at-laid}
use Rattle.object_layout.proofs.look_ups.Shapes.field_at.Goals as goal

pub returns-in_err-class : goal.returns-in_err-class
returns-in_err-class c = c.from_residual.ensures ∙ sym (field_at-no_class _ _ _ c.in_err-class.ensures.laid)

pub returns-in_err-field : goal.returns-in_err-field
returns-in_err-field c = c.from_residual-in_err-field.ensures ∙ sym (field_at-laid _ _ _ _ _ c.in_ok-class.ensures.laid c.in_err-field.ensures)

pub returns : goal.returns
returns c = let e = field_at-laid _ _ _ _ _ c.in_ok-class.ensures.laid c.in_ok-field.ensures in grind (arith, gets)
