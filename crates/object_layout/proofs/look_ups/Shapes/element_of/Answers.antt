use Rattle.std.proofs.Common.{◌≡◌, Some, None, ap, ◌∙◌, arith, slice_get}
use Rattle.std.proofs.lemmas.Option.{gets}
use Rattle.object_layout.proofs.LookUps.{element_at}
use Rattle.object_layout.proofs.look_ups.Shapes.element_of.Goals as goal

pub returns-in_err-row-clause-value : goal.returns-in_err-row-clause-value
returns-in_err-row-clause-value c =
    let found : None ≡ slice_get c.deref.result.now c.args.k = grind (arith, gets) in
    c.from_residual.ensures ∙ element_at _ _ None (found ∙ ap (λ xs. slice_get xs c.args.k) c.deref.ensures.value ∙ ap (λ s. slice_get s.kinds c.args.k) c.self.view_is)

pub returns-clause-value : goal.returns-clause-value
returns-clause-value c =
    let found : Some c.in_ok-row.row.now ≡ slice_get c.deref.result.now c.args.k = grind (arith, gets) in
    element_at _ _ (Some c.in_ok-row.row.now) (found ∙ ap (λ xs. slice_get xs c.args.k) c.deref.ensures.value ∙ ap (λ s. slice_get s.kinds c.args.k) c.self.view_is)
