use Rattle.std.proofs.Common.{◌≡◌, None, Some, ap, ◌∙◌, arith, length, get_or, slice_get}
use Rattle.std.proofs.lemmas.Option.{gets}
use Rattle.object_layout.proofs.LookUps.{method-no_class, method-laid, method-there, fun_row-read}
use Rattle.object_layout.proofs.look_ups.Shapes.method.Goals as goal

pub returns-in_err-class : goal.returns-in_err-class
returns-in_err-class c = c.from_residual.ensures ∙ method-no_class _ _ _ c.in_err-class.ensures.laid

pub returns-in_err-function : goal.returns-in_err-function
returns-in_err-function c =
    let found : None ≡ slice_get c.in_ok-class.class.now.row.methods c.args.slot = grind (arith, gets) in
    c.from_residual-in_err-function.ensures ∙ method-laid _ _ _ _ None c.in_ok-class.ensures.laid found

pub index-requires : goal.index-requires
index-requires c =
    let found : Some c.in_ok-function.function ≡ slice_get c.in_ok-class.class.now.row.methods c.args.slot = grind (arith, gets) in
    let there = method-there _ _ _ _ _ c.in_ok-class.ensures.sound c.in_ok-class.ensures.laid found in
    omega (arith, there, ap (λ s. length s.funs) c.self.view_is)

pub returns : goal.returns
returns c =
    let found : Some c.in_ok-function.function ≡ slice_get c.in_ok-class.class.now.row.methods c.args.slot = grind (arith, gets) in
    let there = method-there _ _ _ _ _ c.in_ok-class.ensures.sound c.in_ok-class.ensures.laid found in
    let read = c.index.ensures ∙ ap (λ s. get_or s.funs c.in_ok-function.function c.index.result.now) c.self.view_is in
    ap Some (fun_row-read _ _ _ there read) ∙ method-laid _ _ _ _ _ c.in_ok-class.ensures.laid found
