use Rattle.std.proofs.Common.{◌∙◌}
use Rattle.std.proofs.lemmas.Result.{err_from_is_err_and}
use Rattle.tal_image.proofs.Reading.Steps.{no_count, no_methods, class_read}
use Rattle.tal_image.proofs.class_reader.behind_parent.Goals as goal

pub returns-in_err-count-clause-gives : goal.returns-in_err-count-clause-gives
returns-in_err-count-clause-gives c =
    let p = err_from_is_err_and c.from_residual-in_err-count.result c.from_residual-in_err-count.ensures.1 in
    let f = c.in_ok-own.ensures.file in
    let f2 = c.in_ok-fields.ensures.file ∙ f in
    rw (p.1, p.2) (no_count c.args.tables.now c.args.functions.now c.args.number c.args.above c.args.taken.now _ _ _ _ c.in_ok-own.ensures.gives _ _ (rw f at c.in_ok-fields.ensures.gives) _ (rw f2 at c.in_err-count.ensures.gives))

pub returns-in_err-methods-clause-gives : goal.returns-in_err-methods-clause-gives
returns-in_err-methods-clause-gives c =
    let p = err_from_is_err_and c.from_residual-in_err-methods.result c.from_residual-in_err-methods.ensures.1 in
    let f = c.in_ok-own.ensures.file in
    let f2 = c.in_ok-fields.ensures.file ∙ f in
    let f3 = c.in_ok-count.ensures.file ∙ f2 in
    rw (p.1, p.2) (no_methods c.args.tables.now c.args.functions.now c.args.number c.args.above c.args.taken.now _ _ _ _ c.in_ok-own.ensures.gives _ _ (rw f at c.in_ok-fields.ensures.gives) _ _ (rw f2 at c.in_ok-count.ensures.gives) _ (rw f3 at c.in_err-methods.ensures.gives))

pub returns-clause-gives : goal.returns-clause-gives
returns-clause-gives c =
    let f = c.in_ok-own.ensures.file in
    let f2 = c.in_ok-fields.ensures.file ∙ f in
    let f3 = c.in_ok-count.ensures.file ∙ f2 in
    rw c.parent_of.ensures (class_read c.args.tables.now c.args.functions.now c.args.number c.args.above c.args.taken.now _ _ _ _ c.in_ok-own.ensures.gives _ _ (rw f at c.in_ok-fields.ensures.gives) _ _ (rw f2 at c.in_ok-count.ensures.gives) _ _ (rw f3 at c.in_ok-methods.ensures.gives))
