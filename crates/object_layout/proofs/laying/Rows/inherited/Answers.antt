use Rattle.std.proofs.Common.{refl, sym, ◌∙◌, arith}
use Rattle.std.proofs.lemmas.Option.{slice_get_read}
use Rattle.object_layout.proofs.Inheriting.{inherited-root, inherited-under, parent-of_row, parent-later}
use Rattle.object_layout.proofs.laying.Rows.inherited.Goals as goal

pub returns-in-None : goal.returns-in-None
returns-in-None c = inherited-root _ _ _ (parent-of_row _ _ _ c.row.ensures ∙ c.in-None.is) refl refl refl refl refl

pub returns-then-p-c : goal.returns-then-p-c
returns-then-p-c c = parent-later _ _ c.in-Some.p (parent-of_row _ _ _ c.row.ensures ∙ c.in-Some.is) c.if-p-c.true

pub overflow_add-result : goal.overflow_add-result
overflow_add-result c =
    let read = slice_get_read c.args.laid.now _ c.in-Some.p _ (sym c.requires.before.long) c.if-p-c.false c.index-laid-p.is in
    omega (arith, (c.requires.before.each _ _ read).shallow)

pub returns-else-p-c : goal.returns-else-p-c
returns-else-p-c c =
    let read = slice_get_read c.args.laid.now _ c.in-Some.p _ (sym c.requires.before.long) c.if-p-c.false c.index-laid-p.is in
    inherited-under _ _ c.in-Some.p c.index-laid-p.result _ c.requires.before.sound
    (parent-of_row _ _ _ c.row.ensures ∙ c.in-Some.is) c.if-p-c.false (c.requires.before.each _ _ read)
    refl refl c.items.ensures c.items-in-Some.ensures
