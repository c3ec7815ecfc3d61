use Rattle.std.proofs.Common.{inr, refl}
use Rattle.std.proofs.lemmas.Result.{err_from_is_err_and}
use Rattle.object_layout.specs.declared.look_ups.Shapes.TheInside.{Inside}
use Rattle.object_layout.proofs.LaidRows.{classes_fault, kinds-fault, no_fault, kept_rows-kept, laid_out}
use Rattle.object_layout.proofs.look_ups.Shapes.of.Goals as goal

pub returns-in_err-laid-clause-refused : goal.returns-in_err-laid-clause-refused
returns-in_err-laid-clause-refused c =
    let p = err_from_is_err_and c.from_residual.result c.from_residual.ensures.1 in
    rw (p.1, p.2) (classes_fault _ _ c.in_err-laid.ensures.err)

pub returns-in-Some-clause-refused : goal.returns-in-Some-clause-refused
returns-in-Some-clause-refused c = inr (kinds-fault _ _ c.in_ok-laid.ensures.ok.sound c.in-Some.ensures)

pub invariant_of-result : goal.invariant_of-result
invariant_of-result c =
    let a : Inside = record { classes = c.in_ok-laid.laid; kinds = c.in_ok-from_slice.field-0; funs = c.in_ok-from_slice-2.field-0; sigs = c.args.sigs } in
    let same = kept_rows-kept _ a c.in_ok-laid.ensures.ok c.in_ok-from_slice.ensures.items c.in_ok-from_slice-2.ensures.items refl in
    laid_out _ a c.in_ok-laid.ensures.ok same (no_fault _ c.in_ok-laid.ensures.ok.sound c.in_default.ensures)

pub returns-clause-accepted : goal.returns-clause-accepted
returns-clause-accepted c =
    let a : Inside = record { classes = c.in_ok-laid.laid; kinds = c.in_ok-from_slice.field-0; funs = c.in_ok-from_slice-2.field-0; sigs = c.args.sigs } in (
      no_fault _ c.in_ok-laid.ensures.ok.sound c.in_default.ensures,
      kept_rows-kept _ a c.in_ok-laid.ensures.ok c.in_ok-from_slice.ensures.items c.in_ok-from_slice-2.ensures.items refl,
    )
