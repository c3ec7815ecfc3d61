use Rattle.std.proofs.Common.{ℕ, ◌+◌, refl}
use Rattle.object_layout.specs.declared.rows.FunRow.{FunRow}
use Rattle.tal_image.specs.declared.parts.FunctionPart.{FunctionPart}
use Rattle.object_layout.specs.Areas.{code_start}
use Rattle.tal_image.specs.Conditions.{fun_rows}
use Rattle.tal_image.proofs.Finding.RunningRows.{one_more, no_more, room_more}
use Rattle.tal_image.proofs.placement.fun_rows.Goals as goal

pub loop-function-preserved : goal.loop-function-preserved
unfolding fun_rows
loop-function-preserved c =
    let row : ℕ → FunctionPart → FunRow = λ a f. record { sig = f.sig; address = a } in
    let size : FunctionPart → ℕ = λ f. f.length in
    let i = c.loop-function.function-index in
    let fs = c.args.functions.now in
    record {
      rest = rw c.in_ok-push.ensures.items (one_more fun_rows row size (λ a. refl) (λ a f fs. refl) c.loop-function.funs.items (fun_rows code_start fs) c.loop-function.address i fs _ c.loop-function-test.true c.loop-function.invariant.rest);
      room = room_more fun_rows row size (λ a. refl) (λ a f fs. refl) c.loop-function.address i (code_start + 1048576) fs _ c.loop-function-test.true c.loop-function.invariant.room;
    }

pub returns : goal.returns
unfolding fun_rows
returns c =
    no_more fun_rows (λ a f. record { sig = f.sig; address = a }) (λ (f : FunctionPart). f.length) (λ a. refl) (λ a f fs. refl) c.loop-function.funs.items (fun_rows code_start c.args.functions.now) c.loop-function.address c.loop-function.function-index c.args.functions.now c.loop-function-test.false c.loop-function.invariant.rest
