use Rattle.std.proofs.Common.{◌∙◌}
use Rattle.kernel_machine.proofs.KeptForms.{may_keep}
use Rattle.kernel_machine.proofs.acting.act_first.Goals as goal

pub keep-requires-clause-tells : goal.keep-requires-clause-tells
keep-requires-clause-tells c = may_keep _ _ _ _ _ c.quick_of-quick.ensures (record { here = rw c.image.ensures.value at c.inst_in-inst.ensures.here; spelled = c.inst_in-inst.ensures.spelled })

pub act-requires-clause-acts : goal.act-requires-clause-acts
act-requires-clause-acts c =
    rw (rw (c.image-2.ensures.value, c.keep.ensures) at c.shapes.ensures.value, rw (c.checked.ensures, c.keep.ensures) at (c.frames.ensures.value ∙ c.frames.ensures.rows))
    (c.requires.acts _ _ (rw c.image.ensures.value at c.inst_in-inst.ensures.here))

pub returns-clause-acted : goal.returns-clause-acted
returns-clause-acted c = record {
  inst = _;
  len = _;
  here = rw c.image.ensures.value at c.inst_in-inst.ensures.here;
  leads = rw (rw (c.image-2.ensures.value, c.keep.ensures) at c.shapes.ensures.value, rw (c.checked.ensures, c.keep.ensures) at (c.frames.ensures.value ∙ c.frames.ensures.rows)) at c.act.ensures.turn;
}
