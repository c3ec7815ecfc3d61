use Rattle.std.proofs.Common.{◌∙◌}
use Rattle.kernel_machine.proofs.KeptForms.{told}
use Rattle.kernel_machine.proofs.acting.act_here.Goals as goal

pub act_quick-requires-clause-spelled : goal.act_quick-requires-clause-spelled
act_quick-requires-clause-spelled c = (told _ _ _ c.ready-ready.ensures c.in_default.not-Full).spelled

pub act_quick-requires-clause-acts : goal.act_quick-requires-clause-acts
act_quick-requires-clause-acts c =
    rw (rw c.image.ensures.value at c.shapes.ensures.value, rw c.checked.ensures at (c.frames.ensures.value ∙ c.frames.ensures.rows))
    (c.requires.acts _ _ (told _ _ _ c.ready-ready.ensures c.in_default.not-Full).here)

pub returns-in_default-clause-acted : goal.returns-in_default-clause-acted
returns-in_default-clause-acted c = record {
  inst = _;
  len = _;
  here = (told _ _ _ c.ready-ready.ensures c.in_default.not-Full).here;
  leads = rw (rw c.image.ensures.value at c.shapes.ensures.value, rw c.checked.ensures at (c.frames.ensures.value ∙ c.frames.ensures.rows)) at c.act_quick.ensures.turn;
}
