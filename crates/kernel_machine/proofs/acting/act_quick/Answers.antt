use Rattle.kernel_machine.proofs.acting.act_quick.Goals as goal

pub follow-requires-clause-came : goal.follow-requires-clause-came
follow-requires-clause-came c = (_, _, _, record { acts = c.requires.acts; stepped = c.step_quick-step.ensures.step })

pub returns-clause-turn : goal.returns-clause-turn
returns-clause-turn c = c.follow.ensures.turn _ _ _ (record { acts = c.requires.acts; stepped = c.step_quick-step.ensures.step })
