use Rattle.std.proofs.Common.{refl, arith, ◌∙◌}
use Rattle.std.proofs.lemmas.Result.{err_from_is_err_and}
use Rattle.verve_tool.proofs.runs.make_run.Goals as goal

pub returns-clause-made : goal.returns-clause-made
returns-clause-made g c = record {
  ran = record {
    machine = c.run-end.new.machine;
    is = refl;
    loaded = rw (c.run-end.ensures.image, c.in_ok-machine.ensures.image, c.run-end.ensures.events, c.in_ok-machine.ensures.events) c.in_ok-checked.ensures.loaded;
    follows = c.run-end.ensures.follows (rw c.requires.clear c.in_ok-machine.ensures.follows);
    within = omega (arith, c.run-end.ensures.most, c.in_ok-machine.ensures.turns);
  };
  answer = c.run-end.ensures.answer;
  all = λ h. omega (arith, (c.run-end.ensures.all.0 h).1, c.in_ok-machine.ensures.turns);
}
