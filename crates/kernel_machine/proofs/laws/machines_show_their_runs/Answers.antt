use Rattle.kernel_machine.proofs.Showing.{follows-shows}
use Rattle.kernel_machine.proofs.laws.machines_show_their_runs.Goals as goal

pub returns : goal.returns
returns c = follows-shows c.runs_are_typed.ensures
