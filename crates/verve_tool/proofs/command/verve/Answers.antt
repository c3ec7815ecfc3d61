use Rattle.verve_tool.specs.Commands.{command_form}
use Rattle.verve_tool.proofs.Exact.{usage_status, usage_leaves, leaves_as, missing_status, stopped_status, complete_status, accepted_status}
use Rattle.verve_tool.proofs.command.verve.Goals as goal

pub returns-clause-outcome : goal.returns-clause-outcome
returns-clause-outcome g c = (_, rw c.tell.ensures.status c.act-answer.ensures, c.tell.ensures.line)

pub returns-clause-usage : goal.returns-clause-usage
returns-clause-usage g c = rw c.tell.ensures.status (usage_status _ _ _ _ c.act-answer.ensures)

pub returns-clause-missing : goal.returns-clause-missing
returns-clause-missing g c files request name line = rw c.tell.ensures.status
    (missing_status _ _ _ _ files request name line (c.one_cause.ensures files (command_form request).causes) c.nothing_stops.ensures c.act-answer.ensures)

pub returns-clause-stopped : goal.returns-clause-stopped
returns-clause-stopped g c files request cause line = rw c.tell.ensures.status
    (stopped_status _ _ _ _ files request cause line (c.one_cause.ensures files (command_form request).causes) c.nothing_stops.ensures c.act-answer.ensures)

pub returns-clause-complete : goal.returns-clause-complete
returns-clause-complete g c files request = rw c.tell.ensures.status
    (complete_status _ _ _ _ files request (c.one_cause.ensures files (command_form request).causes) c.act-answer.ensures)

pub returns-clause-accepted : goal.returns-clause-accepted
returns-clause-accepted g c files name = rw c.tell.ensures.status (accepted_status _ _ _ _ files name c.act-answer.ensures)

pub returns-clause-leaves : goal.returns-clause-leaves
returns-clause-leaves g c request = rw c.tell.ensures.status (leaves_as _ _ _ _ request c.act-answer.ensures)

pub returns-clause-untouched : goal.returns-clause-untouched
returns-clause-untouched g c = rw c.tell.ensures.status (usage_leaves _ _ _ _ c.act-answer.ensures)
