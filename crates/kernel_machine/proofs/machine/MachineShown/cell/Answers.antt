use Rattle.kernel_machine.proofs.Cells.{screen_count, screen_read}
use Rattle.kernel_machine.proofs.Showing.{history_there}
use Rattle.kernel_machine.proofs.machine.MachineShown.cell.Goals as goal

pub returns-clause-cell : goal.returns-clause-cell
returns-clause-cell c =
    let (history, stands) = history_there _ _ c.self.invariant in
    rw (← c.self.view_is) (screen_read _ history stands c.args.position c.requires c.cell.result c.unwrap.result
    (c.cell.ensures.value history (rw c.devices.ensures stands)) c.unwrap.ensures)

pub returns-clause-all : goal.returns-clause-all
returns-clause-all c = rw (← c.self.view_is) (screen_count _)
