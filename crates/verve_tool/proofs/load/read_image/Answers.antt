use Rattle.verve_tool.proofs.FilesRead.{fault_stops}
use Rattle.verve_tool.proofs.load.read_image.Goals as goal

pub returns-in-Err-clause-stopped : goal.returns-in-Err-clause-stopped
returns-in-Err-clause-stopped c told file = fault_stops told c.args.name _ c.in-Err.fault file c.in-Err.ensures.fault
