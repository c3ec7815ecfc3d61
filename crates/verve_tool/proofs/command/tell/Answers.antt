use Rattle.std.proofs.Common.{arith}
use Rattle.verve_tool.proofs.Complaints.{gained_nothing, front_of_whole}
use Rattle.verve_tool.proofs.command.tell.Goals as goal

pub returns-in-Ok-clause-line : goal.returns-in-Ok-clause-line
returns-in-Ok-clause-line g c =
    rw c.in-Ok.is (record { never_falls = omega arith; front = front_of_whole _ _ _ (gained_nothing _); whole = λ q. gained_nothing _ })
