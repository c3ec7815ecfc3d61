use Rattle.nucleus_calls.proofs.switching.go_on.Goals as goal

pub returns-in-Empty : goal.returns-in-Empty
returns-in-Empty c =
    let esp = c.first_esp-esp.ensures in
    rw c.in-Empty.is (rw esp at c.fresh_cpu.ensures, rw esp at c.put.ensures)
