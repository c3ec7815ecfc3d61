use Rattle.std.proofs.Common.{◌≡◌, ◌∙◌, ap, Err}
use Rattle.tal_syntax.specs.Text.{text_at}
use Rattle.verve_tool.specs.Texts.{unit_of_lines, at_column_0}
use Rattle.verve_tool.proofs.FilesRead.{text_fault_stops}
use Rattle.verve_tool.proofs.assembling.make_unit.Goals as goal

pub returns-in-Err-Fault-clause-stopped : goal.returns-in-Err-Fault-clause-stopped
returns-in-Err-Fault-clause-stopped c told name file =
    let read : text_at c.args.bytes.now ≡ Err c.in-Err-Fault.fault = rw c.in-Err-Fault.field-0-is at c.in-Err-Fault.ensures.gives in
    rw c.in-Err-Fault.fault-is (text_fault_stops told name c.args.bytes.now c.in-Err-Fault.fault file (ap (λ r. unit_of_lines r) read))

pub returns-in-Err-Fault-assemble-clause-stopped : goal.returns-in-Err-Fault-assemble-clause-stopped
returns-in-Err-Fault-assemble-clause-stopped c told name file = text_fault_stops told name _ _ file
    (ap (λ r. unit_of_lines r) c.in-Ok.ensures.gives ∙ ap (λ r. at_column_0 r) (rw c.in-Err-Fault-assemble.field-0-is at c.in-Err-Fault-assemble.ensures))
