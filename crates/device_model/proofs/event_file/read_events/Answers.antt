use Rattle.std.proofs.Common.{◌≡◌, ◌++◌, ◌∷◌, [], length, rules}
use Rattle.device_model.specs.EventFile.{lines_of}
use Rattle.device_model.proofs.LineForms.{is_empty}
use Rattle.device_model.proofs.EventLaws.{starts, lines_leave_one, only_memory, first_or_memory, reads_nothing, reads_event, is_all, is_first_fault, order_lines}
use Rattle.device_model.proofs.event_file.read_events.Goals as goal

pub loop-rest-init : goal.loop-rest-init
loop-rest-init c = rw c.new-events.ensures.items (starts c.args.bytes.now)

pub returns-in-Err-clause-fault : goal.returns-in-Err-clause-fault
returns-in-Err-clause-fault c =
    let so_far = c.loop-rest.invariant in
    let many : length c.loop-rest.events.items ≡ c.len.result = search rules in
    is_first_fault c.args.bytes.now c.loop-rest.rest.now c.first_line.result.1.now c.first_line.result.0.now _ _ _ c.in-Err.fault
    so_far c.first_line.ensures.lines (c.in-Err.ensures c.loop-rest.events.items so_far.last_is many)

pub returns-in-Err-clause-only : goal.returns-in-Err-clause-only
returns-in-Err-clause-only c list is =
    let so_far = c.loop-rest.invariant in
    let many : length c.loop-rest.events.items ≡ c.len.result = search rules in
    only_memory c.args.bytes.now list c.in-Err.fault
    (is_first_fault c.args.bytes.now c.loop-rest.rest.now c.first_line.result.1.now c.first_line.result.0.now _ _ _ c.in-Err.fault
    so_far c.first_line.ensures.lines (c.in-Err.ensures c.loop-rest.events.items so_far.last_is many)) is

pub loop-rest-preserved-in-Ok-None : goal.loop-rest-preserved-in-Ok-None
loop-rest-preserved-in-Ok-None c =
    let so_far = c.loop-rest.invariant in
    let many : length c.loop-rest.events.items ≡ c.len.result = search rules in
    reads_nothing c.args.bytes.now c.loop-rest.rest.now c.first_line.result.1.now c.first_line.result.0.now _ _ _
    so_far c.first_line.ensures.lines c.first_line.ensures.shorter (rw c.in-Ok-None.field-0-is at (c.in-Ok-None.ensures c.loop-rest.events.items so_far.last_is many))

pub loop-rest-preserved : goal.loop-rest-preserved
loop-rest-preserved c =
    let so_far = c.loop-rest.invariant in
    let many : length c.loop-rest.events.items ≡ c.len.result = search rules in
    let pushed : c.push.new.self.items ≡ c.loop-rest.events.items ++ c.in-Ok-Some.event ∷ [] = search rules in
    rw pushed
    (reads_event c.args.bytes.now c.loop-rest.rest.now c.first_line.result.1.now c.first_line.result.0.now _ _ _ c.in-Ok-Some.event
    so_far c.first_line.ensures.lines c.first_line.ensures.shorter (rw c.in-Ok-Some.field-0-is at (c.in-Ok-Some.ensures c.loop-rest.events.items so_far.last_is many)))

pub returns-clause-found : goal.returns-clause-found
returns-clause-found c = is_all c.args.bytes.now c.loop-rest.rest.now _ _ _ c.loop-rest.invariant (is_empty c.loop-rest.rest.now c.loop-rest-test.ensures)

pub returns-clause-only : goal.returns-clause-only
returns-clause-only c list is =
    let found = is_all c.args.bytes.now c.loop-rest.rest.now _ _ _ c.loop-rest.invariant (is_empty c.loop-rest.rest.now c.loop-rest-test.ensures) in
    lines_leave_one _ [] c.loop-rest.events.items list found is

pub returns-clause-in_order : goal.returns-clause-in_order
returns-clause-in_order c =
    order_lines (lines_of c.args.bytes.now) [] c.loop-rest.events.items tt
    (is_all c.args.bytes.now c.loop-rest.rest.now _ _ _ c.loop-rest.invariant (is_empty c.loop-rest.rest.now c.loop-rest-test.ensures))

pub returns-in-Err-clause-only_fault : goal.returns-in-Err-clause-only_fault
returns-in-Err-clause-only_fault c fault first other =
    let so_far = c.loop-rest.invariant in
    let many : length c.loop-rest.events.items ≡ c.len.result = search rules in
    first_or_memory c.args.bytes.now c.in-Err.fault fault other
    (is_first_fault c.args.bytes.now c.loop-rest.rest.now c.first_line.result.1.now c.first_line.result.0.now _ _ _ c.in-Err.fault
    so_far c.first_line.ensures.lines (c.in-Err.ensures c.loop-rest.events.items so_far.last_is many)) first

pub returns-clause-only_fault : goal.returns-clause-only_fault
returns-clause-only_fault c fault first other =
    other (only_memory c.args.bytes.now c.loop-rest.events.items fault first
    (is_all c.args.bytes.now c.loop-rest.rest.now _ _ _ c.loop-rest.invariant (is_empty c.loop-rest.rest.now c.loop-rest-test.ensures)))
