use Rattle.std.proofs.Common.{◌≡◌, Some, true, is_some, sym, ap, ◌∙◌, subst}
use Rattle.tal_code.specs.Functions.{has_room, with_inst}
use Rattle.tal_code.proofs.Rooms.{no_fault, not_both}
use Rattle.tal_code.proofs.unit_code.UnitCode.with_inst_line.Goals as goal

pub with_inst-requires-clause-room : goal.with_inst-requires-clause-room
with_inst-requires-clause-room c =
    let told = no_fault c.instruction_of-instruction.result c.is_some.result c.is_some-2.result c.has_room-has_room.result (sym c.in-None.ensures) in
    subst (λ o. has_room (with_inst c.args.self c.instruction_of-instruction.result.sense o) ≡ true) c.in-Some-holed.is (sym c.has_room-has_room.ensures ∙ told.2)

pub returns-in-None-holed : goal.returns-in-None-holed
returns-in-None-holed c =
    let told = no_fault c.instruction_of-instruction.result c.is_some.result c.is_some-2.result c.has_room-has_room.result (sym c.in-None.ensures) in
    absurd (not_both c.line_code-holed.result c.in-None-holed.is (sym c.is_some.ensures ∙ told.0))
