use Rattle.std.proofs.Common.{◌≡◌, Some, true, length, sym, ap, ◌∙◌, subst}
use Rattle.tal_code.specs.Functions.{has_room, with_inst}
use Rattle.tal_code.proofs.Rooms.{grown}
use Rattle.tal_code.proofs.unit_code.UnitCode.with_inst.Goals as goal

pub invariant_of-self : goal.invariant_of-self
invariant_of-self c =
    let room = subst (λ u. has_room (with_inst u c.args.sense (Some c.args.holed.now)) ≡ true) (sym c.self.view_is) c.requires.room in
    let g = grown _ c.args.sense c.args.holed.now c.len-offset.result c.push_open.new.code.items c.push_mark.new.marks.items c.push_fixup.new.fixups.items c.push_fixup-2.new.fixups.items
    (c.len-offset.ensures.bytes ∙ ap (λ u. length u.code) (sym c.self.view_is)) c.in_ok-push_open.ensures c.in_ok-push_mark.ensures c.in_ok-push_fixup.ensures c.in_ok-push_fixup-2.ensures room in
    (g.0, c.self.invariant.1, g.1, g.2)
