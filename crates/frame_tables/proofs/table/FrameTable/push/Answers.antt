use Rattle.std.proofs.Common.{map, All, ◌<◌, subst, sym}
use Rattle.std.proofs.lemmas.List.{length-map}
use Rattle.frame_tables.specs.Layout.{row_kept}
use Rattle.frame_tables.proofs.Keeping.{Pushed, pushes}
use Rattle.frame_tables.proofs.table.FrameTable.push.Goals as goal

-- What the push kept, of the fields.
pub kept : (c : goal.After-push_reserved-2) → Pushed (map row_kept c.self.inside.rows.keys) (map row_kept c.number_of.new.rows.keys) c.self.inside.addresses.items c.self.inside.numbers.items c.args.pc c.in_ok-number.number c.args.row
kept c =
    let below = subst (All (λ r. r.pc < c.args.pc)) (sym c.self.view_is) c.requires in
    pushes _ _ _ _ _ _ _ c.self.invariant below c.in_ok-number.ensures.joined (rw (length-map c.number_of.new.rows.keys) c.in_ok-number.ensures.few) (rw (length-map c.number_of.new.rows.keys) c.in_ok-number.ensures.number.0) c.in_ok-number.ensures.number.1

pub invariant_of-self-2 : goal.invariant_of-self-2
invariant_of-self-2 c =
    rw (c.push_reserved.ensures.items, c.push_reserved-2.ensures.items, c.in_ok-reserve.ensures.items, c.in_ok-reserve-2.ensures.items) (kept c).kept

pub returns-clause-ok : goal.returns-clause-ok
returns-clause-ok c =
    rw (← c.self.view_is, c.push_reserved.ensures.items, c.push_reserved-2.ensures.items, c.in_ok-reserve.ensures.items, c.in_ok-reserve-2.ensures.items) (kept c).table

pub number_of-requires : goal.number_of-requires
number_of-requires c = record {
  known = rw (c.deref.ensures.value, c.in_ok-reserve-2.ensures.items) (rw (length-map c.self.inside.rows.keys) at c.self.invariant.known);
  few = rw (length-map c.self.inside.rows.keys) at c.self.invariant.few;
}
