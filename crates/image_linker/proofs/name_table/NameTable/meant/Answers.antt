use Rattle.std.proofs.Common.{ℕ, ◌+◌, ◌++◌, drop, arith, sym, ap, ◌∙◌}
use Rattle.std.proofs.lemmas.List.{append-nil, drop_all}
use Rattle.std.specs.Global.{Vec}
use Rattle.std.specs.Option.{option_to_list}
use Rattle.image_linker.proofs.Mentions.Rows.{places_in, meant_places}
use Rattle.image_linker.proofs.Mentions.Entries.{places_step}
use Rattle.image_linker.proofs.name_table.NameTable.meant.Goals as goal
use Rattle.image_linker.proofs.name_table.NameTable.meant.Goals.{in-Some+in_ok-push, in_default}

pub returns : goal.returns
returns c rows was =
    sym (append-nil c.loop-i.places.items)
    ∙ ap (λ kept. c.loop-i.places.items ++ places_in kept) (sym (drop_all c.loop-i.i c.args.self.now (omega (arith, c.loop-i-test.false, c.count-i-end.ensures))))
    ∙ sym c.loop-i.invariant ∙ ap places_in was ∙ meant_places rows

pub loop-i-preserved : goal.loop-i-preserved
loop-i-preserved c = c.loop-i.invariant ∙ places_step c.loop-i.places.items c.args.self.now c.loop-i.i _ c.row.ensures ∙ ap (λ l. l ++ places_in (drop (c.loop-i.i + 1) c.args.self.now)) (elim c.match-owner.branch [
  | in-Some+in_ok-push w ↦ ap (λ o. c.loop-i.places.items ++ option_to_list o) w.in-Some.is ∙ sym w.in_ok-push.ensures.items ∙ ap (λ (v : Vec ℕ). v.items) (sym w.places-is)
  | in_default w ↦ ap (λ o. c.loop-i.places.items ++ option_to_list o) w.in_default.is ∙ append-nil c.loop-i.places.items ∙ ap (λ (v : Vec ℕ). v.items) (sym w.places-is)
])
