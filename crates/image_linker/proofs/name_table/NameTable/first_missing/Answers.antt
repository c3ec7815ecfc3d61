use Rattle.std.proofs.Common.{true, false, not, arith, sym, ap, ◌∙◌}
use Rattle.std.specs.Prelude.{is_none}
use Rattle.std.proofs.lemmas.List.{drop_all}
use Rattle.image_linker.proofs.Mentions.Rows.{found, found_missing}
use Rattle.image_linker.proofs.Mentions.Entries.{found_at, not_not}
use Rattle.image_linker.proofs.name_table.NameTable.first_missing.Goals as goal

pub returns-then-is_none : goal.returns-then-is_none
returns-then-is_none c rows was =
    sym (found_missing rows) ∙ ap (found (λ o. is_none o.first)) (sym was) ∙ c.loop-i.invariant
    ∙ found_at (λ o. is_none o.first) c.args.self.now c.loop-i.i _ true c.row.ensures (ap not c.is_none.ensures ∙ not_not c.is_none.result ∙ c.if-is_none.true)

pub returns : goal.returns
returns c rows was =
    sym (found_missing rows) ∙ ap (found (λ o. is_none o.first)) (sym was) ∙ c.loop-i.invariant
    ∙ ap (found (λ o. is_none o.first)) (drop_all c.loop-i.i c.args.self.now (omega (arith, c.loop-i-test.false, c.count-i-end.ensures)))

pub loop-i-preserved : goal.loop-i-preserved
loop-i-preserved c = c.loop-i.invariant ∙ found_at (λ o. is_none o.first) c.args.self.now c.loop-i.i _ false c.row.ensures (ap not c.is_none.ensures ∙ not_not c.is_none.result ∙ c.if-is_none.false)
