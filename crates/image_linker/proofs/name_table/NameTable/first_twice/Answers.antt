use Rattle.std.proofs.Common.{true, false, arith, sym, ap, ◌∙◌}
use Rattle.std.proofs.lemmas.List.{drop_all}
use Rattle.image_linker.proofs.Mentions.Rows.{found, found_twice}
use Rattle.image_linker.proofs.Mentions.Entries.{found_at}
use Rattle.image_linker.proofs.name_table.NameTable.first_twice.Goals as goal

pub returns-then-owner : goal.returns-then-owner
returns-then-owner c rows was =
    sym (found_twice rows) ∙ ap (found (λ o. o.twice)) (sym was) ∙ c.loop-i.invariant
    ∙ found_at (λ o. o.twice) c.args.self.now c.loop-i.i _ true c.row.ensures c.if-owner.true

pub returns : goal.returns
returns c rows was =
    sym (found_twice rows) ∙ ap (found (λ o. o.twice)) (sym was) ∙ c.loop-i.invariant
    ∙ ap (found (λ o. o.twice)) (drop_all c.loop-i.i c.args.self.now (omega (arith, c.loop-i-test.false, c.count-i-end.ensures)))

pub loop-i-preserved : goal.loop-i-preserved
loop-i-preserved c = c.loop-i.invariant ∙ found_at (λ o. o.twice) c.args.self.now c.loop-i.i _ false c.row.ensures c.if-owner.false
