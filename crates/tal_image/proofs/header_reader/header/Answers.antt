use Rattle.std.proofs.Common.{rules, ◌∙◌}
use Rattle.std.proofs.lemmas.Result.{err_from_is_err_and}
use Rattle.tal_image.proofs.Reading.RowReadings.{header_run}
use Rattle.tal_image.proofs.Reading.Steps.{refused}
use Rattle.tal_image.proofs.header_reader.header.Goals as goal

pub returns-in_err-given-clause-gives : goal.returns-in_err-given-clause-gives
returns-in_err-given-clause-gives c = rw header_run (search rules)

pub returns-in_err-given-2-clause-gives : goal.returns-in_err-given-2-clause-gives
returns-in_err-given-2-clause-gives c = rw header_run (search rules)

pub returns-in_err-given-3-clause-gives : goal.returns-in_err-given-3-clause-gives
returns-in_err-given-3-clause-gives c = rw header_run (search rules)

pub returns-in_err-given-4-clause-gives : goal.returns-in_err-given-4-clause-gives
returns-in_err-given-4-clause-gives c =
    let p = err_from_is_err_and c.from_residual-in_err-given-4.result c.from_residual-in_err-given-4.ensures.1 in
    let f1 = c.in_ok-letters.ensures.file in
    let f2 = c.in_ok-version.ensures.file ∙ f1 in
    let f3 = c.in_ok-heap_words.ensures.file ∙ f2 in
    let f4 = c.in_ok-given.ensures.file ∙ f3 in
    let f5 = c.in_ok-given-2.ensures.file ∙ f4 in
    let f6 = c.in_ok-given-3.ensures.file ∙ f5 in
    let f7 = c.in_ok-ranged.ensures.file ∙ f6 in
    let f8 = c.in_ok-ranged-2.ensures.file ∙ f7 in
    let f9 = c.in_ok-ranged-3.ensures.file ∙ f8 in
    let f10 = c.in_ok-ranged-4.ensures.file ∙ f9 in
    rw (p.1, p.2) (
    rw (
      header_run c.args.magic c.args.partial c.args.reader.now.file.now c.args.reader.now.at,
      c.in_ok-letters.ensures.gives,
      rw f1 at c.in_ok-version.ensures.gives,
      rw f2 at c.in_ok-heap_words.ensures.gives,
      rw f3 at c.in_ok-given.ensures.gives,
      rw f4 at c.in_ok-given-2.ensures.gives,
      rw f5 at c.in_ok-given-3.ensures.gives,
      rw f6 at c.in_ok-ranged.ensures.gives,
      rw f7 at c.in_ok-ranged-2.ensures.gives,
      rw f8 at c.in_ok-ranged-3.ensures.gives,
      rw f9 at c.in_ok-ranged-4.ensures.gives,
    ) (refused c.in_err-given-4.field-0.0 _ _ (rw f10 at c.in_err-given-4.ensures.gives)))

pub returns-in_err-ranged-clause-gives : goal.returns-in_err-ranged-clause-gives
returns-in_err-ranged-clause-gives c = rw header_run (search rules)

pub returns-in_err-ranged-2-clause-gives : goal.returns-in_err-ranged-2-clause-gives
returns-in_err-ranged-2-clause-gives c = rw header_run (search rules)

pub returns-in_err-ranged-3-clause-gives : goal.returns-in_err-ranged-3-clause-gives
returns-in_err-ranged-3-clause-gives c = rw header_run (search rules)

pub returns-in_err-ranged-4-clause-gives : goal.returns-in_err-ranged-4-clause-gives
returns-in_err-ranged-4-clause-gives c = rw header_run (search rules)

pub returns-in_err-ranged-5-clause-gives : goal.returns-in_err-ranged-5-clause-gives
returns-in_err-ranged-5-clause-gives c = rw header_run (search rules)

pub returns-in_err-ranged-6-clause-gives : goal.returns-in_err-ranged-6-clause-gives
returns-in_err-ranged-6-clause-gives c = rw header_run (search rules)

pub returns-clause-gives : goal.returns-clause-gives
returns-clause-gives c = rw header_run (search rules)
