use Rattle.std.proofs.Common.{rules, sym, subst, Ok}
use Rattle.tal_image.specs.Formed.{ImageOf}
use Rattle.tal_image.proofs.Meaning.Answered.{whole, first}
use Rattle.tal_image.proofs.image.Image.read.Goals as goal

pub returns-in_err-rows-clause-whole : goal.returns-in_err-rows-clause-whole
returns-in_err-rows-clause-whole c = whole c.one_meaning.ensures c.args.bytes.now c.from_residual.result (search rules) (search rules)

pub returns-in_err-rows-clause-first : goal.returns-in_err-rows-clause-first
returns-in_err-rows-clause-first c = first c.one_meaning.ensures c.args.bytes.now c.from_residual.result (search rules) (search rules)

pub returns-clause-whole : goal.returns-clause-whole
returns-clause-whole c = whole c.one_meaning.ensures c.args.bytes.now (Ok c.in_ok-placed.field-0) (subst (λ i. ImageOf c.args.bytes.now i) (sym c.in_ok-placed.ensures) c.in_ok-rows.ensures.ok) tt

pub returns-clause-first : goal.returns-clause-first
returns-clause-first c = first c.one_meaning.ensures c.args.bytes.now (Ok c.in_ok-placed.field-0) (subst (λ i. ImageOf c.args.bytes.now i) (sym c.in_ok-placed.ensures) c.in_ok-rows.ensures.ok) tt
