use Rattle.std.proofs.Common.{◌∙◌, rules, sym, subst, Ok}
use Rattle.unit_files.specs.Formed.{UnitOf}
use Rattle.unit_files.proofs.Reading.Answered.{whole, first}
use Rattle.unit_files.proofs.unit.Unit.read.Goals as goal

pub returns-in_err-read-clause-whole : goal.returns-in_err-read-clause-whole
returns-in_err-read-clause-whole c = whole c.one_meaning.ensures c.args.bytes.now c.from_residual.result (search rules) (search rules)

pub returns-in_err-read-clause-first : goal.returns-in_err-read-clause-first
returns-in_err-read-clause-first c = first c.one_meaning.ensures c.args.bytes.now c.from_residual.result (search rules) (search rules)

pub returns-clause-whole : goal.returns-clause-whole
returns-clause-whole c = whole c.one_meaning.ensures c.args.bytes.now (Ok c.in_ok-of.field-0) (subst (λ u. UnitOf c.args.bytes.now u) (sym (c.in_ok-of.ensures ∙ c.read.view_is)) c.in_ok-read.ensures.ok) tt

pub returns-clause-first : goal.returns-clause-first
returns-clause-first c = first c.one_meaning.ensures c.args.bytes.now (Ok c.in_ok-of.field-0) (subst (λ u. UnitOf c.args.bytes.now u) (sym (c.in_ok-of.ensures ∙ c.read.view_is)) c.in_ok-read.ensures.ok) tt
