use Rattle.std.proofs.Common.{sym, ◌∙◌}
use Rattle.file_fields.specs.Grammar.{between}
use Rattle.tal_image.proofs.Reading.Limits.{given_within}
use Rattle.tal_image.proofs.header_reader.given.Goals as goal

pub returns-clause-most : goal.returns-clause-most
returns-clause-most c =
    given_within c.args.partial c.args.low c.args.high c.in_ok-number.number
    (sym (c.is_met.ensures (between c.args.low c.args.high) c.is_within-within.ensures) ∙ c.in_ok-require.ensures.met)
