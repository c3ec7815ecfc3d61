use Rattle.std.proofs.Common.{sym, ◌∙◌}
use Rattle.tal_image.proofs.Reading.Limits.{part_fits}
use Rattle.tal_image.proofs.row_reader.function.Goals as goal

pub returns-clause-fits : goal.returns-clause-fits
returns-clause-fits c = part_fits c.args.ext c.args.later c.args.left c.in_ok-length.length (sym c.length_fits.ensures ∙ c.in_ok-require.ensures.met)
