use Rattle.std.proofs.Common.{rules}
use Rattle.tal_image.specs.CodeReading.{offset_fits}
use Rattle.tal_image.proofs.Reading.CodeRows.{mark_run}
use Rattle.tal_image.proofs.code_reader.MarkPartRowAfterMarkPlacesU64.read.Goals as goal

pub returns-in_err-require-clause-gives : goal.returns-in_err-require-clause-gives
unfolding offset_fits
returns-in_err-require-clause-gives c = rw mark_run (search rules)

pub returns-clause-gives : goal.returns-clause-gives
unfolding offset_fits
returns-clause-gives c = rw mark_run (search rules)
