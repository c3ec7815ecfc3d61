use Rattle.std.proofs.Common.{rules}
use Rattle.unit_files.proofs.Reading.RowReadings.{header_run}
use Rattle.unit_files.proofs.row_reader.unit_header.Goals as goal

pub returns-in_err-ranged-3-clause-gives : goal.returns-in_err-ranged-3-clause-gives
returns-in_err-ranged-3-clause-gives c = rw header_run (search rules)

pub returns-clause-gives : goal.returns-clause-gives
returns-clause-gives c = rw header_run (search rules)
