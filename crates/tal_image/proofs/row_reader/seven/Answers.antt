use Rattle.std.proofs.Common.{rules}
use Rattle.tal_image.proofs.Reading.RowReadings.{seven_run}
use Rattle.tal_image.proofs.row_reader.seven.Goals as goal

pub returns-in_err-read-clause-gives : goal.returns-in_err-read-clause-gives
returns-in_err-read-clause-gives c = rw seven_run (search rules)

pub returns-in_err-read-2-clause-gives : goal.returns-in_err-read-2-clause-gives
returns-in_err-read-2-clause-gives c = rw seven_run (search rules)

pub returns-in_err-read-3-clause-gives : goal.returns-in_err-read-3-clause-gives
returns-in_err-read-3-clause-gives c = rw seven_run (search rules)

pub returns-in_err-read-4-clause-gives : goal.returns-in_err-read-4-clause-gives
returns-in_err-read-4-clause-gives c = rw seven_run (search rules)

pub returns-in_err-read-5-clause-gives : goal.returns-in_err-read-5-clause-gives
returns-in_err-read-5-clause-gives c = rw seven_run (search rules)

pub returns-in_err-read-6-clause-gives : goal.returns-in_err-read-6-clause-gives
returns-in_err-read-6-clause-gives c = rw seven_run (search rules)

pub returns-in_err-read-7-clause-gives : goal.returns-in_err-read-7-clause-gives
returns-in_err-read-7-clause-gives c = rw seven_run (search rules)

pub returns-clause-gives : goal.returns-clause-gives
returns-clause-gives c = rw seven_run (search rules)
