use Rattle.std.proofs.Common.{rules}
use Rattle.unit_files.proofs.Reading.Words.{first_is}
use Rattle.unit_files.proofs.code_places.first_of.Goals as goal

pub returns-in_default : goal.returns-in_default
returns-in_default c = record { spelled = λ text more i s e. let k = c.decode.ensures.spelled text more i s e in search (rules, k); some = tt }

pub returns-clause-spelled : goal.returns-clause-spelled
returns-clause-spelled c = λ text more i s e.
    first_is c.spellings_are_read.ensures c.args.bytes.now c.split_at.result.0.now text more i c.in-One.inst c.in-One.len c.in_ok-whole_words.field-0 s e (c.in-One.ensures.spelled text more i s e) c.split_at.ensures.front c.in_ok-whole_words.ensures.spelled
