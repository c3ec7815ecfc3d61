use Rattle.std.proofs.Common.{sym}
use Rattle.unit_files.proofs.Reading.Codes.{cut_code, whole_code, unknown_code}
use Rattle.unit_files.proofs.code_reader.no_function.Goals as goal

pub returns-in-Short : goal.returns-in-Short
returns-in-Short c = λ n some.
    cut_code c.args.reader.now.file.now c.args.reader.now.at n some (sym (rw c.split_at.ensures.back at c.in-Short.ensures.one))

pub returns-in-One : goal.returns-in-One
returns-in-One c = λ n some.
    whole_code c.args.reader.now.file.now c.args.reader.now.at n some c.in-One.inst c.in-One.len c.in-One.ensures.answers.0 (sym (rw c.split_at.ensures.back at c.in-One.ensures.one))

pub returns-in-Unknown : goal.returns-in-Unknown
returns-in-Unknown c = λ n some.
    unknown_code c.args.reader.now.file.now c.args.reader.now.at n some (sym (rw c.split_at.ensures.back at c.in-Unknown.ensures.one))
