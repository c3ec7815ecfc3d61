use Rattle.std.proofs.Common.{◌≡◌, rules, sym, true, false}
use Rattle.unit_files.specs.CodeWords.{lacks_function}
use Rattle.unit_files.proofs.Reading.Codes.{refused_so, code_same}
use Rattle.unit_files.proofs.code_reader.unit_code.Goals as goal

pub returns-then-lacks_function-clause-gives : goal.returns-then-lacks_function-clause-gives
returns-then-lacks_function-clause-gives c =
    let none : lacks_function c.args.functions.now c.args.size ≡ true = search rules in
    refused_so c.args.functions.now c.args.size c.args.reader.now.file.now c.args.reader.now.at _ none c.no_function.ensures

pub returns-clause-gives : goal.returns-clause-gives
returns-clause-gives c =
    let some : lacks_function c.args.functions.now c.args.size ≡ false = search rules in
    let same = code_same c.args.functions.now c.args.size c.args.reader.now.file.now c.args.reader.now.at some in
    rw (sym same) (rw c.requires at c.code.ensures.gives)
