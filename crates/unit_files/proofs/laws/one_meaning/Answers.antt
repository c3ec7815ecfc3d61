use Rattle.unit_files.specs.Fields.{unit_fields}
use Rattle.unit_files.proofs.laws.one_meaning.Goals as goal

pub returns : goal.returns
returns c =
    let law = c.one_meaning.ensures unit_fields in
    let sound = c.read_as_fields.ensures in
    record {
      one_unit = λ bytes u v a b. law.one_value bytes u v ((sound bytes u).1 a) ((sound bytes v).1 b);
      one_fault = law.one_fault;
      not_both = λ bytes u f a b. law.not_both bytes u f ((sound bytes u).1 a) b;
    }
