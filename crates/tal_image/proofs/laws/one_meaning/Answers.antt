use Rattle.tal_image.specs.Fields.{image_fields}
use Rattle.tal_image.proofs.laws.one_meaning.Goals as goal

pub returns : goal.returns
returns c =
    let law = c.one_meaning.ensures image_fields in
    let sound = c.read_as_fields.ensures in
    record {
      one_image = λ bytes i j a b. law.one_value bytes i j ((sound bytes i).1 a) ((sound bytes j).1 b);
      one_fault = law.one_fault;
      not_both = λ bytes i f a b. law.not_both bytes i f ((sound bytes i).1 a) b;
    }
