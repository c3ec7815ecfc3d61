use Rattle.file_fields.proofs.FarEnds.{FewBytes, ends_inside}
use Rattle.file_fields.proofs.laws.ends_by_most.Goals as goal

pub returns : goal.returns
returns g c = λ grammar n most fs after bytes sound inside.
    let few : FewBytes = λ text i s. (c.spelling_length.ensures text i s).1 in
    ends_inside few _ grammar n fs after bytes most sound inside
