use Rattle.tal_image.proofs.Meaning.Bodies.{SomeText}
use Rattle.tal_image.proofs.Meaning.Files.{stands, read}
use Rattle.tal_image.proofs.laws.read_as_fields.Goals as goal

pub returns : goal.returns
returns c =
    let some : SomeText = λ text i s. (c.spelling_length.ensures text i s).0 in
    let numbers = c.number_meanings.ensures in
    λ bytes i. (read numbers some bytes i, stands numbers some bytes i)
